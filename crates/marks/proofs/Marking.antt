-- The pointers of fields, marked one behind the other.
use mathlib.Core.Path.{◌≡◌, refl, sym, ap, ◌∙◌}
use mathlib.Core.Bool.{Bool}
use mathlib.Core.List.{List, [], ◌∷◌, ◌++◌, append_assoc}
use Prim.Native.Nat.{ℕ, ◌+◌, ◌-◌, ◌*◌, ◌≤◌, ◌<◌}
use native.Mathlib.Omega.{arith}
use lib.IntN.{ℤ}
use lib.ListN.{length, take, get_or}
use Rattle.semantics.specs.Text.{Bytes}
use Rattle.semantics.specs.Tree.{Ty}
use Rattle.semantics.specs.Layout.{align_up, size_of, align_of, is_ptr, marks_of, PlacedField, place_names, place_line, place, pointers_of}
use Rattle.field_list.specs.declared.Field.{Field}
use Rattle.field_list.specs.Fields.{line_fields_from, line_fields, pointers_in}
use Rattle.field_list.proofs.Laws.{line-take}
use Rattle.decimal.specs.Number as Number
use Rattle.lines.specs.Lines.{read_at}
use Rattle.sizes.specs.Sizes.{type_at, Measures}
use Rattle.sizes.specs.declared.place.Refs.{Refs}
use Rattle.sizes.specs.Places.{fd_at, fds_from, fds_of_refs, FieldLine, FieldRefs, line_bytes}
use Rattle.sizes.proofs.Places.{names-end, untyped, typed, names-are, fields-next}
use Rattle.maps.specs.Maps.{Marks}
use Rattle.marks.specs.Fields.{LineMarked, AllMarked}
use Rattle.maps.proofs.Maps.{marks-none, marks_then}

pub append-none : {A : Type 0} (xs : List A) → xs ++ [] ≡ xs
append-none [] = refl
append-none (x ∷ xs) = ap (λ (l : List _). x ∷ l) (append-none xs)

-- ---- names

names-pointers : (ty : Ty) (off : ℕ) (ns : List Bytes) → pointers_of (place_names ty off ns).placed ≡ pointers_in (line_fields_from off (size_of ty) (is_ptr ty) (length ns))
unfolding line_fields_from
names-pointers ty off [] = refl
names-pointers ty off (n ∷ ns) = ap (λ (l : List ℤ). marks_of ty off ++ l) (names-pointers ty (off + size_of ty) ns)

-- the first fields of an array are those of the line
pub names_marked : (size off step names : ℕ) (pointer : Bool) {a : List Field} {t u : List ℕ} → a ≡ line_fields off step pointer names → Marks size (pointers_in (take names a)) t u
    → Marks size (pointers_in (line_fields_from off step pointer names)) t u
names_marked size off step names pointer e m = rw (e, line-take step pointer off names) at m

-- ---- an `fd` line

module _ (s t : List ℕ) (r : ℕ) (l : FieldLine s r) (v : ℕ) (hv : v ≡ Number.number_up_to 65536 (get_or (read_at s (r - 1)).fields 0 [])) (size off : ℕ) where
  pub line-untyped : v ≡ 0 → LineMarked (fd_at s r).ty (fd_at s r).names size off off t t
  line-untyped z = rw (untyped s r l v hv z) (record { end = refl; marks = marks-none })

  pub line-typed : (z : v ≡ 0 → ⊥) (w : ℕ) → w ≡ Number.number_up_to 65536 (get_or (read_at s (r - 1)).fields 1 []) → (a b at q : ℕ) (u : List ℕ) → Measures (type_at s v) a b → at ≡ align_up b off
      → q ≡ at + w * a → {pointer : Bool} → pointer ≡ is_ptr (type_at s v) → Marks size (pointers_in (line_fields_from at a pointer w)) t u → LineMarked (fd_at s r).ty (fd_at s r).names size off q t u
  line-typed z w hw a b at q u m ha hq hp x =
      let ns = (fd_at s r).names in
      let c : w ≡ length ns = names-are s r l v hv z w hw in
      let e : at ≡ align_up (align_of (type_at s v)) off = rw (← m.step) ha in
      rw (typed s r l v hv z) (record {
        end = hq ∙ rw (e, c, m.whole) (sym (names-end (type_at s v) (align_up (align_of (type_at s v)) off) ns));
        marks = rw (names-pointers (type_at s v) (align_up (align_of (type_at s v)) off) ns) (rw (e, c, m.whole, hp) at x);
      })

-- ---- several lines

pub pointers-append : (ps qs : List PlacedField) → pointers_of (ps ++ qs) ≡ pointers_of ps ++ pointers_of qs
pointers-append [] qs = refl
pointers-append (p ∷ ps) qs = rw (pointers-append ps qs) (sym (append_assoc (marks_of p.ty p.offset) (pointers_of ps) (pointers_of qs)))

-- the first j lines are marked, and end at q
pub record LinesMarked (s : List ℕ) (f : Refs) (size off q j : ℕ) (t u : List ℕ) : Type 0 where
  pub done : List ℤ
  pub within : j ≤ f.count
  pub end : (place q (fds_from s f.line (f.from + j) (f.count - j))).end ≡ (place off (fds_of_refs s f)).end
  pub marks : Marks size done t u
  pub rest : done ++ pointers_of (place q (fds_from s f.line (f.from + j) (f.count - j))).placed ≡ pointers_of (place off (fds_of_refs s f)).placed
  pub small : q ≤ off + line_bytes * j

module _ (s t : List ℕ) (f : Refs) (l : FieldRefs s f) (size off : ℕ) where
  pub lines-marked-start : LinesMarked s f size off off 0 t t
  lines-marked-start =
      let z : f.from + 0 ≡ f.from = omega arith in
      let y : f.count - 0 ≡ f.count = omega arith in
      record { done = []; within = omega arith; end = rw (z, y); marks = marks-none; rest = rw (z, y); small = omega arith }

  pub lines-marked-next : {q j p v : ℕ} {u w : List ℕ} → LinesMarked s f size off q j t u → j < f.count → v ≡ Number.number_up_to 65536 (get_or (read_at s (f.line - 1)).fields (f.from + j) [])
      → LineMarked (fd_at s v).ty (fd_at s v).names size q p u w → p ≤ q + line_bytes → LinesMarked s f size off p (j + 1) t w
  lines-marked-next {q} {j} {p} {v} {u} {w} m h hv x b =
      let e = fields-next s f l j h v hv in
      let g = place_line (fd_at s v).ty (fd_at s v).names q in
      let more = fds_from s f.line (f.from + (j + 1)) (f.count - (j + 1)) in
      record {
        done = m.done ++ pointers_of g.placed;
        within = omega arith;
        end = rw x.end (rw e at m.end);
        marks = marks_then m.marks x.marks;
        rest = rw (x.end, append_assoc, ← pointers-append g.placed (place g.end more).placed) (rw e at m.rest);
        small = omega (arith, m.small);
      }

  pub lines-marked-end : {q j : ℕ} {u : List ℕ} → LinesMarked s f size off q j t u → f.count ≤ j → AllMarked (fds_of_refs s f) size off q t u
  lines-marked-end {q} {j} {u} m h =
      let z : f.count - j ≡ 0 = omega arith in
      let e : m.done ≡ pointers_of (place off (fds_of_refs s f)).placed = sym (append-none m.done) ∙ (rw z at m.rest) in
      record { end = rw z at m.end; marks = rw e at m.marks }
