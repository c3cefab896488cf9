-- Where `fd` lines are placed.
use mathlib.Core.Path.{◌≡◌, refl, sym, ap, ◌∙◌}
use mathlib.Core.Bool.{Bool, true, false}
use mathlib.Core.List.{List, [], ◌∷◌, ◌++◌}
use Rattle.std.specs.Prelude.{None, Some}
use Prim.Native.Nat.{ℕ, zero, suc, ◌+◌, ◌-◌, ◌*◌, ◌≤◌, ◌<◌, max}
use native.Mathlib.Nat.{mul-le-mul_left, mul-le-mul_right, suc-mul}
use native.Mathlib.Numerals.{add-one}
use native.Mathlib.Omega.{arith}
use lib.Dec.{eqb}
use lib.ListN.{length, take, drop, get_or}
use lib.Seq.{get_or-drop}
use borrow.Author.Tests.{eqb-true, eqb-false}
use Rattle.semantics.specs.Text.{Bytes, head_part, tail_parts}
use Rattle.semantics.specs.Tree.{Ty, Node}
use Rattle.semantics.specs.Form.{Read, Row, Part, letter, forms, node_at, perhaps_at, values, number_of, fits, holds, is_count, ones, ty_of, fds_of}
use Rattle.semantics.specs.Form.Kind.{k_ty, k_fd, k_pc}
use Rattle.semantics.specs.Form.Atom.{name, ref, maybe}
use Rattle.semantics.specs.Form.Part.{one, many}
use Rattle.semantics.specs.Refusal.{refs_in}
use Rattle.semantics.specs.Layout.{align_up, size_of, align_of, PlacedField, place_names, place, furthest}
use Rattle.field_list.specs.declared.Field.{Field}
use Rattle.field_list.specs.Fields.{line_fields_from, line_fields, furthest_in}
use Rattle.field_list.proofs.Laws.{line-take}
use Rattle.decimal.specs.Number as Number
use Rattle.form.specs.Table.{row_at, kind_at, row_node}
use Rattle.semantics.proofs.Common.{never, both}
use Rattle.lines.specs.Lines.{lines_in, reads_in, read_at, nodes_in, form_at}
use Rattle.lines.proofs.Line.{form-low, form-is, kind-is, read_fits}
use Rattle.refs.specs.Refs.{fine_refs}
use Rattle.refs.proofs.Fine.{needed-ref}
use Rattle.refs.proofs.Nodes.{node-at}
use Rattle.refs.proofs.Fields.{number-exact, count-exact, first_count, head-drop, tail-drop, values_length}
use Rattle.checks.specs.Checks.{Checked}
use Rattle.sizes.specs.declared.place.Reached.{Reached}
use Rattle.sizes.specs.declared.place.Refs.{Refs}
use Rattle.sizes.specs.Sizes.{type_at, TypeLine, Measures}
use Rattle.sizes.specs.Places.{fd_at, fds_from, fds_of_refs, first_decl, decl_at, common_fields, case_fields, FieldLine, FieldRefs, RecordLine, CaseLine, LinePlaced, AllPlaced, line_bytes}
use Rattle.sizes.proofs.Forms.{field-form, case-form, adt-form, pick-form}
use Rattle.sizes.proofs.Types.{given-ref, May, maybe-head, CountedRefs, group_at}

-- 16 names of the largest type
pub names-small : {a b : ℕ} → a ≤ 16 → b ≤ 8192 → a * b ≤ 131072
names-small {a} {b} h k = omega (arith, mul-le-mul_left a k, mul-le-mul_right 8192 h)

-- names lie one behind the other
pub names-end : (t : Ty) (off : ℕ) (ns : List Bytes) → (place_names t off ns).end ≡ off + length ns * size_of t
names-end t off [] = omega arith
names-end t off (n ∷ ns) = omega (arith, names-end t (off + size_of t) ns, suc-mul (length ns) (size_of t))

names-furthest : (t : Ty) (pointer : Bool) (off f : ℕ) (ns : List Bytes) → furthest_in f (line_fields_from off (size_of t) pointer (length ns)) ≡ furthest f (place_names t off ns).placed
unfolding line_fields_from
names-furthest t pointer off f [] = refl
names-furthest t pointer off f (n ∷ ns) = names-furthest t pointer (off + size_of t) (max f (off + size_of t)) ns

-- the furthest end of a line's list
pub list-furthest : (size at names f : ℕ) (pointer : Bool) {a : List Field} {e : ℕ} → a ≡ line_fields at size pointer names → e ≡ furthest_in f (take names a) → e ≡ furthest_in f (line_fields_from at size pointer names)
list-furthest size at names f pointer h k = k ∙ rw (h, line-take size pointer at names)

pub line-placed : (p q : Reached) (size align names at : ℕ) (pointer : Bool) → at ≡ align_up align p.end → q.end ≡ at + names * size → q.furthest ≡ furthest_in p.furthest (line_fields_from at size pointer names)
    → (t : Ty) (ns : List Bytes) → Measures t size align → names ≡ length ns → LinePlaced (Some t) ns p q
line-placed p q size align names at pointer ha he hf t ns m hn = record {
  end = rw (names-end t (align_up (align_of t) p.end) ns, he, ha, hn, m.whole, m.step);
  furthest = hf ∙ rw (← names-furthest t pointer (align_up (align_of t) p.end) p.furthest ns, ha, hn, m.whole, m.step);
}

-- ---- an `fd` line

abbrev field_parts : List Part
field_parts = one (maybe k_ty) ∷ (many name ∷ [])

module _ (s : List ℕ) (r : ℕ) (l : FieldLine s r) where
  field_in : r - 1 < lines_in s
  field_in = omega (arith, l.first, l.last)

  form-fd : form_at s (r - 1) ≡ 24
  form-fd = field-form (form_at s (r - 1)) (form-low s l.checked.whole (r - 1) field_in) (sym (kind-is s l.checked.whole (r - 1) field_in) ∙ l.kind)

  parts-good : May (reads_in s) (r - 1) 75 (get_or (read_at s (r - 1)).fields 0 []) × (is_count (get_or (read_at s (r - 1)).fields 1 []) ≡ true)
  unfolding forms
  parts-good =
      let w = l.checked.whole in
      let p : (read_at s (r - 1)).form.parts ≡ field_parts = ap (λ (x : Row). x.parts) (form-is s w (r - 1) field_in) ∙ ap (λ (g : ℕ). (row_at g).parts) form-fd in
      let v = maybe-head (reads_in s) (r - 1) k_ty (many name ∷ []) (read_at s (r - 1)).fields (rw form-fd at (read_fits s w (r - 1) field_in)) (rw p at (l.checked.fine (r - 1) field_in)) in
      (v.0, rw (get_or-drop 1 (read_at s (r - 1)).fields 0 []) at (first_count name [] (drop 1 (read_at s (r - 1)).fields) v.1))

  pub fd_is : fd_at s r ≡ record { ty = ty_of (perhaps_at (nodes_in s) (number_of (get_or (read_at s (r - 1)).fields 0 []))); names = values name (nodes_in s) (number_of (get_or (read_at s (r - 1)).fields 1 [])) (drop 2 (read_at s (r - 1)).fields) }
  unfolding forms
  fd_is =
      ap (λ (m : Node). m.fd) (node-at s l.checked.whole l.checked.good (r - 1) field_in)
      ∙ rw (form-fd, tail-drop 0 (read_at s (r - 1)).fields, tail-drop 1 (read_at s (r - 1)).fields, head-drop 0 (read_at s (r - 1)).fields, head-drop 1 (read_at s (r - 1)).fields)

  module _ (v : ℕ) (hv : v ≡ Number.number_up_to 65536 (get_or (read_at s (r - 1)).fields 0 [])) where
    type-number : v ≡ number_of (get_or (read_at s (r - 1)).fields 0 [])
    type-number = hv ∙ number-exact (get_or (read_at s (r - 1)).fields 0 []) parts-good.0.number (go (eqb (number_of (get_or (read_at s (r - 1)).fields 0 [])) 0) refl)
      where
        go : (b : Bool) → eqb (number_of (get_or (read_at s (r - 1)).fields 0 [])) 0 ≡ b → number_of (get_or (read_at s (r - 1)).fields 0 []) ≤ 65536
        go true e = omega (arith, eqb-true (number_of (get_or (read_at s (r - 1)).fields 0 [])) 0 e)
        go false e =
            let w = given-ref (reads_in s) (r - 1 + 1) 75 (number_of (get_or (read_at s (r - 1)).fields 0 [])) parts-good.0.fine (eqb-false (number_of (get_or (read_at s (r - 1)).fields 0 [])) 0 e) in
            omega (arith, w.0, l.last, l.checked.whole.few)

    pub untyped : v ≡ 0 → (fd_at s r).ty ≡ None
    untyped z = rw (fd_is, sym type-number ∙ z)

    pub placed-untyped : v ≡ 0 → (p : Reached) → LinePlaced (fd_at s r).ty (fd_at s r).names p p
    placed-untyped z p = rw (untyped z) (record { end = refl; furthest = refl })

    module _ (z : v ≡ 0 → ⊥) where
      pub type-line : TypeLine s v
      type-line =
          let w = given-ref (reads_in s) (r - 1 + 1) 75 v (rw (← type-number) at parts-good.0.fine) z in
          record { checked = l.checked; first = omega (arith, z); last = omega (arith, w.0, l.first, l.last); kind = w.1 }

      pub typed : (fd_at s r).ty ≡ Some (type_at s v)
      typed = rw (fd_is, ← type-number) (ap ty_of (perhaps-some v z))
        where
          perhaps-some : (m : ℕ) → (m ≡ 0 → ⊥) → perhaps_at (nodes_in s) m ≡ Some (node_at (nodes_in s) m)
          perhaps-some zero e = absurd (e refl)
          perhaps-some (suc m) e = refl

      module _ (w : ℕ) (hw : w ≡ Number.number_up_to 65536 (get_or (read_at s (r - 1)).fields 1 [])) where
        pub names-few : w ≤ 16
        names-few = (count-exact (get_or (read_at s (r - 1)).fields 1 []) parts-good.1 hw).1

        pub names-are : w ≡ length (fd_at s r).names
        names-are = rw fd_is ((count-exact (get_or (read_at s (r - 1)).fields 1 []) parts-good.1 hw).0 ∙ sym (values_length name (nodes_in s) _ _))

        pub placed-typed : (p q : Reached) → ((ns : List Bytes) → w ≡ length ns → LinePlaced (Some (type_at s v)) ns p q) → LinePlaced (fd_at s r).ty (fd_at s r).names p q
        placed-typed p q h = rw typed (h (fd_at s r).names names-are)

-- ---- several `fd` lines

pub furthest-append : (f : ℕ) (ps qs : List PlacedField) → furthest f (ps ++ qs) ≡ furthest (furthest f ps) qs
furthest-append f [] qs = refl
furthest-append f (p ∷ ps) qs = furthest-append (max f (p.offset + size_of p.ty)) ps qs

-- q is behind the first j lines
pub record BehindLines (s : List ℕ) (f : Refs) (p q : Reached) (j : ℕ) : Type 0 where
  pub within : j ≤ f.count
  pub end : (place q.end (fds_from s f.line (f.from + j) (f.count - j))).end ≡ (place p.end (fds_of_refs s f)).end
  pub furthest : furthest q.furthest (place q.end (fds_from s f.line (f.from + j) (f.count - j))).placed ≡ furthest p.furthest (place p.end (fds_of_refs s f)).placed
  pub small : q.end ≤ p.end + line_bytes * j

module _ (s : List ℕ) (f : Refs) (l : FieldRefs s f) where
  pub refs-in : f.line - 1 < lines_in s
  refs-in = omega (arith, l.first, l.last)

  module _ (j : ℕ) (h : j < f.count) (v : ℕ) (hv : v ≡ Number.number_up_to 65536 (get_or (read_at s (f.line - 1)).fields (f.from + j) [])) where
    line-number : v ≡ number_of (get_or (read_at s (f.line - 1)).fields (f.from + j) [])
    line-number = hv ∙ number-exact (get_or (read_at s (f.line - 1)).fields (f.from + j) []) (l.number j h) (omega (arith, (l.each j h).last, l.checked.whole.few))

    pub refs-line : FieldLine s v
    refs-line = rw line-number (l.each j h)

    pub fields-next : fds_from s f.line (f.from + j) (f.count - j) ≡ fd_at s v ∷ fds_from s f.line (f.from + (j + 1)) (f.count - (j + 1))
    fields-next =
        let z : f.count - j ≡ suc (f.count - (j + 1)) = omega arith in
        let y : f.from + (j + 1) ≡ suc (f.from + j) = omega arith in
        rw (z, y, head-drop (f.from + j) (read_at s (f.line - 1)).fields, tail-drop (f.from + j) (read_at s (f.line - 1)).fields, line-number)

  module _ (p : Reached) where
    pub behind-lines-start : BehindLines s f p p 0
    behind-lines-start =
        let z : f.from + 0 ≡ f.from = omega arith in
        let y : f.count - 0 ≡ f.count = omega arith in
        record { within = omega arith; end = rw (z, y); furthest = rw (z, y); small = omega arith }

    module _ (q : Reached) (j : ℕ) (m : BehindLines s f p q j) where
      pub behind-lines-end : f.count ≤ j → AllPlaced (fds_of_refs s f) p q
      behind-lines-end h = let z : f.count - j ≡ 0 = omega arith in record { end = rw z at m.end; furthest = rw z at m.furthest }

      pub behind-lines-next : (h : j < f.count) (v : ℕ) → v ≡ Number.number_up_to 65536 (get_or (read_at s (f.line - 1)).fields (f.from + j) []) → (u : Reached)
          → LinePlaced (fd_at s v).ty (fd_at s v).names q u → u.end ≤ q.end + line_bytes → BehindLines s f p u (j + 1)
      behind-lines-next h v hv u x b = record {
        within = omega arith;
        end = rw x.end (rw (fields-next j h v hv) at m.end);
        furthest = rw (x.end, x.furthest, ← furthest-append) (rw (fields-next j h v hv) at m.furthest);
        small = omega (arith, m.small);
      }

-- ---- a count at field `at` of line r, and as many references to `fd` lines

module _ (s : List ℕ) (r : ℕ) (c : Checked s) (first : 0 < r) (last : r ≤ lines_in s) (at : ℕ) (near : at ≤ 250) (ps : List Part)
    (hf : fits (many (ref k_fd) ∷ ps) (drop at (read_at s (r - 1)).fields) ≡ true)
    (hr : fine_refs (reads_in s) (r - 1) (refs_in (many (ref k_fd) ∷ ps) (drop at (read_at s (r - 1)).fields)) ≡ true)
    (count : ℕ) (hc : count ≡ Number.number_up_to 65536 (get_or (read_at s (r - 1)).fields at [])) where
  group : CountedRefs (reads_in s) (r - 1) 70 at (read_at s (r - 1)).fields
  group = group_at (reads_in s) (r - 1) at k_fd ps (read_at s (r - 1)).fields hf hr

  group-count : (count ≡ number_of (get_or (read_at s (r - 1)).fields at [])) × (count ≤ 16)
  group-count = count-exact (get_or (read_at s (r - 1)).fields at []) group.count hc

  group-refs : FieldRefs s (record { line = r; from = at + 1; count = count })
  group-refs = record {
    checked = c;
    first = first;
    last = last;
    near = omega (arith, near);
    few = group-count.1;
    number = λ j h. (group.each j (omega (arith, group-count.0))).number;
    each = λ j h.
        let k = needed-ref (reads_in s) (r - 1 + 1) 70 (number_of (get_or (read_at s (r - 1)).fields (at + 1 + j) [])) (group.each j (omega (arith, group-count.0))).fine in
        record { checked = c; first = omega (arith, k.0); last = omega (arith, k.1, last, first); kind = k.2 };
  }

  group-fields : fds_of (values (ref k_fd) (nodes_in s) (number_of (head_part (drop at (read_at s (r - 1)).fields))) (tail_parts (drop at (read_at s (r - 1)).fields))) ≡ fds_from s r (at + 1) count
  group-fields = rw (head-drop at (read_at s (r - 1)).fields, tail-drop at (read_at s (r - 1)).fields, ← group-count.0, ← add-one at)

-- ---- an `adt` or `pick` line: a name, the group of its fields, and what a pick has behind it

pub name-first : (ls : List Read) (i : ℕ) (ps : List Part) (fs : List (List ℕ)) → fits (one name ∷ ps) fs ≡ true → fine_refs ls i (refs_in (one name ∷ ps) fs) ≡ true
    → (fits ps (drop 1 fs) ≡ true) × (fine_refs ls i (refs_in ps (drop 1 fs)) ≡ true)
name-first ls i ps [] h k = never h
name-first ls i ps (f ∷ fs) h k = ((both (holds name f) (fits ps fs) h).1, k)

record RecordRow (s : List ℕ) (r : ℕ) : Type 0 where
  behind : List Part
  parts : (read_at s (r - 1)).form.parts ≡ one name ∷ (many (ref k_fd) ∷ behind)
  fields : common_fields s r ≡ fds_of (values (ref k_fd) (nodes_in s) (number_of (head_part (tail_parts (read_at s (r - 1)).fields))) (tail_parts (tail_parts (read_at s (r - 1)).fields)))

module _ (s : List ℕ) (r : ℕ) (l : RecordLine s r) where
  record-in : r - 1 < lines_in s
  record-in = omega (arith, l.first, l.last)

  same-kind : kind_at (form_at s (r - 1)) ≡ letter (read_at s (r - 1)).form.kind
  same-kind = sym (kind-is s l.checked.whole (r - 1) record-in)

  record-row : RecordRow s r
  unfolding forms decl_at
  record-row = go (eqb (letter (read_at s (r - 1)).form.kind) 65) refl
    where
      row : (f : ℕ) → form_at s (r - 1) ≡ f → (read_at s (r - 1)).form.parts ≡ (row_at f).parts
      row f e = ap (λ (x : Row). x.parts) (form-is s l.checked.whole (r - 1) record-in) ∙ ap (λ (g : ℕ). (row_at g).parts) e

      own : (f : ℕ) → form_at s (r - 1) ≡ f → common_fields s r ≡ (first_decl (row_node (nodes_in s) f (read_at s (r - 1)).fields).declares.adts).fields
      own f e =
          ap (λ (m : Node). (first_decl m.declares.adts).fields) (node-at s l.checked.whole l.checked.good (r - 1) record-in)
          ∙ ap (λ (g : ℕ). (first_decl (row_node (nodes_in s) g (read_at s (r - 1)).fields).declares.adts).fields) e

      go : (b : Bool) → eqb (letter (read_at s (r - 1)).form.kind) 65 ≡ b → RecordRow s r
      go true q =
          let e = adt-form (form_at s (r - 1)) (form-low s l.checked.whole (r - 1) record-in) (same-kind ∙ eqb-true _ _ q) in
          record { behind = []; parts = row 26 e; fields = own 26 e }
      go false q =
          let k : eqb (letter (read_at s (r - 1)).form.kind) 66 ≡ true = rw q at l.kind in
          let e = pick-form (form_at s (r - 1)) (form-low s l.checked.whole (r - 1) record-in) (same-kind ∙ eqb-true _ _ k) in
          record { behind = many (ref k_pc) ∷ []; parts = row 27 e; fields = own 27 e }

  record-fits : (fits (many (ref k_fd) ∷ record-row.behind) (drop 1 (read_at s (r - 1)).fields) ≡ true)
      × (fine_refs (reads_in s) (r - 1) (refs_in (many (ref k_fd) ∷ record-row.behind) (drop 1 (read_at s (r - 1)).fields)) ≡ true)
  record-fits =
      name-first (reads_in s) (r - 1) (many (ref k_fd) ∷ record-row.behind) (read_at s (r - 1)).fields
      (rw (← form-is s l.checked.whole (r - 1) record-in, record-row.parts) at (read_fits s l.checked.whole (r - 1) record-in))
      (rw record-row.parts at (l.checked.fine (r - 1) record-in))

  module _ (count : ℕ) (hc : count ≡ Number.number_up_to 65536 (get_or (read_at s (r - 1)).fields 1 [])) where
    pub common-refs : FieldRefs s (record { line = r; from = 2; count = count })
    common-refs = group-refs s r l.checked l.first l.last 1 (omega arith) record-row.behind record-fits.0 record-fits.1 count hc

    pub common-is : common_fields s r ≡ fds_from s r 2 count
    common-is =
        record-row.fields ∙ rw (tail-drop 0 (read_at s (r - 1)).fields)
        (group-fields s r l.checked l.first l.last 1 (omega arith) record-row.behind record-fits.0 record-fits.1 count hc)

-- ---- a `pc` line: the group of its fields stands behind that of its tags

module _ (ls : List Read) (i : ℕ) (ps : List Part) where
  names-first : (m : ℕ) (fs : List (List ℕ)) → fits (ones m name ++ ps) fs ≡ true → fine_refs ls i (refs_in (ones m name ++ ps) fs) ≡ true
      → (fits ps (drop m fs) ≡ true) × (fine_refs ls i (refs_in ps (drop m fs)) ≡ true)
  names-first zero fs h k = (h, k)
  names-first (suc m) [] h k = never h
  names-first (suc m) (f ∷ fs) h k = names-first m fs (both (holds name f) (fits (ones m name ++ ps) fs) h).1 k

  tags-first : (fs : List (List ℕ)) → fits (many name ∷ ps) fs ≡ true → fine_refs ls i (refs_in (many name ∷ ps) fs) ≡ true
      → (is_count (get_or fs 0 []) ≡ true) × (fits ps (drop (suc (number_of (get_or fs 0 []))) fs) ≡ true) × (fine_refs ls i (refs_in ps (drop (suc (number_of (get_or fs 0 []))) fs)) ≡ true)
  tags-first [] h k = never h
  tags-first (f ∷ fs) h k =
      let w = both (is_count f) (fits (ones (number_of f) name ++ ps) fs) h in
      let v = names-first (number_of f) fs w.1 k in
      (w.0, v.0, v.1)

module _ (s : List ℕ) (r : ℕ) (l : CaseLine s r) where
  pub case-in : r - 1 < lines_in s
  case-in = omega (arith, l.first, l.last)

  pub form-pc : form_at s (r - 1) ≡ 25
  form-pc = case-form (form_at s (r - 1)) (form-low s l.checked.whole (r - 1) case-in) (sym (kind-is s l.checked.whole (r - 1) case-in) ∙ l.kind)

  pub case-good : (is_count (get_or (read_at s (r - 1)).fields 0 []) ≡ true) × (fits (many (ref k_fd) ∷ []) (drop (suc (number_of (get_or (read_at s (r - 1)).fields 0 []))) (read_at s (r - 1)).fields) ≡ true)
      × (fine_refs (reads_in s) (r - 1) (refs_in (many (ref k_fd) ∷ []) (drop (suc (number_of (get_or (read_at s (r - 1)).fields 0 []))) (read_at s (r - 1)).fields)) ≡ true)
  unfolding forms
  case-good =
      let w = l.checked.whole in
      let p : (read_at s (r - 1)).form.parts ≡ many name ∷ (many (ref k_fd) ∷ []) = ap (λ (x : Row). x.parts) (form-is s w (r - 1) case-in) ∙ ap (λ (g : ℕ). (row_at g).parts) form-pc in
      tags-first (reads_in s) (r - 1) (many (ref k_fd) ∷ []) (read_at s (r - 1)).fields (rw form-pc at (read_fits s w (r - 1) case-in)) (rw p at (l.checked.fine (r - 1) case-in))

  module _ (tags : ℕ) (ht : tags ≡ Number.number_up_to 65536 (get_or (read_at s (r - 1)).fields 0 [])) where
    tags-exact : (suc (number_of (get_or (read_at s (r - 1)).fields 0 [])) ≡ tags + 1) × (tags ≤ 16)
    tags-exact = let q = count-exact (get_or (read_at s (r - 1)).fields 0 []) case-good.0 ht in (omega (arith, q.0), q.1)

    tags-few : tags ≤ 16
    tags-few = tags-exact.1

    module _ (count : ℕ) (hc : count ≡ Number.number_up_to 65536 (get_or (read_at s (r - 1)).fields (tags + 1) [])) where
      pub case-refs : FieldRefs s (record { line = r; from = tags + 1 + 1; count = count })
      case-refs =
          group-refs s r l.checked l.first l.last (tags + 1) (omega (arith, tags-few)) [] (rw tags-exact.0 at case-good.1) (rw tags-exact.0 at case-good.2) count hc

      pub case-is : case_fields s r ≡ fds_from s r (tags + 1 + 1) count
      unfolding forms
      case-is =
          ap (λ (m : Node). m.case.fields) (node-at s l.checked.whole l.checked.good (r - 1) case-in)
          ∙ rw (form-pc, head-drop 0 (read_at s (r - 1)).fields, tags-exact.0)
          (group-fields s r l.checked l.first l.last (tags + 1) (omega (arith, tags-few)) [] (rw tags-exact.0 at case-good.1) (rw tags-exact.0 at case-good.2) count hc)
