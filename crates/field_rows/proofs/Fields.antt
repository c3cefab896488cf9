-- Laws of `fld` rows.
use mathlib.Core.Path.{◌≡◌, refl, sym, ap, ◌∙◌}
use mathlib.Core.List.{List, [], ◌∷◌, ◌++◌, append_assoc, append-nil}
use Prim.Native.Nat.{ℕ, ◌+◌, ◌-◌, ◌*◌, ◌≤◌, ◌<◌}
use native.Mathlib.Numerals.{add-one}
use native.Mathlib.Omega.{arith}
use lib.ListN.{length, drop, get_or, drop_of_length-le}
use lib.Seq.{drop-cons, get_or-drop}
use Rattle.semantics.specs.Text.{Bytes}
use Rattle.semantics.specs.Tree.{Ty, Fd}
use Rattle.semantics.specs.Form.{values, number_of}
use Rattle.semantics.specs.Form.Atom.{name}
use Rattle.semantics.specs.Layout.{PlacedField, align_up, size_of, align_of, place_names, place_line, place}
use Rattle.semantics.specs.Listing.{field_row}
use Rattle.decimal.specs.Number as Number
use Rattle.write.specs.declared.Writer.{Writer}
use Rattle.write.specs.Writes.{Writes}
use Rattle.write.proofs.Writes.{writes_none, writes_as, writes_then}
use Rattle.lines.specs.Lines.{read_at, nodes_in}
use Rattle.sizes.specs.declared.place.Refs.{Refs}
use Rattle.sizes.specs.Sizes.{type_at, Measures}
use Rattle.sizes.specs.Places.{fd_at, fds_from, fds_of_refs, FieldLine, FieldRefs, line_bytes}
use Rattle.refs.proofs.Fields.{values_length}
use Rattle.sizes.proofs.Places.{fd_is, names-end, untyped, typed, fields-next}
use Rattle.records.proofs.Picks.{names_at}
use Rattle.laws.proofs.Lists.{concat-append}
use Rattle.field_rows.specs.Rows.{field_text, name_rows, placed_rows, line_rows, field_rows, LineWrote, AllWrote}

pub placed-append : (ps qs : List PlacedField) → placed_rows (ps ++ qs) ≡ placed_rows ps ++ placed_rows qs
unfolding placed_rows
placed-append ps qs = concat-append field_row ps qs

-- ---- the names of an `fd` line

names-rows : (t : Ty) (off : ℕ) (ns : List Bytes) → name_rows (size_of t) off ns ≡ placed_rows (place_names t off ns).placed
unfolding name_rows placed_rows field_text
names-rows t off [] = refl
names-rows t off (n ∷ ns) = ap (λ (x : Bytes). field_row (record { name = n; ty = t; offset = off }) ++ x) (names-rows t (off + size_of t) ns)

module _ (s : List ℕ) (r : ℕ) (l : FieldLine s r) where
  names-values : (fd_at s r).names ≡ values name (nodes_in s) (number_of (get_or (read_at s (r - 1)).fields 1 [])) (drop 2 (read_at s (r - 1)).fields)
  names-values = ap (λ (f : Fd). f.names) (fd_is s r l)

  -- name j is field 2 + j
  pub name-at : (j : ℕ) → j < length (fd_at s r).names → get_or (read_at s (r - 1)).fields (2 + j) [] ≡ get_or (fd_at s r).names j []
  name-at j h =
      let e = ap length names-values ∙ values_length name (nodes_in s) (number_of (get_or (read_at s (r - 1)).fields 1 [])) (drop 2 (read_at s (r - 1)).fields) in
      sym (ap (λ (xs : List (List ℕ)). get_or xs j []) names-values ∙ names_at (nodes_in s) (number_of (get_or (read_at s (r - 1)).fields 1 [])) (drop 2 (read_at s (r - 1)).fields) j (omega (arith, e))
      ∙ get_or-drop 2 (read_at s (r - 1)).fields j [])

-- the rows of the first j names are written, and the next name lies at `off`
pub record NameRowsWritten (size start : ℕ) (ns : List Bytes) (u v : Writer) (off j : ℕ) : Type 0 where
  pub within : j ≤ length ns
  pub small : off ≡ start + j * size
  pub done : Bytes
  pub wrote : Writes u done v
  pub rest : done ++ name_rows size off (drop j ns) ≡ name_rows size start ns

module _ (size start : ℕ) (ns : List Bytes) (u : Writer) where
  pub name-rows-start : NameRowsWritten size start ns u u start 0
  name-rows-start = record { within = omega arith; small = omega arith; done = []; wrote = writes_none u u.room; rest = refl }

  module _ (v : Writer) (off j : ℕ) (g : NameRowsWritten size start ns u v off j) where
    pub name-rows-next : j < length ns → (w : Writer) → Writes v (field_text (get_or ns j []) off size) w → NameRowsWritten size start ns u w (off + size) (j + 1)
    unfolding name_rows
    name-rows-next h w x =
        record {
          within = omega arith;
          small = omega (arith, g.small);
          done = g.done ++ field_text (get_or ns j []) off size;
          wrote = writes_then g.wrote x;
          rest = append_assoc g.done (field_text (get_or ns j []) off size) (name_rows size (off + size) (drop (j + 1) ns)) ∙ rw (add-one j) (rw (drop-cons ns j [] h) at g.rest);
        }

    pub name-rows-end : length ns ≤ j → Writes u (name_rows size start ns) v × (off ≡ start + length ns * size)
    unfolding name_rows
    name-rows-end h =
        let z : j ≡ length ns = omega (arith, g.within) in
        (writes_as (sym (append-nil g.done) ∙ rw (drop_of_length-le ns {i = j} h) at g.rest) g.wrote, rw z at g.small)

-- ---- an `fd` line

module _ (s : List ℕ) (r : ℕ) (l : FieldLine s r) (v : ℕ) (hv : v ≡ Number.number_up_to 65536 (get_or (read_at s (r - 1)).fields 0 [])) (a : ℕ) (u : Writer) where
  pub line-untyped : v ≡ 0 → LineWrote (fd_at s r) a a u u
  unfolding line_rows placed_rows
  line-untyped z = let e = untyped s r l v hv z in record { wrote = rw e (writes_none u u.room); end = rw e }

  pub line-typed : (z : v ≡ 0 → ⊥) {size align at : ℕ} → Measures (type_at s v) size align → at ≡ align_up align a → {b : ℕ} {w : Writer}
      → Writes u (name_rows size at (fd_at s r).names) w × (b ≡ at + length (fd_at s r).names * size) → LineWrote (fd_at s r) a b u w
  unfolding line_rows
  line-typed z m k x =
      let off = align_up (align_of (type_at s v)) a in
      let ns = (fd_at s r).names in
      record {
        wrote = writes_as (rw (typed s r l v hv z, k, m.whole, m.step) (names-rows (type_at s v) off ns)) x.0;
        end = rw (typed s r l v hv z, names-end (type_at s v) off ns, x.1, k, m.whole, m.step);
      }

-- ---- several

rows-cons : (off : ℕ) (f : Fd) (fs : List Fd) → field_rows off (f ∷ fs) ≡ line_rows f off ++ field_rows (place_line f.ty f.names off).end fs
unfolding field_rows line_rows
rows-cons off f fs = placed-append (place_line f.ty f.names off).placed (place (place_line f.ty f.names off).end fs).placed

-- the rows of the first j lines are written, and their fields lie from a to b
pub record Fielding (s : List ℕ) (f : Refs) (a : ℕ) (u v : Writer) (b j : ℕ) : Type 0 where
  pub within : j ≤ f.count
  pub small : b ≤ a + line_bytes * j
  pub end : (place b (fds_from s f.line (f.from + j) (f.count - j))).end ≡ (place a (fds_of_refs s f)).end
  pub done : Bytes
  pub wrote : Writes u done v
  pub rest : done ++ field_rows b (fds_from s f.line (f.from + j) (f.count - j)) ≡ field_rows a (fds_of_refs s f)

module _ (s : List ℕ) (f : Refs) (l : FieldRefs s f) (a : ℕ) (u : Writer) where
  pub fielding-start : Fielding s f a u u a 0
  fielding-start =
      let z : f.from + 0 ≡ f.from = omega arith in
      let y : f.count - 0 ≡ f.count = omega arith in
      record { within = omega arith; small = omega arith; end = rw (z, y); done = []; wrote = writes_none u u.room; rest = rw (z, y) }

  module _ (v : Writer) (b j : ℕ) (g : Fielding s f a u v b j) where
    pub fielding-end : f.count ≤ j → AllWrote (fds_of_refs s f) a b u v
    unfolding field_rows placed_rows
    fielding-end h =
        let z : f.count - j ≡ 0 = omega arith in
        record { wrote = writes_as (sym (append-nil g.done) ∙ rw z at g.rest) g.wrote; end = rw z at g.end }

    pub fielding-next : (h : j < f.count) (r : ℕ) (hr : r ≡ Number.number_up_to 65536 (get_or (read_at s (f.line - 1)).fields (f.from + j) [])) (c : ℕ) (w : Writer)
        → LineWrote (fd_at s r) b c v w → c ≤ b + line_bytes → Fielding s f a u w c (j + 1)
    fielding-next h r hr c w x k =
        let e = fields-next s f l j h r hr in
        let more = fds_from s f.line (f.from + (j + 1)) (f.count - (j + 1)) in
        record {
          within = omega arith;
          small = omega (arith, g.small);
          end = rw x.end (rw e at g.end);
          done = g.done ++ line_rows (fd_at s r) b;
          wrote = writes_then g.wrote x.wrote;
          rest =
              append_assoc g.done (line_rows (fd_at s r) b) (field_rows c more)
              ∙ rw (x.end, ← rows-cons b (fd_at s r) more) (rw e at g.rest);
        }
