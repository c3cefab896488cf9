-- Refusal 4 over the tables: the references among the fields of a line by their letters, and the table of used lines.
use Rattle.std.specs.Prelude.{ℕ, suc, ◌+◌, ◌-◌, ◌<◌, ◌≡◌, Bool, true, false, cond, not, ◌&&◌, List, [], ◌∷◌, get_or, set, ltb, eqb, Option, None, Some}
use Rattle.semantics.specs.Text.{Bytes, all, any}
use Rattle.semantics.specs.Form.{Read, letter, number_of}
use Rattle.semantics.specs.Refusal.{Ref, line_at, refs_of}
use Rattle.form.specs.Table.{kind_at}
use Rattle.form.specs.Letters.{after}
use Rattle.lines.specs.Lines.{form_at}

-- ---- by letters

-- whether x is the letter of a reference: it lies above the blank, 32, and below P, 80
abbrev pub is_ref : ℕ → Bool
is_ref x = ltb 32 x && ltb x 80

-- the letter of the kind that it asks for; below 64 it may be 0 too
abbrev pub wanted_by : ℕ → ℕ
wanted_by x = cond (ltb x 64) (x + 32) x

unfoldable pub ref_by : ℕ → Bytes → List Ref → List Ref
ref_by x f rs = cond (is_ref x) (record { kind = wanted_by x; optional = ltb x 64; line = number_of f } ∷ rs) rs

unfoldable pub refs_by : Bytes → List Bytes → List Ref
refs_by xs [] = []
refs_by xs (f ∷ fs) = ref_by (get_or xs 0 32) f (refs_by (after (number_of f) xs) fs)

-- ---- by the tables

unfoldable pub used_at : Bytes → ℕ → ℕ
used_at t i = get_or t (3072 + i) 0

-- whether the field with letter x and number r is no reference of line k, or a good one
unfoldable pub claims : Bytes → Bytes → ℕ → ℕ → ℕ → Bool
claims s t k x r =
    cond (is_ref x)
    (cond (eqb r 0) (ltb x 64)
    (ltb r k && eqb (kind_at (form_at s (r - 1))) (wanted_by x) && eqb (used_at t (r - 1)) 0))
    true

unfoldable pub used_marked : Bytes → ℕ → ℕ → Bytes
used_marked t x r = cond (is_ref x && not (eqb r 0)) (set t (3072 + (r - 1)) 1) t

abbrev pub as_bit : Bool → ℕ
as_bit true = 1
as_bit false = 0

-- the table says which lines are used
abbrev pub Used : Bytes → List ℕ → Type 0
Used t us = (i : ℕ) → i < 1024 → used_at t i ≡ as_bit (any (eqb (suc i)) us)

pub record Uses (t : Bytes) (o : Option (List ℕ)) : Type 0 where
  pub us : List ℕ
  pub is : o ≡ Some us
  pub table : Used t us

-- what a line's references make of the lines used
abbrev pub RefsOutcome : Bytes → Option (List ℕ) → Bool → Type 0
RefsOutcome t o false = o ≡ None
RefsOutcome t o true = Uses t o

-- ---- what good references are, apart from whether they are the first

-- 0 where it may be, or an earlier line of its kind, for a reference of line k
abbrev pub fine_ref : List Read → ℕ → Ref → Bool
fine_ref ls k r = cond (eqb r.line 0) r.optional (ltb r.line k && eqb (letter (line_at ls r.line).form.kind) r.kind)

-- whether the references of line i, from 0, are so
unfoldable pub fine_refs : List Read → ℕ → List Ref → Bool
fine_refs ls i rs = all (fine_ref ls (i + 1)) rs

-- ---- how often line r is referred to

abbrev pub uses_of : ℕ → List Ref → ℕ
uses_of r [] = 0
uses_of r (x ∷ xs) = cond (eqb r x.line) 1 0 + uses_of r xs

abbrev pub uses_in : ℕ → List Read → ℕ
uses_in r [] = 0
uses_in r (l ∷ ls) = uses_of r (refs_of l) + uses_in r ls
