-- Laws of values written one after the other.
use Prim.Native.Nat.{ℕ, zero, suc, ◌+◌, ◌-◌, ◌≤◌, ◌<◌}
use mathlib.Core.Path.{◌≡◌, refl, sym, ap, ◌∙◌}
use mathlib.Core.Bool.{Bool, true, false}
use mathlib.Core.List.{[], ◌++◌}
use native.Mathlib.Omega.{arith}
use lib.Dec.{ltb}
use lib.ListN.{length, take, drop, length-drop}
use lib.Seq.{drop-drop}
use borrow.Author.Tests.{le-ltb, ltb-true, ltb-false}
use Rattle.semantics.specs.Text.{Bytes, big_endian, fields_of}
use Rattle.semantics.specs.Form.{fields_from}
use Rattle.text.specs.Parts.{until, part_start_at}
use Rattle.text.proofs.Parts.{parts-step, parts-one, start-step, start_none, start-zero}
use Rattle.form.proofs.Laws.{fields-end, fields-step}
use Rattle.stored.specs.Reading.{bits_in, row_values}

-- ---- fields from a place on

fields-some : (row : Bytes) (i : ℕ) → i ≤ length row → fields_from i row ≡ fields_of (drop i row)
fields-some row i h = rw (le-ltb (length row) i h)

drop-nil : (n : ℕ) → drop {A = Bytes} n [] ≡ []
drop-nil zero = refl
drop-nil (suc n) = refl

-- the same fields, from a place in the row's rest
fields-shift : (row : Bytes) (u k : ℕ) → u < length row → fields_from (u + 1 + k) row ≡ fields_from k (drop (suc u) row)
fields-shift row u k h = go (ltb (length row) (u + 1 + k)) refl
  where
    go : (b : Bool) → ltb (length row) (u + 1 + k) ≡ b → fields_from (u + 1 + k) row ≡ fields_from k (drop (suc u) row)
    go true e =
        let l = ltb-true (length row) (u + 1 + k) e in
        fields-end (u + 1 + k) row l ∙ sym (fields-end k (drop (suc u) row) (omega (arith, length-drop (suc u) row)))
    go false e =
        let l = ltb-false (length row) (u + 1 + k) e in
        let q : u + 1 + k ≡ suc u + k = omega arith in
        fields-some row (u + 1 + k) l
        ∙ ap (λ (j : ℕ). fields_of (drop j row)) q
        ∙ ap fields_of (sym (drop-drop k (suc u) row))
        ∙ sym (fields-some (drop (suc u) row) k (omega (arith, length-drop (suc u) row)))

-- the fields from where field n begins
pub fields-from : (n : ℕ) (row : Bytes) → fields_from (part_start_at 44 n row) row ≡ drop n (fields_of row)
fields-from zero row = rw (start-zero 44 row) (fields-some row 0 (omega arith))
fields-from (suc n) row = go (ltb (length (until 44 row)) (length row)) refl (fields-from n (drop (suc (length (until 44 row))) row))
  where
    u : ℕ
    u = length (until 44 row)

    go : (b : Bool) → ltb u (length row) ≡ b → fields_from (part_start_at 44 n (drop (suc u) row)) (drop (suc u) row) ≡ drop n (fields_of (drop (suc u) row)) → fields_from (part_start_at 44 (suc n) row) row ≡ drop (suc n) (fields_of row)
    go true k ih =
        let l = ltb-true u (length row) k in
        ap (λ (j : ℕ). fields_from j row) (start-step 44 n row l) ∙ fields-shift row u (part_start_at 44 n (drop (suc u) row)) l ∙ ih ∙ sym (ap (drop (suc n)) (parts-step 44 row l))
    go false k ih =
        let l = ltb-false u (length row) k in
        ap (λ (j : ℕ). fields_from j row) (start_none 44 n row l) ∙ fields-end (length row + 1) row (omega arith) ∙ sym (ap (drop (suc n)) (parts-one 44 row l) ∙ drop-nil n)

-- ---- values

pub values-next : (w : ℕ) (reals : Bool) (row : Bytes) (i e : ℕ) {v : ℕ} → i ≤ length row → e ≡ i + length (until 44 (drop i row)) → v ≡ bits_in reals (take (e - i) (drop i row))
    → row_values w reals (fields_from i row) ≡ big_endian w v ++ row_values w reals (fields_from (e + 1) row)
unfolding row_values
values-next w reals row i e h he hv = rw (fields-step row i e h he, hv)

pub values-none : (w : ℕ) (reals : Bool) (row : Bytes) (i : ℕ) → length row < i → row_values w reals (fields_from i row) ≡ []
unfolding row_values
values-none w reals row i h = rw (fields-end i row h)
