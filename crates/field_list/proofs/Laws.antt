-- Laws of lists of fields.
use mathlib.Core.Path.{◌≡◌, refl, ap}
use mathlib.Core.Bool.{Bool}
use mathlib.Core.List.{List, ◌∷◌, ◌++◌}
use Prim.Native.Nat.{ℕ, zero, suc, ◌+◌, ◌-◌, ◌*◌, ◌≤◌, ◌<◌, max}
use native.Mathlib.Nat.{suc-mul, mul-le-mul_right}
use native.Mathlib.Numerals.{add-one}
use native.Mathlib.Omega.{arith}
use lib.ListN.{take, set, replicate}
use Rattle.field_list.specs.declared.Field.{Field}
use Rattle.field_list.specs.Fields.{line_fields_from, no_field, line_fields, furthest_in}

module _ (size : ℕ) where
  pub next-offset : (off at i : ℕ) → at ≡ off + i * size → at + size ≡ off + (i + 1) * size
  next-offset off at i e = rw (add-one i) (omega (arith, e, suc-mul i size))

  -- the fields end in the range of the last one's end
  pub next_low : (off at i n : ℕ) → at ≡ off + i * size → i < n → at + size ≤ off + n * size
  next_low off at i n e h = omega (arith, e, suc-mul i size, mul-le-mul_right size h)

module _ (size : ℕ) (pointer : Bool) where
  abbrev field_from : ℕ → Field
  field_from off = record { offset = off; size = size; pointer = pointer }

  -- one field more, stored right behind the first i
  fields-set : (off at i : ℕ) (y : Field) (ys : List Field) → at ≡ off + i * size → set (line_fields_from off size pointer i ++ (y ∷ ys)) i (field_from at) ≡ line_fields_from off size pointer (suc i) ++ ys
  unfolding line_fields_from
  fields-set off at zero y ys e = let z : at ≡ off = omega (arith, e) in rw z
  fields-set off at (suc i) y ys e = ap (λ (l : List Field). field_from off ∷ l) (fields-set (off + size) at i y ys (omega (arith, e, suc-mul i size)))

  line-next : (off at i : ℕ) → i < 16 → at ≡ off + i * size → set (line_fields off size pointer i) i (field_from at) ≡ line_fields off size pointer (suc i)
  unfolding line_fields
  line-next off at i h e = let z : 16 - i ≡ suc (16 - suc i) = omega arith in rw z (fields-set off at i no_field (replicate (16 - suc i) no_field) e)

  pub line_set : (off at i : ℕ) → i < 16 → at ≡ off + i * size → set (line_fields off size pointer i) i (field_from at) ≡ line_fields off size pointer (i + 1)
  line_set off at i h e = rw (add-one i) (line-next off at i h e)

  take-first : (off n : ℕ) (ys : List Field) → take n (line_fields_from off size pointer n ++ ys) ≡ line_fields_from off size pointer n
  unfolding line_fields_from
  take-first off zero ys = refl
  take-first off (suc n) ys = ap (λ (l : List Field). field_from off ∷ l) (take-first (off + size) n ys)

  pub line-take : (off n : ℕ) → take n (line_fields off size pointer n) ≡ line_fields_from off size pointer n
  unfolding line_fields
  line-take off n = take-first off n (replicate (16 - n) no_field)

-- ---- the furthest end

pub furthest-low : (k off size : ℕ) (pointer : Bool) (n f : ℕ) → f < k → off + n * size < k → furthest_in f (line_fields_from off size pointer n) < k
unfolding line_fields_from
furthest-low k off size pointer zero f h l = h
furthest-low k off size pointer (suc n) f h l =
    let m : off + size + n * size < k = omega (arith, l, suc-mul n size) in
    furthest-low k (off + size) size pointer n (max f (off + size)) (omega (arith, h, m)) m
