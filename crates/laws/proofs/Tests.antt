-- Laws about tests and byte lists.
use mathlib.Core.Path.{◌≡◌, refl, sym}
use mathlib.Core.Bool.{Bool, true, false, ◌&&◌, ◌||◌}
use mathlib.Core.List.{[], ◌∷◌}
use lib.Dec.{eqb}
use borrow.Author.Tests.{eqb-true, eq-eqb}
use Rattle.semantics.specs.Text.{Bytes, same}
use Rattle.semantics.proofs.Common.{never, both}

pub and_left : (a b : Bool) → a && b ≡ true → a ≡ true
and_left a b h = (both a b h).0

pub and_right : (a b : Bool) → a && b ≡ true → b ≡ true
and_right a b h = (both a b h).1

pub and-unless : (a b : Bool) → (a ≡ true → b ≡ false) → a && b ≡ false
and-unless true b f = f refl
and-unless false b f = refl

pub or_left : (a b : Bool) → a || b ≡ false → a ≡ false
or_left true b h = h
or_left false b h = refl

pub or_right : (a b : Bool) → a || b ≡ false → b ≡ false
or_right true b h = never (sym h)
or_right false b h = h

-- two tests that pass together are one test
pub tests_agree : (a b : Bool) → (a ≡ true → b ≡ true) → (b ≡ true → a ≡ true) → a ≡ b
tests_agree true b f g = sym (f refl)
tests_agree false true f g = g refl
tests_agree false false f g = refl

pub same_refl : (k : Bytes) → same k k ≡ true
same_refl [] = refl
same_refl (x ∷ xs) = rw (eq-eqb x x refl) (same_refl xs)

pub same-eq : (j k : Bytes) → same j k ≡ true → j ≡ k
same-eq [] [] h = refl
same-eq [] (y ∷ ys) h = never h
same-eq (x ∷ xs) [] h = never h
same-eq (x ∷ xs) (y ∷ ys) h =
    let a = eqb-true x y (and_left (eqb x y) (same xs ys) h) in
    let b = same-eq xs ys (and_right (eqb x y) (same xs ys) h) in
    cc
