-- Keys are compared by their codes.
use mathlib.Core.Path.{◌≡◌, refl, sym, ap, ◌∙◌}
use mathlib.Core.Bool.{Bool, true, false, ◌&&◌, and-true}
use mathlib.Core.List.{List, [], ◌∷◌}
use Prim.Native.Nat.{ℕ, ◌<◌}
use native.Mathlib.Omega.{arith}
use lib.Dec.{leb, eqb}
use lib.IntN.{ℤ, pos, negsuc}
use borrow.Author.Tests.{le-leb, leb-true, eqb-true, eq-eqb}
use Rattle.semantics.specs.Tree.{ElemKind, TypeKey}
use Rattle.semantics.specs.Tree.ElemKind.{k_byte, k_word, k_big, k_real, k_ptr}
use Rattle.semantics.specs.Tree.TypeKey.{elem_key}
use Rattle.semantics.specs.Fold.{eq_z}
use Rattle.semantics.specs.Array.{kind_number}
use Rattle.semantics.specs.Types.{same_ints, key_code, same_type_key}
use Rattle.laws.proofs.Tests.{and_left, and_right}
use Rattle.semantics.proofs.Common.{never}

eq_z-refl : (z : ℤ) → eq_z z z ≡ true
eq_z-refl (pos n) = rw (le-leb n n (omega arith))
eq_z-refl (negsuc n) = rw (le-leb n n (omega arith))

eq_z-eq : (y z : ℤ) → eq_z y z ≡ true → y ≡ z
eq_z-eq (pos a) (pos b) h =
    let e : a ≡ b = omega (arith, leb-true a b (and_left (leb a b) (leb b a) h), leb-true b a (and_right (leb a b) (leb b a) h)) in
    ap pos e
eq_z-eq (pos a) (negsuc b) h = never h
eq_z-eq (negsuc a) (pos b) h = never h
eq_z-eq (negsuc a) (negsuc b) h =
    let e : a ≡ b = omega (arith, leb-true b a (and_left (leb b a) (leb a b) h), leb-true a b (and_right (leb b a) (leb a b) h)) in
    ap negsuc e

ints-refl : (l : List ℤ) → same_ints l l ≡ true
ints-refl [] = refl
ints-refl (z ∷ l) = rw (eq_z-refl z) (ints-refl l)

pub ints-eq : (l m : List ℤ) → same_ints l m ≡ true → l ≡ m
ints-eq [] [] h = refl
ints-eq [] (y ∷ ys) h = never h
ints-eq (x ∷ xs) [] h = never h
ints-eq (x ∷ xs) (y ∷ ys) h =
    let a = eq_z-eq x y (and_left (eq_z x y) (same_ints xs ys) h) in
    let b = ints-eq xs ys (and_right (eq_z x y) (same_ints xs ys) h) in
    cc

pub same_self : (k : TypeKey) → same_type_key k k ≡ true
same_self k = ints-refl (key_code k)

-- ---- keys of elements

pub kind-low : (k : ElemKind) → kind_number k < 5
kind-low k_byte = omega arith
kind-low k_word = omega arith
kind-low k_big = omega arith
kind-low k_real = omega arith
kind-low k_ptr = omega arith

pub eq_z-pos : (a b : ℕ) → eq_z (pos a) (pos b) ≡ eqb a b
eq_z-pos a b = go (eqb a b) refl
  where
    apart : (a b : ℕ) → (a ≡ b → ⊥) → leb a b && leb b a ≡ false
    apart a b h = pick (leb a b) (leb b a) refl refl
      where
        pick : (x y : Bool) → leb a b ≡ x → leb b a ≡ y → x && y ≡ false
        pick true true p q = absurd (h (omega (arith, leb-true a b p, leb-true b a q)))
        pick true false p q = refl
        pick false y p q = refl

    go : (x : Bool) → eqb a b ≡ x → leb a b && leb b a ≡ x
    go true e = let z = eqb-true a b e in rw (le-leb a b (omega arith), le-leb b a (omega arith))
    go false e = apart a b (λ z. let o : ◌≡◌ {A = ℕ} 0 1 = never (sym e ∙ eq-eqb a b z) in absurd (omega arith))

pub elems-are : (j k : ElemKind) → same_type_key (elem_key j) (elem_key k) ≡ eqb (kind_number j) (kind_number k)
elems-are j k = rw (eq_z-pos (kind_number j) (kind_number k)) (and-true (eqb (kind_number j) (kind_number k)))
