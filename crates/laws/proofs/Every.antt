-- Laws about what holds of every member of a list.
use Prim.Native.Nat.{ℕ, zero, suc, ◌<◌}
use mathlib.Core.Bool.{Bool, true, false, cond}
use mathlib.Core.List.{List, [], ◌∷◌, ◌++◌, map}
use native.Mathlib.Omega.{arith}
use lib.ListN.{length, get_or}
use Rattle.semantics.specs.Text.{filter}
use Rattle.semantics.specs.Sheet.{concat_map}
use Rattle.laws.specs.Every.{Every}

module _ {A : Type 0} (P : A → Type 0) where
  pub every_append : (xs ys : List A) → Every P xs → Every P ys → Every P (xs ++ ys)
  every_append [] ys u v = v
  every_append (x ∷ xs) ys u v = (u.0, every_append xs ys u.1 v)

  pub every_map : (Q : A → Type 0) → ((x : A) → P x → Q x) → (xs : List A) → Every P xs → Every Q xs
  every_map Q f [] u = tt
  every_map Q f (x ∷ xs) u = (f x u.0, every_map Q f xs u.1)

  pub every-filter : (f : A → Bool) (xs : List A) → Every P xs → Every P (filter f xs)
  every-filter f [] u = tt
  every-filter f (x ∷ xs) u = go (f x) (every-filter f xs u.1)
    where
      go : (b : Bool) → Every P (filter f xs) → Every P (cond b (x ∷ filter f xs) (filter f xs))
      go true h = (u.0, h)
      go false h = h

  -- the member at j, where there is one
  pub every-at : (xs : List A) → Every P xs → (d : A) (j : ℕ) → j < length xs → P (get_or xs j d)
  every-at [] u d j h = absurd (omega arith)
  every-at (x ∷ xs) u d zero h = u.0
  every-at (x ∷ xs) u d (suc j) h = every-at xs u.1 d j (omega arith)

  -- or the one that stands for none
  pub every_get : (d : A) (xs : List A) → P d → Every P xs → (j : ℕ) → P (get_or xs j d)
  every_get d [] h u j = h
  every_get d (x ∷ xs) h u zero = u.0
  every_get d (x ∷ xs) h u (suc j) = every_get d xs h u.1 j

  pub every_of : (d : A) (xs : List A) → ((j : ℕ) → j < length xs → P (get_or xs j d)) → Every P xs
  every_of d [] h = tt
  every_of d (x ∷ xs) h = (h 0 (omega arith), every_of d xs (λ j l. h (suc j) (omega arith)))

module _ {A B : Type 0} (P : B → Type 0) where
  pub every-concat : (g : A → List B) (xs : List A) → Every (λ (x : A). Every P (g x)) xs → Every P (concat_map g xs)
  every-concat g [] u = tt
  every-concat g (x ∷ xs) u = every_append P (g x) (concat_map g xs) u.0 (every-concat g xs u.1)

  pub every-under : (g : A → B) (xs : List A) → Every (λ (x : A). P (g x)) xs → Every P (map g xs)
  every-under g [] u = tt
  every-under g (x ∷ xs) u = (u.0, every-under g xs u.1)
