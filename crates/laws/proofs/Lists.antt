-- Laws about lists that are joined.
use mathlib.Core.Path.{◌≡◌, refl, sym}
use mathlib.Core.Bool.{Bool, true, false, ◌||◌, cond}
use mathlib.Core.List.{List, [], ◌∷◌, ◌++◌, append_assoc}
use Rattle.semantics.specs.Text.{Bytes, same, any, filter}
use Rattle.semantics.specs.Sheet.{concat_map}
use Rattle.semantics.specs.Layout.{Recorded, last_of}

pub concat-append : {A B : Type 0} (f : A → List B) (xs ys : List A) → concat_map f (xs ++ ys) ≡ concat_map f xs ++ concat_map f ys
concat-append f [] ys = refl
concat-append f (x ∷ xs) ys = rw (concat-append f xs ys) (sym (append_assoc (f x) (concat_map f xs) (concat_map f ys)))

pub filter-append : {A : Type 0} (p : A → Bool) (xs ys : List A) → filter p (xs ++ ys) ≡ filter p xs ++ filter p ys
filter-append p [] ys = refl
filter-append p (x ∷ xs) ys = go (p x) (filter-append p xs ys)
  where
    go : (b : Bool) → filter p (xs ++ ys) ≡ filter p xs ++ filter p ys → cond b (x ∷ filter p (xs ++ ys)) (filter p (xs ++ ys)) ≡ cond b (x ∷ filter p xs) (filter p xs) ++ filter p ys
    go true e = rw e
    go false e = e

pub any_append : {A : Type 0} (p : A → Bool) (xs ys : List A) → any p (xs ++ ys) ≡ any p xs || any p ys
any_append p [] ys = refl
any_append p (x ∷ xs) ys = go (p x) (any_append p xs ys)
  where
    go : (b : Bool) → any p (xs ++ ys) ≡ any p xs || any p ys → b || any p (xs ++ ys) ≡ (b || any p xs) || any p ys
    go true e = refl
    go false e = e

pub last-append : (k : Bytes) (r : Recorded) (xs ys : List Recorded) → last_of k r (xs ++ ys) ≡ last_of k (last_of k r xs) ys
last-append k r [] ys = refl
last-append k r (x ∷ xs) ys = last-append k (cond (same k x.key) x r) xs ys
