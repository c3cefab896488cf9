-- Fields of a line as they are read.
use mathlib.Core.Path.{◌≡◌, refl, ap, ◌∙◌}
use mathlib.Core.Bool.{true}
use mathlib.Core.List.{List, [], ◌∷◌, ◌++◌}
use Rattle.std.specs.Prelude.{Option, None, Some}
use Prim.Native.Nat.{ℕ, zero, suc, ◌≤◌}
use native.Mathlib.Omega.{arith}
use lib.Dec.{leb}
use lib.ListN.{length, drop, get_or}
use lib.Seq.{drop-drop, get_or-drop}
use borrow.Author.Tests.{leb-true}
use Rattle.semantics.specs.Text as Text
use Rattle.semantics.specs.Text.{head_part, tail_parts}
use Rattle.semantics.specs.Tree.{Node}
use Rattle.semantics.specs.Form.{Atom, Part, values, number_of, fits, holds, is_count, is_number, ones}
use Rattle.semantics.specs.Form.Part.{one, many}
use Rattle.decimal.specs.Number as Number
use Rattle.semantics.proofs.Common.{never, both}

-- ---- numbers

pub number-exact : (f : List ℕ) → is_number f ≡ true → number_of f ≤ 65536 → Number.number_up_to 65536 f ≡ number_of f
unfolding Number.number_up_to
number-exact f = go (Text.nat_of f)
  where
    go : (o : Option ℕ) → Text.holds_of (λ (m : ℕ). true) o ≡ true → Text.or_else 0 o ≤ 65536 → Number.capped 65536 o ≡ Text.or_else 0 o
    go None h k = never h
    go (Some m) h k = omega arith

pub count-number : (f : List ℕ) → is_count f ≡ true → (is_number f ≡ true) × (number_of f ≤ 16)
count-number f = go (Text.nat_of f)
  where
    go : (o : Option ℕ) → Text.holds_of (λ (m : ℕ). leb m 16) o ≡ true → (Text.holds_of (λ (m : ℕ). true) o ≡ true) × (Text.or_else 0 o ≤ 16)
    go None h = never h
    go (Some m) h = (refl, leb-true m 16 h)

pub count-exact : (f : List ℕ) → is_count f ≡ true → {v : ℕ} → v ≡ Number.number_up_to 65536 f → (v ≡ number_of f) × (v ≤ 16)
count-exact f h {v} hv =
    let q = count-number f h in
    let e : v ≡ number_of f = hv ∙ number-exact f q.0 (omega (arith, q.1)) in
    (e, omega (arith, q.1))

-- ---- counts among the parts of a form

pub first_count : (a : Atom) (ps : List Part) (fs : List (List ℕ)) → fits (many a ∷ ps) fs ≡ true → is_count (get_or fs 0 []) ≡ true
first_count a ps [] h = never h
first_count a ps (f ∷ fs) h = (both (is_count f) (fits (ones (number_of f) a ++ ps) fs) h).0

behind-one : (a : Atom) (ps : List Part) (fs : List (List ℕ)) → fits (one a ∷ ps) fs ≡ true → fits ps (drop 1 fs) ≡ true
behind-one a ps [] h = never h
behind-one a ps (f ∷ fs) h = (both (holds a f) (fits ps fs) h).1

pub third-count : (a b c : Atom) (ps : List Part) (fs : List (List ℕ)) → fits (one a ∷ (one b ∷ (many c ∷ ps))) fs ≡ true → is_count (get_or fs 2 []) ≡ true
third-count a b c ps fs h =
    rw (drop-drop 1 1 fs, get_or-drop 2 fs 0 []) at (first_count c ps (drop 1 (drop 1 fs)) (behind-one b (many c ∷ ps) (drop 1 fs) (behind-one a (one b ∷ (many c ∷ ps)) fs h)))

-- ---- places

pub head-drop : (j : ℕ) (fs : List (List ℕ)) → head_part (drop j fs) ≡ get_or fs j []
head-drop zero [] = refl
head-drop zero (f ∷ fs) = refl
head-drop (suc j) [] = refl
head-drop (suc j) (f ∷ fs) = head-drop j fs

pub tail-drop : (j : ℕ) (fs : List (List ℕ)) → tail_parts (drop j fs) ≡ drop (suc j) fs
tail-drop zero [] = refl
tail-drop zero (f ∷ fs) = refl
tail-drop (suc j) [] = refl
tail-drop (suc j) (f ∷ fs) = tail-drop j fs

pub values_length : (a : Atom) (ns : List Node) (n : ℕ) (fs : List (List ℕ)) → length (values a ns n fs) ≡ n
values_length a ns zero fs = refl
values_length a ns (suc n) fs = ap suc (values_length a ns n (tail_parts fs))
