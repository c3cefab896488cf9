-- Distinct keys: one more key, and positions that stay.
use mathlib.Core.Path.{◌≡◌, refl, sym, ap, ◌∙◌}
use mathlib.Core.Bool.{Bool, true, false, cond, ◌||◌, or-false}
use mathlib.Core.List.{List, [], ◌∷◌, ◌++◌, append_assoc, append-nil}
use Prim.Native.Nat.{ℕ, zero, suc, ◌≤◌, ◌<◌}
use native.Mathlib.Omega.{arith}
use lib.Dec.{eqb}
use lib.ListN.{length, get_or, length-append}
use borrow.Author.Tests.{eq-eqb, ne_eqb}
use Rattle.semantics.specs.Text.{any}
use Rattle.semantics.specs.Tree.{TypeKey}
use Rattle.semantics.specs.Types.{key_code, same_type_key, distinct, position}
use Rattle.type_lines.proofs.Codes.{ints-eq, same_self}
use Rattle.type_keys.specs.Table.{position_from_one}
use Rattle.laws.proofs.Tests.{or_left, or_right}
use Rattle.laws.proofs.Lists.{any_append}
use Rattle.semantics.proofs.Common.{never}

-- ---- tests

or_swap : (a b c : Bool) → (a || b) || c ≡ b || (a || c)
or_swap true true c = refl
or_swap true false c = refl
or_swap false b c = refl

or-true : (a b : Bool) → a ≡ true → a || b ≡ true
or-true a b h = rw h

-- what holds of a key by comparing it holds of those that are the same
module _ (j k : TypeKey) (h : same_type_key j k ≡ true) where
  pub any_same : (l : List TypeKey) → any (same_type_key j) l ≡ any (same_type_key k) l
  any_same [] = refl
  any_same (x ∷ l) = rw (ints-eq (key_code j) (key_code k) h, any_same l)

  pub position-same : (l : List TypeKey) → position j l ≡ position k l
  position-same [] = refl
  position-same (x ∷ l) = rw (ints-eq (key_code j) (key_code k) h, position-same l)

-- ---- positions

module _ (k : TypeKey) where
  pub position-known : (l m : List TypeKey) → any (same_type_key k) l ≡ true → position k (l ++ m) ≡ position k l
  position-known [] m h = never h
  position-known (x ∷ l) m h = go (same_type_key k x) refl (position-known l m)
    where
      go : (t : Bool) → same_type_key k x ≡ t → (any (same_type_key k) l ≡ true → position k (l ++ m) ≡ position k l)
          → cond (same_type_key k x) 0 (suc (position k (l ++ m))) ≡ cond (same_type_key k x) 0 (suc (position k l))
      go true e ih = rw e
      go false e ih = rw (e, ih (rw e at h))

  pub position-new : (l m : List TypeKey) → any (same_type_key k) l ≡ false → position k (l ++ (k ∷ m)) ≡ length l
  position-new [] m h = rw (same_self k)
  position-new (x ∷ l) m h = rw (or_left (same_type_key k x) (any (same_type_key k) l) h, position-new l m (or_right (same_type_key k x) (any (same_type_key k) l) h))

  pub position-none : (l : List TypeKey) → any (same_type_key k) l ≡ false → position k l ≡ length l
  position-none [] h = refl
  position-none (x ∷ l) h = rw (or_left (same_type_key k x) (any (same_type_key k) l) h, position-none l (or_right (same_type_key k x) (any (same_type_key k) l) h))

  pub position-within : (l : List TypeKey) → position k l ≤ length l
  position-within [] = omega arith
  position-within (x ∷ l) = go (same_type_key k x) (position-within l)
    where
      go : (t : Bool) → position k l ≤ length l → cond t 0 (suc (position k l)) ≤ suc (length l)
      go true h = omega arith
      go false h = omega arith

  pub position-low : (l : List TypeKey) → any (same_type_key k) l ≡ true → position k l < length l
  position-low [] h = never h
  position-low (x ∷ l) h = go (same_type_key k x) refl (position-low l)
    where
      go : (t : Bool) → same_type_key k x ≡ t → (any (same_type_key k) l ≡ true → position k l < length l) → cond (same_type_key k x) 0 (suc (position k l)) < suc (length l)
      go true e ih = rw e (omega arith)
      go false e ih = rw e (omega (arith, ih (rw e at h)))

-- ---- one more key

abbrev pub new_key : TypeKey → List TypeKey → List TypeKey
new_key k js = cond (any (same_type_key k) js) [] (k ∷ [])

module _ (k : TypeKey) where
  more-from : (before l : List TypeKey) → distinct before (l ++ (k ∷ [])) ≡ distinct before l ++ cond (any (same_type_key k) before || any (same_type_key k) (distinct before l)) [] (k ∷ [])
  more-from before [] = rw (or-false (any (same_type_key k) before))
  more-from before (x ∷ l) = go (any (same_type_key x) before) refl (more-from before l) (more-from (x ∷ before) l)
    where
      go : (t : Bool) → any (same_type_key x) before ≡ t
          → distinct before (l ++ (k ∷ [])) ≡ distinct before l ++ cond (any (same_type_key k) before || any (same_type_key k) (distinct before l)) [] (k ∷ [])
          → distinct (x ∷ before) (l ++ (k ∷ [])) ≡ distinct (x ∷ before) l ++ cond (any (same_type_key k) (x ∷ before) || any (same_type_key k) (distinct (x ∷ before) l)) [] (k ∷ [])
          → distinct before (x ∷ (l ++ (k ∷ []))) ≡ distinct before (x ∷ l) ++ cond (any (same_type_key k) before || any (same_type_key k) (distinct before (x ∷ l))) [] (k ∷ [])
      go true e a b = rw e a
      go false e a b = rw (e, b, or_swap (same_type_key k x) (any (same_type_key k) before) (any (same_type_key k) (distinct (x ∷ before) l)))

  pub distinct_more : (l : List TypeKey) → distinct [] (l ++ (k ∷ [])) ≡ distinct [] l ++ new_key k (distinct [] l)
  distinct_more l = more-from [] l

module _ (k : TypeKey) (l : List TypeKey) where
  -- its position is the next where it is new, and its own before else
  pub position-more : position k (l ++ new_key k l) ≡ position k l
  position-more = go (any (same_type_key k) l) refl
    where
      go : (t : Bool) → any (same_type_key k) l ≡ t → position k (l ++ cond t [] (k ∷ [])) ≡ position k l
      go true e = ap (position k) (append-nil l)
      go false e = position-new k l [] e ∙ sym (position-none k l e)

  pub length_more : length (l ++ new_key k l) ≡ cond (eqb (position k l) (length l)) (suc (length l)) (length l)
  length_more = go (any (same_type_key k) l) refl
    where
      go : (t : Bool) → any (same_type_key k) l ≡ t → length (l ++ cond t [] (k ∷ [])) ≡ cond (eqb (position k l) (length l)) (suc (length l)) (length l)
      go true e = rw (append-nil l, ne_eqb (position k l) (length l) (λ q. omega (arith, position-low k l e)))
      go false e = length-append l (k ∷ []) ∙ rw (eq-eqb (position k l) (length l) (position-none k l e)) (omega arith)

  any-self : any (same_type_key k) (l ++ new_key k l) ≡ true
  any-self = go (any (same_type_key k) l) refl
    where
      go : (t : Bool) → any (same_type_key k) l ≡ t → any (same_type_key k) (l ++ cond t [] (k ∷ [])) ≡ true
      go true e = rw (append-nil l) e
      go false e = rw (any_append (same_type_key k) l (k ∷ []), e, same_self k)

  any-other : (j : TypeKey) → same_type_key j k ≡ false → any (same_type_key j) (l ++ new_key k l) ≡ any (same_type_key j) l
  any-other j h = go (any (same_type_key k) l)
    where
      go : (t : Bool) → any (same_type_key j) (l ++ cond t [] (k ∷ [])) ≡ any (same_type_key j) l
      go true = ap (any (same_type_key j)) (append-nil l)
      go false = rw (any_append (same_type_key j) l (k ∷ []), h) (or-false (any (same_type_key j) l))

  -- where it is known
  pub known_same : any (same_type_key k) l ≡ true → (j : TypeKey) → position_from_one j l ≡ cond (same_type_key j k) (suc (position k l)) (position_from_one j l)
  known_same h j = go (same_type_key j k) refl
    where
      go : (t : Bool) → same_type_key j k ≡ t → position_from_one j l ≡ cond (same_type_key j k) (suc (position k l)) (position_from_one j l)
      go true e = rw (e, any_same j k e l, h, position-same j k e l)
      go false e = rw e

  pub known-length : any (same_type_key k) l ≡ true → length (l ++ new_key k l) ≡ length l
  known-length h = rw (h, append-nil l)

  pub from-one-some : (position_from_one k l ≡ 0 → ⊥) → any (same_type_key k) l ≡ true
  from-one-some h = go (any (same_type_key k) l) refl
    where
      go : (t : Bool) → any (same_type_key k) l ≡ t → t ≡ true
      go true e = refl
      go false e = absurd (h (rw e))

  pub from-one-none : position_from_one k l ≡ 0 → any (same_type_key k) l ≡ false
  from-one-none h = go (any (same_type_key k) l) refl
    where
      go : (t : Bool) → any (same_type_key k) l ≡ t → t ≡ false
      go true e = let z : suc (position k l) ≡ 0 = rw e at h in absurd (omega arith)
      go false e = refl

  pub from-one-more : (j : TypeKey) → position_from_one j (l ++ new_key k l) ≡ cond (same_type_key j k) (suc (position k l)) (position_from_one j l)
  from-one-more j = go (same_type_key j k) refl
    where
      known : (t : Bool) → any (same_type_key j) l ≡ t → cond (any (same_type_key j) l) (suc (position j (l ++ new_key k l))) 0 ≡ cond (any (same_type_key j) l) (suc (position j l)) 0
      known true q = rw (q, position-known j l (new_key k l) q)
      known false q = rw q

      go : (t : Bool) → same_type_key j k ≡ t → position_from_one j (l ++ new_key k l) ≡ cond (same_type_key j k) (suc (position k l)) (position_from_one j l)
      go true e = rw (any_same j k e (l ++ new_key k l), any-self, position-same j k e (l ++ new_key k l), position-more, e)
      go false e = rw (any-other j e, e) (known (any (same_type_key j) l) refl)

-- ---- each key has its position among the distinct keys

module _ (d : TypeKey) where
  member-from : (before l : List TypeKey) (q : ℕ) → q < length l → any (same_type_key (get_or l q d)) before || any (same_type_key (get_or l q d)) (distinct before l) ≡ true
  member-from before [] q h = absurd (omega arith)
  member-from before (x ∷ l) q h = go (any (same_type_key x) before) refl q h (member-from before l) (member-from (x ∷ before) l)
    where
      go : (t : Bool) → any (same_type_key x) before ≡ t → (p : ℕ) → p < suc (length l)
          → ((r : ℕ) → r < length l → any (same_type_key (get_or l r d)) before || any (same_type_key (get_or l r d)) (distinct before l) ≡ true)
          → ((r : ℕ) → r < length l → any (same_type_key (get_or l r d)) (x ∷ before) || any (same_type_key (get_or l r d)) (distinct (x ∷ before) l) ≡ true)
          → any (same_type_key (get_or (x ∷ l) p d)) before || any (same_type_key (get_or (x ∷ l) p d)) (distinct before (x ∷ l)) ≡ true
      go true e zero j a b = rw e
      go true e (suc p) j a b = rw e (a p (omega arith))
      go false e zero j a b = rw (e, same_self x)
      go false e (suc p) j a b = rw e (sym (or_swap (same_type_key (get_or l p d) x) (any (same_type_key (get_or l p d)) before) (any (same_type_key (get_or l p d)) (distinct (x ∷ before) l))) ∙ b p (omega arith))

  pub key-member : (l : List TypeKey) (q : ℕ) → q < length l → any (same_type_key (get_or l q d)) (distinct [] l) ≡ true
  key-member l q h = member-from [] l q h

-- a key that is none of the keys is none of the distinct keys
none_from : (k : TypeKey) (before l : List TypeKey) → any (same_type_key k) l ≡ false → any (same_type_key k) (distinct before l) ≡ false
none_from k before [] h = refl
none_from k before (x ∷ l) h = go (any (same_type_key x) before) refl
    (none_from k before l (or_right (same_type_key k x) (any (same_type_key k) l) h)) (none_from k (x ∷ before) l (or_right (same_type_key k x) (any (same_type_key k) l) h))
  where
    go : (t : Bool) → any (same_type_key x) before ≡ t → any (same_type_key k) (distinct before l) ≡ false → any (same_type_key k) (distinct (x ∷ before) l) ≡ false
        → any (same_type_key k) (distinct before (x ∷ l)) ≡ false
    go true e a b = rw e a
    go false e a b = rw (e, or_left (same_type_key k x) (any (same_type_key k) l) h) b

pub none-distinct : (k : TypeKey) (l : List TypeKey) → any (same_type_key k) l ≡ false → any (same_type_key k) (distinct [] l) ≡ false
none-distinct k l h = none_from k [] l h

-- ---- more keys change no position

pub known_more : (k : TypeKey) (l ms : List TypeKey) → any (same_type_key k) (distinct [] l) ≡ true
    → (any (same_type_key k) (distinct [] (l ++ ms)) ≡ true) × (position k (distinct [] (l ++ ms)) ≡ position k (distinct [] l))
known_more k l [] h = rw (append-nil l) (h, refl)
known_more k l (m ∷ ms) h =
    let e = distinct_more m l in
    let a : any (same_type_key k) (distinct [] (l ++ (m ∷ []))) ≡ true = rw (e, any_append (same_type_key k) (distinct [] l) (new_key m (distinct [] l))) (or-true _ _ h) in
    let p : position k (distinct [] (l ++ (m ∷ []))) ≡ position k (distinct [] l) = rw e (position-known k (distinct [] l) (new_key m (distinct [] l)) h) in
    let w = known_more k (l ++ (m ∷ [])) ms a in
    let z : (l ++ (m ∷ [])) ++ ms ≡ l ++ (m ∷ ms) = append_assoc l (m ∷ []) ms in
    rw (← z) (w.0, w.1 ∙ p)

-- no more distinct keys than keys
pub distinct-few : (before l : List TypeKey) → length (distinct before l) ≤ length l
distinct-few before [] = omega arith
distinct-few before (x ∷ l) = go (any (same_type_key x) before) refl (distinct-few before l) (distinct-few (x ∷ before) l)
  where
    go : (t : Bool) → any (same_type_key x) before ≡ t → length (distinct before l) ≤ length l → length (distinct (x ∷ before) l) ≤ length l → length (distinct before (x ∷ l)) ≤ suc (length l)
    go true e a b = rw e (omega arith)
    go false e a b = rw e (omega arith)
