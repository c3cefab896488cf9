-- The values of a constant array's elements: the one last given to an index, or else the filler.
use Prim.Native.Nat.{ℕ, zero, suc, ◌+◌, ◌^◌, ◌≤◌, ◌<◌, max, zero-le}
use native.Mathlib.Nat.{add-zero, zero-add, add-suc, suc-add, le_refl, le_of_eq}
use native.Mathlib.Omega.{arith}
use mathlib.Core.Path.{◌≡◌, refl, sym, ap}
use mathlib.Core.Bool.{Bool, true, false, ◌&&◌, ◌||◌, cond, and-false}
use mathlib.Core.List.{List, [], ◌∷◌, ◌++◌}
use Rattle.std.specs.Prelude.{Option, None, Some}
use lib.ListN.{length, get_or}
use lib.IntN.{ℤ, pos, negsuc}
use lib.Signed.{le_z}
use lib.Dec.{leb, ltb, eqb}
use borrow.Author.Tests.{leb-true, leb-false, le-leb, lt-leb, eq-eqb, ne_eqb}
use Rattle.semantics.specs.Text.{any, or_else}
use Rattle.semantics.specs.Tree.{Ty, Ex, MaybeEx, Els, ConstVal, elem_of}
use Rattle.semantics.specs.Tree.Ex.{constant, ident, mod_qual, unary, binary, cast, len, array_ex, other_ex}
use Rattle.semantics.specs.Tree.ArrayEx.{alloc, lit}
use Rattle.semantics.specs.Tree.MaybeEx.{absent, given}
use Rattle.semantics.specs.Tree.El.{next, star, at}
use Rattle.semantics.specs.Tree.Els.{no_els, and_el}
use Rattle.semantics.specs.Tree.ConstVal.{v_int, v_real, v_str}
use Rattle.semantics.specs.Fold.{Result, bind, Names, fold_at0}
use Rattle.semantics.specs.Fold.Result.{ok, failed, refuse}
use Rattle.semantics.specs.Array.{ConstArray, elem_kind, longest_alloc, allocated, Placement, Filled, none_filled, place_span, place_indices, place_next, place_spans, set_wildcard, spans_of, fill, value_at, values_from, filler, longest_literal, outside, literal_kind, as_size, literal_size, built, literal, const_array}
use Rattle.semantics.specs.Global.{Init, first_value, init_of, or_no_init}
use Rattle.semantics.specs.Global.Init.{no_init, const_init, array_init, pending_init}
use Rattle.semantics.specs.Demand.{covers, after_high, next_index_after, spans_reach, reach_of, last_given, last_star, element_at, LengthOf, GivenBy}

-- ---- what holds of a result, where there is one

data Holds {A : Type 0} (P : A → Type 0) : Result A → Type 0 where
  holds : {a : A} → P a → Holds P (ok a)
  fails : Holds P failed
  refuses : {r : ℕ} → Holds P (refuse r)

-- of one that is there
of : {A : Type 0} {P : A → Type 0} {r : Result A} {a : A} → r ≡ ok a → Holds P r → P a
of {P} {a} p h = it (rw p at h)
  where
    it : Holds P (ok a) → P a
    it (holds x) = x

-- that it is the result
result : {A : Type 0} (r : Result A) → Holds (λ (a : A). r ≡ ok a) r
result (ok a) = holds refl
result failed = fails
result (refuse r) = refuses

-- behind a step
then : {A B : Type 0} {P : A → Type 0} {Q : B → Type 0} {r : Result A} {f : A → Result B}
    → Holds P r → ((a : A) → P a → Holds Q (f a)) → Holds Q (bind r f)
then (holds p) h = h _ p
then fails h = fails
then refuses h = refuses

-- behind a test
test : {A : Type 0} {P : A → Type 0} (b : Bool) {x y : Result A} → (b ≡ true → Holds P x) → (b ≡ false → Holds P y) → Holds P (cond b x y)
test true h k = h refl
test false h k = k refl

-- ---- tests

ok-cond : {A : Type 0} (b : Bool) (v x : A) → ok (cond b v x) ≡ cond b (ok v) (ok x)
ok-cond true v x = refl
ok-cond false v x = refl

cond-or : {A : Type 0} (a b : Bool) (v x : A) → cond (a || b) v x ≡ cond b v (cond a v x)
cond-or true true v x = refl
cond-or true false v x = refl
cond-or false b v x = refl

-- no index lies in a span whose high is below its low
none_between : (i l h : ℕ) → leb l h ≡ false → leb l i && leb i h ≡ false
none_between i l h e = go (leb l i) refl
  where
    go : (b : Bool) → leb l i ≡ b → b && leb i h ≡ false
    go true p = lt-leb i h (omega (arith, leb-true, leb-false))
    go false p = refl

-- and one in a span from n to n
one-between : (i n : ℕ) → leb n i && leb i n ≡ eqb i n
one-between i n = go (leb n i) refl (leb i n) refl
  where
    go : (a : Bool) → leb n i ≡ a → (b : Bool) → leb i n ≡ b → a && b ≡ eqb i n
    go true p true q = sym (eq-eqb i n (omega (arith, leb-true)))
    go true p false q = sym (ne_eqb i n (omega (arith, leb-false)))
    go false p b q = sym (ne_eqb i n (omega (arith, leb-false)))

-- ---- a literal so far, seen from index i, where w is the filler

-- the last placement counts first
value-last : (ps : List Placement) (p : Placement) (w : ConstVal) (i : ℕ)
    → value_at (ps ++ (p ∷ [])) w i ≡ cond (leb p.low i && leb i p.high) p.value (value_at ps w i)
value-last [] p w i = refl
value-last (q ∷ ps) p w i = value-last ps p _ i

module _ (i : ℕ) (w : ConstVal) where
  -- the index of the next plain element, the end of the indices, the value at i, and the last wildcard or else 0
  record SeenSoFar (n m : ℕ) (u s : Result ConstVal) (f : Filled) : Type 0 where
    index : f.next_index ≡ n
    reach : f.reach ≡ m
    value : ok (value_at f.placements w i) ≡ u
    otherwise : ok (filler f.wildcard) ≡ s

  -- each step goes as `reach_of`, `last_given` and `last_star` do
  module _ {n m : ℕ} {u s : Result ConstVal} {f : Filled} (q : SeenSoFar n m u s f) where
    span-seen : (v : ConstVal) (l h : ℕ) → SeenSoFar (suc h) (max m (suc h)) (cond (leb l i && leb i h) (ok v) u) s (place_span v l h f)
    span-seen v l h = record { index = refl; reach = rw q.reach; value = rw (value-last, ok-cond, q.value); otherwise = q.otherwise }

    placed-seen : (v : ConstVal) (l h : ℤ)
        → Holds (SeenSoFar (cond (le_z l h) (after_high h) n) (cond (le_z l h) (max m (after_high h)) m) (cond (covers i (l, h)) (ok v) u) s) (place_indices v l h f)
    placed-seen v (pos l) (pos h) = test (leb l h) (λ p. rw p (holds (span-seen v l h))) λ p. rw (p, none_between i l h p) (holds q)
    placed-seen v (pos l) (negsuc h) = rw (and-false (leb l i)) (holds q)
    placed-seen v (negsuc l) (pos h) = fails
    placed-seen v (negsuc l) (negsuc h) = test (leb h l) (λ _. fails) λ p. rw p (holds q)

    next-seen : (v : ConstVal) → Holds (SeenSoFar (suc n) (max m (suc n)) (cond (eqb i n) (ok v) u) s) (place_next v f)
    next-seen v = test (ltb f.next_index (2 ^ 63)) (λ _. rw (q.index, le-leb n n (le_refl n), ← one-between i n) (holds (span-seen v n n))) λ _. fails

    star-seen : (v : ConstVal) → SeenSoFar n m u (ok v) (set_wildcard v f)
    star-seen v = record { index = q.index; reach = q.reach; value = q.value; otherwise = refl }

  spans-seen : (v : ConstVal) (ss : List (ℤ × ℤ)) {n m : ℕ} {u s : Result ConstVal} {f : Filled} → SeenSoFar n m u s f
      → Holds (SeenSoFar (next_index_after n ss) (spans_reach m ss) (cond (any (covers i) ss) (ok v) u) s) (place_spans v ss f)
  spans-seen v [] q = holds q
  spans-seen v (s ∷ ss) q = then (placed-seen q v s.0 s.1) λ g r. rw cond-or (spans-seen v ss r)

  fill-seen : (ns : Names) (es : Els) {n m : ℕ} {u s : Result ConstVal} {f : Filled} → SeenSoFar n m u s f
      → Holds (λ (g : Filled). (k : ℕ) × SeenSoFar k (reach_of ns n m es) (last_given ns i n u es) (last_star ns s es) g) (fill ns es f)
  fill-seen ns no_els q = holds (_, q)
  fill-seen ns (and_el (next e) es) q = then (then (result (fold_at0 ns e)) λ v p. rw p (next-seen q v)) λ g. fill-seen ns es
  fill-seen ns (and_el (star e) es) q = then (then (result (fold_at0 ns e)) λ v p. rw p (holds (star-seen q v))) λ g. fill-seen ns es
  fill-seen ns (and_el (at e ss) es) q =
      then (then (result (fold_at0 ns e)) λ v p. then (result (spans_of ns ss)) λ l o. rw (p, o) (spans-seen v l q)) λ g. fill-seen ns es

  -- a whole literal
  literal-seen : (ns : Names) (es : Els) (f : Filled) → fill ns es none_filled ≡ ok f
      → (k : ℕ) × SeenSoFar k (reach_of ns 0 0 es) (last_given ns i 0 (ok w) es) (last_star ns (ok (v_int (pos 0))) es) f
  literal-seen ns es f p = of p (fill-seen ns es (record { index = refl; reach = refl; value = refl; otherwise = refl }))

-- ---- arrays

-- how many values a literal has, and the one at an index
module _ (ps : List Placement) (v : ConstVal) where
  values-long : (j n : ℕ) → length (values_from ps v j n) ≡ n
  values-long j zero = refl
  values-long j (suc n) = ap suc (values-long (suc j) n)

  values-at : (j n i : ℕ) → i < n → get_or (values_from ps v j n) i (v_int (pos 0)) ≡ value_at ps v (j + i)
  values-at j zero i h = absurd (omega arith)
  values-at j (suc n) zero h = rw add-zero
  values-at j (suc n) (suc i) h = rw (add-suc, ← suc-add) (values-at (suc j) n i (omega arith))

-- w is the literal's own filler
literal-at : (ns : Names) (es : Els) (f : Filled) → fill ns es none_filled ≡ ok f
    → (n i : ℕ) → i < n → ok (get_or (values_from f.placements (filler f.wildcard) 0 n) i (v_int (pos 0))) ≡ element_at ns es i
literal-at ns es f p n i h =
    let q = (literal-seen i (filler f.wildcard) ns es f p).1 in
    rw (values-at, zero-add, ← q.otherwise) q.value

size-known : (ns : Names) (e : Ex) (v : ConstVal) → fold_at0 ns e ≡ ok v → Holds (λ (n : ℕ). fold_at0 ns e ≡ ok (v_int (pos n))) (as_size v)
size-known ns e (v_int (pos n)) p = holds p
size-known ns e (v_int (negsuc n)) p = fails
size-known ns e (v_real x) p = fails
size-known ns e (v_str s) p = fails

length-known : (ns : Names) (es : Els) (s : MaybeEx) (f : Filled) → fill ns es none_filled ≡ ok f → Holds (LengthOf ns es s) (literal_size ns s f)
length-known ns es absent f p = holds (literal-seen 0 (v_int (pos 0)) ns es f p).1.reach
length-known ns es (given e) f p = then (result (fold_at0 ns e)) λ v q. size-known ns e v q

-- what holds of the array that an expression is
abbrev KnownArray : Names → Option Ty → Ex → ConstArray → Type 0
KnownArray ns declared e a = GivenBy ns declared e a × (length a.values ≤ a.count)

module _ (ns : Names) (declared : Option Ty) where
  module _ (s : MaybeEx) (t : Option Ty) (es : Els) where
    built-known : (f : Filled) → fill ns es none_filled ≡ ok f → (n : ℕ) → LengthOf ns es s n → Holds (KnownArray ns declared (array_ex (lit s t es))) (built declared t es f n)
    built-known f p n l =
        let v = filler f.wildcard in
        let e = values-long f.placements v 0 n in
        holds (record { values = (l, e, literal-at ns es f p n); kind = λ u h. ap (λ (d : Option Ty). literal_kind d t es (values_from f.placements v 0 n)) h }, le_of_eq e)

    literal-known : Holds (KnownArray ns declared (array_ex (lit s t es))) (literal ns declared s t es)
    literal-known =
        then (result (fill ns es none_filled)) λ f p.
        then (length-known ns es s f p) λ n l.
        test (any (outside n) f.placements) (λ _. refuses) λ _.
        test (leb n longest_literal) (λ _. built-known f p n l) λ _. refuses

  allocated-known : (e : Ex) (t : Ty) (v : ConstVal) → fold_at0 ns e ≡ ok v → Holds (KnownArray ns declared (array_ex (alloc e t))) (allocated (elem_kind (or_else t declared)) v)
  allocated-known e t (v_int (pos n)) p =
      test (leb n longest_alloc) (λ _. holds (record { values = (p, refl); kind = λ u h. ap (λ (d : Option Ty). elem_kind (or_else t d)) h }, zero-le)) λ _. refuses
  allocated-known e t (v_int (negsuc n)) p = test (leb n longest_alloc) (λ _. refuses) λ _. refuses
  allocated-known e t (v_real x) p = fails
  allocated-known e t (v_str s) p = fails

  array_known : (e : Ex) → Holds (KnownArray ns declared e) (const_array ns declared e)
  array_known (constant v) = fails
  array_known (ident n) = fails
  array_known (mod_qual e n) = fails
  array_known (unary o e) = fails
  array_known (binary l o r) = fails
  array_known (cast t e) = fails
  array_known (len e) = fails
  array_known (array_ex (alloc e t)) = then (result (fold_at0 ns e)) (allocated-known e t)
  array_known (array_ex (lit s t es)) = literal-known s t es
  array_known other_ex = fails

-- ---- first values

-- a first value is an array only where the constant array is that one
from-array : (v : Result ConstVal) (x : Result ConstArray) (a : ConstArray) → first_value v x ≡ ok (array_init a) → x ≡ ok a
from-array (ok v) x a p = cc
from-array failed (ok b) a p = cc
from-array failed failed a p = cc
from-array failed (refuse r) a p = cc
from-array (refuse r) x a p = cc

init-known : (ns : Names) (t : Ty) (e : Ex) (a : ConstArray) → init_of ns t (Some e) ≡ ok (array_init a) → KnownArray ns (elem_of t) e a
init-known ns t e a p = of (from-array (fold_at0 ns e) _ a p) (array_known ns (elem_of t) e)

-- of any first value that is an array: its values are, index by index, those last given, or else the filler
pub array-given : (ns : Names) (t : Ty) (e : Ex) (a : ConstArray) → init_of ns t (Some e) ≡ ok (array_init a) → GivenBy ns (elem_of t) e a
array-given ns t e a p = (init-known ns t e a p).0

-- and an array has no more values than its length
pub array-fits : (ns : Names) (t : Ty) (e : Ex) (a : ConstArray) → init_of ns t (Some e) ≡ ok (array_init a) → length a.values ≤ a.count
array-fits ns t e a p = (init-known ns t e a p).1

abbrev pub ValuesFit : Init → Type 0
ValuesFit no_init = Unit {0}
ValuesFit (const_init v) = Unit {0}
ValuesFit (array_init a) = length a.values ≤ a.count
ValuesFit pending_init = Unit {0}

pub init-sized : (ns : Names) (t : Ty) (o : Option Ex) → ValuesFit (or_no_init (init_of ns t o))
init-sized ns t None = tt
init-sized ns t (Some e) = go (init_of ns t (Some e)) refl
  where
    go : (x : Result Init) → init_of ns t (Some e) ≡ x → ValuesFit (or_no_init x)
    go (ok no_init) p = tt
    go (ok (const_init v)) p = tt
    go (ok (array_init a)) p = array-fits ns t e a p
    go (ok pending_init) p = tt
    go failed p = tt
    go (refuse r) p = tt
