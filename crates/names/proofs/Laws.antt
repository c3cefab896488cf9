-- Laws of the table of constants.
use mathlib.Core.Path.{◌≡◌, refl, sym, ap, ◌∙◌}
use mathlib.Core.Bool.{Bool, true, false, cond, not, ◌&&◌, ◌||◌, false≢true}
use mathlib.Core.List.{List, [], ◌∷◌, ◌++◌}
use Rattle.std.specs.Prelude.{Option, None, Some}
use Prim.Native.Nat.{ℕ, zero, suc, ◌+◌, ◌*◌, ◌/◌, ◌%◌, ◌≤◌, ◌<◌}
use native.Mathlib.Omega.{arith}
use lib.Dec.{ltb, eqb}
use lib.Ieee.{binary64, of_bits}
use lib.ListN.{length, take, drop, get_or, set}
use lib.Seq.{take-take, take-set-le, get_or-take, get_or-drop, drop-drop, drop-set-lt}
use borrow.Author.Tests.{ltb-true, ltb-false, eq-eqb, ne_eqb, eqb-true}
use Rattle.semantics.specs.Text.{Bytes, same, from_big_endian}
use Rattle.semantics.specs.Tree.{ConstVal}
use Rattle.semantics.specs.Tree.ConstVal.{v_int, v_real, v_str}
use Rattle.semantics.specs.Sheet.{sheet_source}
use Rattle.semantics.specs.Fold.{Key, Const, signed64, plain, qualified, same_option, look_up, value_of}
use Rattle.semantics.specs.Const.{entries}
use Rattle.semantics.proofs.Common.{both}
use Rattle.std.specs.Option.{is_some}
use Rattle.chains.specs.Chains.{newest_of, count_to, chain_of, digest_place, digest_at, head_at, chain_at, in_chain, ChainRoom, newest_in, earlier_than, Chained, linked}
use Rattle.chains.proofs.Laws.{newest-low, newest-most, earlier-less, Along, along-from, along-found, along-next, along-end, chained-kept, PlacesApart, linked-outside}
use Rattle.words.specs.Words.{digest_from, digest, u16_at, bits_at}
use Rattle.laws.proofs.Tests.{same-eq}
use Rattle.implement.specs.Modules.{first_field, module_at, own_in, is_own}
use Rattle.checks.specs.Checks.{Kept, Outside}
use Rattle.checks.proofs.Kept.{kept_at, kept_less}
use Rattle.names.specs.Table.{const_line_of, module_line_of, value_by, slot_value, kind_of, bits_of, const_chains, qualified_digest, const_digest, entries_at, log_in, EntryBounds, ConstsLogged, ConstTable, ConstEntry, found, has_key, is_within, answers_key, newest_key, digest_within, key_digest, Answered, Looked}

-- ---- a slot by its kind and bits

pub slot_is : (t : Bytes) (i : ℕ) → slot_value t (5124 + 16 * i) ≡ value_by t (kind_of t i) (bits_of t i)
unfolding slot_value
slot_is t i = let e : 5124 + 16 * i + 1 ≡ 5125 + 16 * i = omega arith in rw e

module _ (t : Bytes) (k b : ℕ) where
  pub value-failed : (k ≡ 1 → ⊥) → (k ≡ 2 → ⊥) → (k ≡ 3 → ⊥) → value_by t k b ≡ None
  unfolding value_by
  value-failed p q r = rw (ne_eqb k 1 p, ne_eqb k 2 q, ne_eqb k 3 r)

  pub value-int : k ≡ 1 → value_by t k b ≡ Some (v_int (signed64 b))
  unfolding value_by
  value-int e = rw e

  pub value-real : k ≡ 2 → value_by t k b ≡ Some (v_real (of_bits binary64 b))
  unfolding value_by
  value-real e = rw e

  pub value-text : k ≡ 3 → value_by t k b ≡ Some (v_str (take (b / 65536) (drop (b % 65536) t)))
  unfolding value_by
  value-text e = rw e

-- what a look-up answered, where it found a constant
pub found-is : (t : Bytes) (i : ℕ) → found t (Some i) ≡ value_by t (kind_of t i) (bits_of t i)
unfolding found
found-is t i = slot_is t i

-- ---- look-ups

chosen : (b : Bool) (v : Option ConstVal) (k : Key) (o : Option Const) → value_of (cond b (Some (record { key = k; value = v })) o) ≡ cond (b && true) v (value_of o)
chosen true v k o = refl
chosen false v k o = refl

passed : (b : Bool) (v w : Option ConstVal) → w ≡ cond (b && false) v w
passed true v w = refl
passed false v w = refl

has_one : (b r : Bool) → b || r ≡ (b && true) || r
has_one true r = refl
has_one false r = refl

has-none : (b r : Bool) → r ≡ (b && false) || r
has-none true r = refl
has-none false r = refl

has_both : (a b r : Bool) → (a && b) || r ≡ (b && (true && a)) || r
has_both true true r = refl
has_both true false r = refl
has_both false true r = refl
has_both false false r = refl

module _ (impl : Option Bytes) (s x y : Bytes) (v : Option ConstVal) (rest : List Const) where
  plain-has-within : (i : Bool) (m : Bytes)
      → has_key (plain x) ((cond i (record { key = plain y; value = v } ∷ []) [] ++ (record { key = qualified m y; value = v } ∷ [])) ++ rest) ≡ (same x y && i) || has_key (plain x) rest
  unfolding has_key
  plain-has-within true m = has_one (same x y) (has_key (plain x) rest)
  plain-has-within false m = has-none (same x y) (has_key (plain x) rest)

  plain-has : (k : ℕ) → has_key (plain x) (entries impl (module_at s k) y v ++ rest) ≡ (same x y && own_in impl (module_at s k)) || has_key (plain x) rest
  unfolding module_at has_key
  plain-has zero = has_one (same x y) (has_key (plain x) rest)
  plain-has (suc k) = plain-has-within (same_option impl (Some (first_field s (suc k)))) (first_field s (suc k))

  qualified-has-within : (q : Bytes) (i : Bool) (m : Bytes)
      → has_key (qualified q x) ((cond i (record { key = plain y; value = v } ∷ []) [] ++ (record { key = qualified m y; value = v } ∷ [])) ++ rest) ≡ (same x y && (true && same q m)) || has_key (qualified q x) rest
  unfolding has_key
  qualified-has-within q true m = has_both (same q m) (same x y) (has_key (qualified q x) rest)
  qualified-has-within q false m = has_both (same q m) (same x y) (has_key (qualified q x) rest)

  qualified-has : (q : Bytes) (k : ℕ) → has_key (qualified q x) (entries impl (module_at s k) y v ++ rest) ≡ (same x y && (not (eqb k 0) && same q (first_field s k))) || has_key (qualified q x) rest
  unfolding module_at has_key
  qualified-has q zero = has-none (same x y) (has_key (qualified q x) rest)
  qualified-has q (suc k) = rw (ne_eqb (suc k) 0 (λ e. omega arith)) (qualified-has-within q (same_option impl (Some (first_field s (suc k)))) (first_field s (suc k)))

  plain-within : (i : Bool) (m : Bytes)
      → value_of (look_up (plain x) ((cond i (record { key = plain y; value = v } ∷ []) [] ++ (record { key = qualified m y; value = v } ∷ [])) ++ rest)) ≡ cond (same x y && i) v (value_of (look_up (plain x) rest))
  plain-within true m = chosen (same x y) v (plain y) (look_up (plain x) rest)
  plain-within false m = passed (same x y) v (value_of (look_up (plain x) rest))

  plain_step : (k : ℕ) → value_of (look_up (plain x) (entries impl (module_at s k) y v ++ rest)) ≡ cond (same x y && own_in impl (module_at s k)) v (value_of (look_up (plain x) rest))
  unfolding module_at
  plain_step zero = chosen (same x y) v (plain y) (look_up (plain x) rest)
  plain_step (suc k) = plain-within (same_option impl (Some (first_field s (suc k)))) (first_field s (suc k))

  module _ (q : Bytes) where
    last : (m : Bytes)
        → value_of (cond (same q m && same x y) (Some (record { key = qualified m y; value = v })) (look_up (qualified q x) rest)) ≡ cond (same x y && (true && same q m)) v (value_of (look_up (qualified q x) rest))
    last m = go (same q m) (same x y)
      where
        go : (a b : Bool) → value_of (cond (a && b) (Some (record { key = qualified m y; value = v })) (look_up (qualified q x) rest)) ≡ cond (b && (true && a)) v (value_of (look_up (qualified q x) rest))
        go true true = refl
        go true false = refl
        go false true = refl
        go false false = refl

    qualified-within : (i : Bool) (m : Bytes)
        → value_of (look_up (qualified q x) ((cond i (record { key = plain y; value = v } ∷ []) [] ++ (record { key = qualified m y; value = v } ∷ [])) ++ rest)) ≡ cond (same x y && (true && same q m)) v (value_of (look_up (qualified q x) rest))
    qualified-within true m = last m
    qualified-within false m = last m

    qualified-step : (k : ℕ) → value_of (look_up (qualified q x) (entries impl (module_at s k) y v ++ rest)) ≡ cond (same x y && (not (eqb k 0) && same q (first_field s k))) v (value_of (look_up (qualified q x) rest))
    unfolding module_at
    qualified-step zero = passed (same x y) v (value_of (look_up (qualified q x) rest))
    qualified-step (suc k) = rw (ne_eqb (suc k) 0 (λ e. omega arith)) (qualified-within (same_option impl (Some (first_field s (suc k)))) (first_field s (suc k)))

-- a look-up, where it is known which entries answer it
pub record Answering (s t : Bytes) (k : Key) (answers : ℕ → Bool) : Type 0 where
  pub value : (i : ℕ) (rest : List Const) → value_of (look_up k (entries_at s t i ++ rest)) ≡ cond (answers i) (slot_value t (5124 + 16 * i)) (value_of (look_up k rest))
  pub has : (i : ℕ) (rest : List Const) → has_key k (entries_at s t i ++ rest) ≡ answers i || has_key k rest

module _ {s t : Bytes} {k : Key} {answers : ℕ → Bool} (a : Answering s t k answers) where
  newest-value : (m : ℕ) → value_of (look_up k (log_in s t m)) ≡ found t (newest_of answers m)
  unfolding log_in found newest_of
  newest-value zero = refl
  newest-value (suc m) = a.value m (log_in s t m) ∙ go (answers m) (newest-value m)
    where
      go : (b : Bool) → value_of (look_up k (log_in s t m)) ≡ found t (newest_of answers m) → cond b (slot_value t (5124 + 16 * m)) (value_of (look_up k (log_in s t m))) ≡ found t (cond b (Some m) (newest_of answers m))
      go true h = refl
      go false h = h

  newest-has : (m : ℕ) → has_key k (log_in s t m) ≡ is_some (newest_of answers m)
  unfolding log_in has_key newest_of
  newest-has zero = refl
  newest-has (suc m) = a.has m (log_in s t m) ∙ go (answers m) (newest-has m)
    where
      go : (b : Bool) → has_key k (log_in s t m) ≡ is_some (newest_of answers m) → b || has_key k (log_in s t m) ≡ is_some (cond b (Some m) (newest_of answers m))
      go true h = refl
      go false h = h

  found-newest : {m : ℕ} {r : Option ℕ} → r ≡ newest_of answers m → (value_of (look_up k (log_in s t m)) ≡ found t r) × (count_to r ≤ m) × (has_key k (log_in s t m) ≡ is_some r)
  found-newest {m} e = rw e (newest-value m, newest-low answers m, newest-has m)

module _ (s t : Bytes) where
  answers-within : (w : Option Bytes) (x : Bytes) → Answering s t (record { within = w; name = x }) (λ (i : ℕ). answers_key s t i (record { within = w; name = x }))
  unfolding entries_at answers_key is_within
  answers-within None x = record {
    value = λ i rest. plain_step (sheet_source s).implement s x (first_field s (const_line_of t i)) (slot_value t (5124 + 16 * i)) rest (module_line_of t i);
    has = λ i rest. plain-has (sheet_source s).implement s x (first_field s (const_line_of t i)) (slot_value t (5124 + 16 * i)) rest (module_line_of t i);
  }
  answers-within (Some q) x = record {
    value = λ i rest. qualified-step (sheet_source s).implement s x (first_field s (const_line_of t i)) (slot_value t (5124 + 16 * i)) rest q (module_line_of t i);
    has = λ i rest. qualified-has (sheet_source s).implement s x (first_field s (const_line_of t i)) (slot_value t (5124 + 16 * i)) rest q (module_line_of t i);
  }

  pub looked : (k : Key) {m : ℕ} {r : Option ℕ} → r ≡ newest_key s t m k → Looked s t k m r
  looked k e = let f = found-newest (answers-within k.within k.name) e in record { value = f.0; low = f.1; has = f.2; newest-is = e }

pub const-room : {t : Bytes} → 49152 ≤ length t → ChainRoom t const_chains
unfolding digest_place
const-room room = record { low = λ i h. omega arith; within = λ i h. omega arith }

-- `chains` may be asked about an entry of the table
pub entry-asked : {s t : Bytes} {m : ℕ} → ConstTable s t m → 49152 ≤ length t → {i : ℕ} → i < m → (ChainRoom t const_chains) × (i < 256)
entry-asked c l h = (const-room l, omega (arith, c.logged.few))

-- a number up to the table's end is an answer
pub answered : {s t : Bytes} {m : ℕ} → ConstsLogged s t m → {r : Option ℕ} → count_to r ≤ m → Answered t r
answered l h = record { few = omega (arith, l.few); text = λ i e q. let z = ap count_to e in (l.each i (omega (arith, z))).text q }

-- ---- digests

own-digest : (s : Bytes) (k : ℕ) (y : Bytes) → is_own s k ≡ true → const_digest s k y ≡ digest y
unfolding module_at const_digest qualified_digest
own-digest s zero y h = refl
own-digest s (suc k) y h = rw h

in-digest : (s : Bytes) (k : ℕ) (q y : Bytes) → not (eqb k 0) && same q (first_field s k) ≡ true → const_digest s k y ≡ qualified_digest s q y
unfolding const_digest
in-digest s zero q y h = absurd (false≢true h)
in-digest s (suc k) q y h = rw (same-eq q (first_field s (suc k)) (both (not (eqb (suc k) 0)) (same q (first_field s (suc k))) h).1)

-- as they are worked out
module _ (s q x : Bytes) {b : Bool} (e : b ≡ same_option (sheet_source s).implement (Some q)) {d : ℕ} (h : d ≡ digest x) where
  pub digest-implemented : b ≡ true → d ≡ qualified_digest s q x
  unfolding qualified_digest
  digest-implemented f = rw (← e, f) h

  pub digest-of-both : b ≡ false → {r : ℕ} → r ≡ digest_from d q → r ≡ qualified_digest s q x
  unfolding qualified_digest
  digest-of-both f g = rw (← e, f, ← h) g

-- an entry that answers has the digest that is looked for
module _ (s t : Bytes) (i : ℕ) where
  within-digest : (w : Option Bytes) (j : ℕ) (y : Bytes) → is_within s j w ≡ true → const_digest s j y ≡ digest_within s w y
  unfolding is_within
  within-digest None j y e = own-digest s j y e
  within-digest (Some q) j y e = in-digest s j q y e

  pub key-digested : (k : Key) → answers_key s t i k ≡ true → const_digest s (module_line_of t i) (first_field s (const_line_of t i)) ≡ key_digest s k
  unfolding answers_key
  key-digested k e =
      let w = both (same k.name (first_field s (const_line_of t i))) (is_within s (module_line_of t i) k.within) e in
      within-digest k.within (module_line_of t i) (first_field s (const_line_of t i)) w.1 ∙ ap (digest_within s k.within) (sym (same-eq k.name (first_field s (const_line_of t i)) w.0))

-- so it is in the chain of that digest
module _ {s t : Bytes} {m : ℕ} (c : ConstTable s t m) {d : ℕ} where
  member : (i : ℕ) → i < m → const_digest s (module_line_of t i) (first_field s (const_line_of t i)) ≡ d → in_chain t const_chains (chain_of d) i ≡ true
  unfolding chain_at
  member i h e = eq-eqb (chain_at t const_chains i) (chain_of d) (ap chain_of (c.logged.digests i h ∙ e))

  pub key-member : (k : Key) → d ≡ key_digest s k → (i : ℕ) → i < m → answers_key s t i k ≡ true → in_chain t const_chains (chain_of d) i ≡ true
  key-member k e i h q = member i h (key-digested s t i k q ∙ sym e)

-- where it begins
module _ {s t : Bytes} {m : ℕ} (c : ConstTable s t m) (d : ℕ) {r : Option ℕ} where
  pub newest-within : r ≡ newest_in t const_chains m (chain_of d) → (count_to r ≤ m) × (r ≡ newest_of (in_chain t const_chains (chain_of d)) m)
  newest-within e = let q = e ∙ c.logged.chained.heads (chain_of d) (omega arith) in (newest-most (in_chain t const_chains (chain_of d)) q, q)

-- a look-up along chain k, where `newest` is the newest of it among some first entries: i is the next entry
pub record Asking (t : Bytes) (k n : ℕ) (newest : Option ℕ) (answers : ℕ → Bool) (i : Option ℕ) : Type 0 where
  pub low : count_to i ≤ n
  pub along : (m : ℕ) → m ≤ n → newest ≡ newest_of (in_chain t const_chains k) m → Along t const_chains k m answers i

module _ {t : Bytes} {k n : ℕ} {newest : Option ℕ} {answers : ℕ → Bool} where
  pub asking-first : Chained t const_chains n → count_to newest ≤ n → ((j : ℕ) → j < n → answers j ≡ true → in_chain t const_chains k j ≡ true) → Asking t k n newest answers newest
  asking-first c h only = record { low = h; along = λ m l e. along-from (λ j x. c.links j (omega arith)) (λ j x. only j (omega arith)) e }

  module _ {p : Option ℕ} (a : Asking t k n newest answers p) {i : ℕ} (h : p ≡ Some i) where
    pub asking-low : i < n
    asking-low = let z = ap count_to h in omega (arith, a.low, z)

    module _ {b : Bool} (e : b ≡ answers i) where
      pub asking-found : b ≡ true → (m : ℕ) → m ≤ n → newest ≡ newest_of (in_chain t const_chains k) m → Some i ≡ newest_of answers m
      asking-found q m l x = along-found (a.along m l x) h e q

      pub asking-next : b ≡ false → {r : Option ℕ} → r ≡ earlier_than t const_chains i → Asking t k n newest answers r
      asking-next q x = let l = earlier-less t const_chains h x in record { low = omega (arith, l, a.low); along = λ m y z. along-next (a.along m y z) h e q x }

  pub asking-end : {p : Option ℕ} → p ≡ None → Asking t k n newest answers p → (m : ℕ) → m ≤ n → newest ≡ newest_of (in_chain t const_chains k) m → None ≡ newest_of answers m
  asking-end z a m l x = along-end z (a.along m l x)

-- which entries answer, as it is tested: whether an entry has the digest d, and then whether it has the name
module _ (D d : ℕ) (a o : Bool) {b : Bool} (e : b ≡ eqb D d && a) where
  untold : (a && o ≡ true → D ≡ d) → b ≡ false → false ≡ a && o
  untold h f = go (a && o) refl
    where
      go : (r : Bool) → a && o ≡ r → false ≡ r
      go false q = refl
      go true q = absurd (false≢true (sym f ∙ e ∙ rw (eq-eqb D d (h q), (both a o q).0)))

  told : b ≡ true → a ≡ true
  told f = (both (eqb D d) a (sym e ∙ f)).1

module _ (s t : Bytes) (i d : ℕ) (k : Key) {b : Bool} (name : b ≡ eqb (digest_at t const_chains i) d && same k.name (first_field s (const_line_of t i))) where
  pub key-other : ConstEntry s t i → b ≡ false → d ≡ key_digest s k → false ≡ answers_key s t i k
  unfolding answers_key
  key-other c f e = untold (digest_at t const_chains i) d (same k.name (first_field s (const_line_of t i))) (is_within s (module_line_of t i) k.within) name (λ q. c.digested ∙ key-digested s t i k q ∙ sym e) f

  pub key-within : b ≡ true → {j : ℕ} → j ≡ module_line_of t i → {r : Bool} → r ≡ is_within s j k.within → r ≡ answers_key s t i k
  unfolding answers_key
  key-within f within e = rw (told (digest_at t const_chains i) d (same k.name (first_field s (const_line_of t i))) true name f, ← within) e

-- the same of a name alone, and of one within a module of a name
module _ (s t : Bytes) (i d : ℕ) (x : Bytes) {b : Bool} (name : b ≡ eqb (digest_at t const_chains i) d && same x (first_field s (const_line_of t i))) where
  module _ (c : ConstEntry s t i) (f : b ≡ false) where
    pub plain_other : d ≡ digest x → false ≡ answers_key s t i (plain x)
    plain_other = key-other s t i d (plain x) name c f

    pub qualified-other : (q : Bytes) → d ≡ qualified_digest s q x → false ≡ answers_key s t i (qualified q x)
    qualified-other q = key-other s t i d (qualified q x) name c f

  module _ (f : b ≡ true) {j : ℕ} (within : j ≡ module_line_of t i) where
    pub plain-own : {r : Bool} → r ≡ is_own s j → r ≡ answers_key s t i (plain x)
    unfolding is_within
    plain-own e = key-within s t i d (plain x) name f within e

    pub qualified-top : (q : Bytes) → j ≡ 0 → false ≡ answers_key s t i (qualified q x)
    unfolding is_within
    qualified-top q z = key-within s t i d (qualified q x) name f within (rw z)

    pub qualified-in : (q : Bytes) → (j ≡ 0 → ⊥) → {r : Bool} → r ≡ same q (first_field s j) → r ≡ answers_key s t i (qualified q x)
    unfolding is_within
    qualified-in q z e = key-within s t i d (qualified q x) name f within (rw (ne_eqb j 0 z) e)

-- ---- what is kept

pub part_low : (a b c : ℕ) (l : Bytes) → a + b ≤ c → take b (drop a (take c l)) ≡ take b (drop a l)
part_low zero b c l h = take-take b c l (omega arith)
part_low (suc a) b zero l h = absurd (omega arith)
part_low (suc a) b (suc c) [] h = refl
part_low (suc a) b (suc c) (x ∷ l) h = part_low a b c l (omega arith)

pub part-kept : {c : ℕ} {t u : Bytes} → Kept c t u → (a b : ℕ) → a + b ≤ c → take b (drop a u) ≡ take b (drop a t)
part-kept {c} {t} {u} k a b h = sym (part_low a b c u h) ∙ ap (λ (l : Bytes). take b (drop a l)) k.below ∙ part_low a b c t h

-- the same bytes of entry i but for its link and its head
pub record SameEntry (t u : Bytes) (i : ℕ) : Type 0 where
  pub bytes : take 14 (drop (5120 + 16 * i) u) ≡ take 14 (drop (5120 + 16 * i) t)

-- the string of an entry is the same
abbrev pub SameText : Bytes → Bytes → ℕ → Type 0
SameText t u i = kind_of t i ≡ 3 → take (bits_of t i / 65536) (drop (bits_of t i % 65536) u) ≡ take (bits_of t i / 65536) (drop (bits_of t i % 65536) t)

-- such an entry stays as it is
module _ {t u : Bytes} {i : ℕ} (w : SameEntry t u i) where
  byte-kept : (p j : ℕ) → p ≡ 5120 + 16 * i + j → j < 14 → get_or u p 0 ≡ get_or t p 0
  byte-kept p j q h =
      let x : (l : Bytes) → get_or l p 0 ≡ get_or (take 14 (drop (5120 + 16 * i) l)) j 0 = λ l. ap (λ (a : ℕ). get_or l a 0) q ∙ sym (get_or-take 14 (drop (5120 + 16 * i) l) j 0 h ∙ get_or-drop (5120 + 16 * i) l j 0) in
      x u ∙ ap (λ (l : Bytes). get_or l j 0) w.bytes ∙ sym (x t)

  line_kept : const_line_of u i ≡ const_line_of t i
  unfolding u16_at
  line_kept = rw (byte-kept (5120 + 16 * i) 0 (omega arith) (omega arith), byte-kept (5120 + 16 * i + 1) 1 (omega arith) (omega arith))

  module-kept : module_line_of u i ≡ module_line_of t i
  unfolding u16_at
  module-kept = rw (byte-kept (5122 + 16 * i) 2 (omega arith) (omega arith), byte-kept (5122 + 16 * i + 1) 3 (omega arith) (omega arith))

  kind-kept : kind_of u i ≡ kind_of t i
  kind-kept = byte-kept (5124 + 16 * i) 4 (omega arith) (omega arith)

  bits-kept : bits_of u i ≡ bits_of t i
  unfolding bits_at
  bits-kept =
      let a : 5125 + 16 * i ≡ 5120 + 16 * i + 5 = omega arith in
      let x : (l : Bytes) → take 8 (drop (5120 + 16 * i + 5) l) ≡ take 8 (drop 5 (take 14 (drop (5120 + 16 * i) l))) = λ l. sym (part_low 5 8 14 (drop (5120 + 16 * i) l) (omega arith) ∙ ap (take 8) (drop-drop 5 (5120 + 16 * i) l)) in
      rw a (ap (from_big_endian 0) (x u ∙ ap (λ (l : Bytes). take 8 (drop 5 l)) w.bytes ∙ sym (x t)))

  digest-kept : digest_at u const_chains i ≡ digest_at t const_chains i
  unfolding digest_place
  digest-kept = byte-kept (5133 + 16 * i) 13 (omega arith) (omega arith)

  entry_kept : {n : ℕ} → EntryBounds t n i → EntryBounds u n i
  entry_kept e = record {
    first = rw line_kept e.first;
    last = rw line_kept e.last;
    within = rw module-kept e.within;
    kind = rw kind-kept e.kind;
    text = λ q. rw bits-kept (e.text (sym kind-kept ∙ q));
    own = λ q. rw bits-kept (e.own (sym kind-kept ∙ q));
  }

  module _ (same : SameText t u i) where
    slot_kept : slot_value u (5124 + 16 * i) ≡ slot_value t (5124 + 16 * i)
    unfolding value_by
    slot_kept = slot_is u i ∙ rw (kind-kept, bits-kept) (go (eqb (kind_of t i) 3) refl) ∙ sym (slot_is t i)
      where
        go : (q : Bool) → eqb (kind_of t i) 3 ≡ q → value_by u (kind_of t i) (bits_of t i) ≡ value_by t (kind_of t i) (bits_of t i)
        go true x = rw (x, same (eqb-true (kind_of t i) 3 x))
        go false x = rw x

    entries-kept : (s : Bytes) → entries_at s u i ≡ entries_at s t i
    unfolding entries_at
    entries-kept s = rw (line_kept, module-kept, slot_kept)

-- and so do the first m
module _ {t u : Bytes} {m : ℕ} (w : (i : ℕ) → i < m → SameEntry t u i) where
  pub each_same : {n : ℕ} → ((i : ℕ) → i < m → EntryBounds t n i) → (i : ℕ) → i < m → EntryBounds u n i
  each_same each i h = entry_kept (w i h) (each i h)

  pub digests-same : (s : Bytes) → ((i : ℕ) → i < m → digest_at t const_chains i ≡ const_digest s (module_line_of t i) (first_field s (const_line_of t i))) → (i : ℕ) → i < m → digest_at u const_chains i ≡ const_digest s (module_line_of u i) (first_field s (const_line_of u i))
  digests-same s d i h = rw (digest-kept (w i h), module-kept (w i h), line_kept (w i h)) (d i h)

  module _ (s : Bytes) (same : (i : ℕ) → i < m → SameText t u i) where
    log-upto : (k : ℕ) → k ≤ m → log_in s u k ≡ log_in s t k
    unfolding log_in
    log-upto zero h = refl
    log-upto (suc k) h = rw (entries-kept (w k (omega arith)) (same k (omega arith)) s, log-upto k (omega arith))

    pub log-same : log_in s u m ≡ log_in s t m
    log-same = log-upto m (omega arith)

pub entries_below : {t u : Bytes} {m : ℕ} → Kept (5120 + 16 * m) t u → (i : ℕ) → i < m → SameEntry t u i
entries_below w i h = record { bytes = part-kept w (5120 + 16 * i) 14 (omega arith) }

-- and a table, where it is kept
module _ {s t u : Bytes} {m : ℕ} (w : Kept 7168 t u) (l : ConstsLogged s t m) where
  same_entries : (i : ℕ) → i < m → SameEntry t u i
  same_entries = entries_below (kept_less (omega (arith, l.few)) w)

  pub logged-same : ConstsLogged s u m
  unfolding digest_place
  logged-same = record {
    few = l.few;
    each = each_same same_entries l.each;
    digests = digests-same same_entries s l.digests;
    chained = chained-kept (record { digest = λ i h. kept_at w (5133 + 16 * i) (omega arith); link = λ i h. kept_at w (5133 + 16 * i + 1) (omega arith); head = λ k h. kept_at w (5133 + 16 * k + 1 + 1) (omega arith) }) l.few l.chained;
  }

  -- and the log, where bytes among the constants' strings are kept
  pub log-stays : ((a b : ℕ) → 16384 ≤ a → a + b ≤ 49152 → take b (drop a u) ≡ take b (drop a t)) → log_in s u m ≡ log_in s t m
  log-stays parts = log-same same_entries s (λ i h q. let x = (l.each i h).text q in parts (bits_of t i % 65536) (bits_of t i / 65536) x.low x.high)

-- ---- an entry linked

pub const-apart : PlacesApart const_chains 128
unfolding digest_place
const-apart = record { own = λ i j e. omega arith; link = λ i j h k e. omega arith; head = λ i k h l e. omega arith }

-- a byte set before an entry, or behind its first 14 bytes
module _ (t : Bytes) (i j x : ℕ) where
  set_before : j < 5120 + 16 * i → SameEntry t (set t j x) i
  set_before h = record { bytes = ap (take 14) (drop-set-lt (5120 + 16 * i) t j x h) }

  set-behind : 5134 + 16 * i ≤ j → SameEntry t (set t j x) i
  set-behind h =
      let a = 5120 + 16 * i in
      record { bytes = sym (part_low a 14 (a + 14) (set t j x) (omega arith)) ∙ ap (λ (l : Bytes). take 14 (drop a l)) (take-set-le (a + 14) t j x (omega arith)) ∙ part_low a 14 (a + 14) t (omega arith) }

module _ (t : Bytes) (m : ℕ) (few : m < 128) where
  pub const-outside : Outside 5120 7168 t (linked t const_chains m)
  unfolding digest_place
  const-outside = linked-outside t const_chains m (omega arith) (omega arith) (λ k h. (omega arith, omega arith))

  pub linked-entries : (i : ℕ) → i < m + 1 → SameEntry t (linked t const_chains m) i
  unfolding linked digest_place
  linked-entries i h = go (ltb k i) refl
    where
      k : ℕ
      k = chain_at t const_chains m

      u : Bytes
      u = set t (5133 + 16 * m + 1) (head_at t const_chains k)

      head : (b : Bool) → ltb k i ≡ b → SameEntry u (set u (5133 + 16 * k + 1 + 1) m) i
      head true e = let x = ltb-true k i e in set_before u i (5133 + 16 * k + 1 + 1) m (omega arith)
      head false e = let x = ltb-false k i e in set-behind u i (5133 + 16 * k + 1 + 1) m (omega arith)

      go : (b : Bool) → ltb k i ≡ b → SameEntry t (set u (5133 + 16 * k + 1 + 1) m) i
      go b e = record { bytes = (head b e).bytes ∙ (set-behind t i (5133 + 16 * m + 1) (head_at t const_chains k) (omega arith)).bytes }

-- where all below the stack of folds is kept
module _ {s t u : Bytes} {m : ℕ} (w : Kept 49152 t u) (l : ConstsLogged s t m) where
  table-part : Kept 7168 t u
  table-part = kept_less (omega arith) w

  pub logged-kept : ConstsLogged s u m
  logged-kept = logged-same table-part l

  pub log-kept : log_in s u m ≡ log_in s t m
  log-kept = log-stays table-part l (λ a b h k. part-kept w a b k)
