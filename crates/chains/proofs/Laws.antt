-- Laws of chains: what they hold, look-ups along them, entries linked, and what is kept.
use mathlib.Core.Path.{◌≡◌, refl, sym, ap, ◌∙◌}
use mathlib.Core.Bool.{Bool, true, false, cond, ◌&&◌, false≢true}
use mathlib.Core.Logic.{⊎_elim}
use Rattle.std.specs.Prelude.{Option, None, Some}
use Prim.Native.Nat.{ℕ, zero, suc, ◌+◌, ◌≤◌, ◌<◌}
use native.Mathlib.Omega.{arith}
use native.Mathlib.Nat.{eq-or-lt_of_le}
use lib.Dec.{ltb, eqb}
use lib.ListN.{length, get_or, set, length-set}
use lib.Seq.{get_or-set_same, get_or-set_other}
use borrow.Author.Tests.{lt-ltb, le-ltb, eq-eqb, ne_eqb, eqb-true, eqb-false, ltb-true, ltb-false}
use Rattle.semantics.specs.Text.{Bytes}
use Rattle.checks.specs.Checks.{Outside}
use Rattle.checks.proofs.Kept.{outside-then, outside_set}
use Rattle.chains.specs.declared.ChainPlaces.{ChainPlaces}
use Rattle.chains.specs.Chains.{newest_of, count_to, chain_of, digest_place, digest_at, link_at, head_at, chain_at, in_chain, ChainRoom, entry_below, newest_in, earlier_than, Chained, linked}

-- a chain is one of 128
pub chain-small : (t : Bytes) (c : ChainPlaces) (i : ℕ) → chain_at t c i < 128
unfolding chain_at
chain-small t c i = omega arith

-- ---- the newest entry that answers

module _ (answers : ℕ → Bool) where
  pub newest-yes : (i : ℕ) → answers i ≡ true → newest_of answers (suc i) ≡ Some i
  unfolding newest_of
  newest-yes i e = rw e

  pub newest-no : (i : ℕ) → answers i ≡ false → newest_of answers (suc i) ≡ newest_of answers i
  unfolding newest_of
  newest-no i e = rw e

  newest-none : newest_of answers 0 ≡ None
  unfolding newest_of
  newest-none = refl

  pub newest-low : (m : ℕ) → count_to (newest_of answers m) ≤ m
  unfolding newest_of
  newest-low zero = omega arith
  newest-low (suc m) = go (answers m) (newest-low m)
    where
      go : (b : Bool) → count_to (newest_of answers m) ≤ m → count_to (cond b (Some m) (newest_of answers m)) ≤ suc m
      go true h = omega arith
      go false h = omega arith

  pub newest-most : {m : ℕ} {r : Option ℕ} → r ≡ newest_of answers m → count_to r ≤ m
  newest-most {m} e = rw e (newest-low m)

  -- it answers
  newest-answers : (m i : ℕ) → newest_of answers m ≡ Some i → answers i ≡ true
  unfolding newest_of
  newest-answers zero i e = cc e
  newest-answers (suc m) i e = go (answers m) refl e (newest-answers m i)
    where
      go : (b : Bool) → answers m ≡ b → cond b (Some m) (newest_of answers m) ≡ Some i → (newest_of answers m ≡ Some i → answers i ≡ true) → answers i ≡ true
      go true q h f = let z : m ≡ i = cc h in rw (← z) q
      go false q h f = f h

  -- no entry behind it answers
  pub newest-from : (m i : ℕ) → i < m → answers i ≡ true → i < count_to (newest_of answers m)
  unfolding newest_of
  newest-from zero i h q = absurd (omega arith)
  newest-from (suc m) i h q = go (answers m) refl (newest-from m i)
    where
      go : (b : Bool) → answers m ≡ b → (i < m → answers i ≡ true → i < count_to (newest_of answers m)) → i < count_to (cond b (Some m) (newest_of answers m))
      go true e f = omega arith
      go false e f = f (⊎_elim (λ (x : i ≡ m). absurd (false≢true (sym e ∙ ap answers (sym x) ∙ q))) (λ (x : i < m). x) (eq-or-lt_of_le (omega arith))) q

  pub newest-none-later : {m : ℕ} {r : Option ℕ} → r ≡ newest_of answers m → (i : ℕ) → count_to r ≤ i → i < m → answers i ≡ false
  newest-none-later {m} e i h l = go (answers i) refl
    where
      go : (b : Bool) → answers i ≡ b → b ≡ false
      go true q = let z = newest-from m i l q in absurd (omega (arith, ap count_to e, z))
      go false q = refl

-- the same entries answer
newest-same : (f g : ℕ → Bool) (m : ℕ) → ((i : ℕ) → i < m → f i ≡ g i) → newest_of f m ≡ newest_of g m
unfolding newest_of
newest-same f g zero h = refl
newest-same f g (suc m) h = rw (h m (omega arith), newest-same f g m (λ i k. h i (omega arith)))

-- where only members answer, the newest that answers is found among the newest member and those before it
module _ (answers member : ℕ → Bool) where
  newest-among : (m : ℕ) → ((i : ℕ) → i < m → answers i ≡ true → member i ≡ true) → newest_of answers m ≡ newest_of answers (count_to (newest_of member m))
  unfolding newest_of
  newest-among zero only = refl
  newest-among (suc m) only = go (member m) refl (newest-among m (λ i h. only i (omega arith)))
    where
      other : (b : Bool) → answers m ≡ b → member m ≡ false → answers m ≡ false
      other true e q = absurd (false≢true (sym q ∙ only m (omega arith) e))
      other false e q = e

      go : (b : Bool) → member m ≡ b → newest_of answers m ≡ newest_of answers (count_to (newest_of member m)) → newest_of answers (suc m) ≡ newest_of answers (count_to (cond b (Some m) (newest_of member m)))
      go true e h = refl
      go false e h = newest-no answers m (other (answers m) refl e) ∙ h

-- ---- a look-up along chain k of m entries, of which those that answer are members: i is the next entry

pub record Along (t : Bytes) (c : ChainPlaces) (k m : ℕ) (answers : ℕ → Bool) (i : Option ℕ) : Type 0 where
  pub low : count_to i ≤ m
  pub next : newest_of answers m ≡ newest_of answers (count_to i)
  pub member : (j : ℕ) → i ≡ Some j → chain_at t c j ≡ k
  pub only : (j : ℕ) → j < m → answers j ≡ true → in_chain t c k j ≡ true
  pub links : (j : ℕ) → j < m → earlier_than t c j ≡ newest_of (in_chain t c (chain_at t c j)) j

below-low : (t : Bytes) (c : ChainPlaces) (m k j : ℕ) → count_to (entry_below t c m k j) ≤ m
unfolding entry_below
below-low t c m k j = go (ltb j m) refl (in_chain t c k j)
  where
    go : (a : Bool) → ltb j m ≡ a → (b : Bool) → count_to (cond (a && b) (Some j) None) ≤ m
    go true e true = let l = ltb-true j m e in omega arith
    go true e false = omega arith
    go false e b = omega arith

-- a look-up goes on to entries before
pub earlier-less : (t : Bytes) (c : ChainPlaces) {n : Option ℕ} {i : ℕ} {r : Option ℕ} → n ≡ Some i → r ≡ earlier_than t c i → count_to r < count_to n
earlier-less t c {i = i} h e = rw (h, e) (let l = below-low t c i (chain_at t c i) (link_at t c i) in omega (arith, l))

module _ {t : Bytes} {c : ChainPlaces} {k m : ℕ} {answers : ℕ → Bool} where
  module _ (links : (j : ℕ) → j < m → earlier_than t c j ≡ newest_of (in_chain t c (chain_at t c j)) j) (only : (j : ℕ) → j < m → answers j ≡ true → in_chain t c k j ≡ true) where
    -- from the newest of the first l entries on
    from : (l : ℕ) → l ≤ m → newest_of answers m ≡ newest_of answers l → {r : Option ℕ} → r ≡ newest_of (in_chain t c k) l → Along t c k m answers r
    from l h n {r} e = record {
      low = let q = newest-most (in_chain t c k) e in omega (arith, q);
      next = n ∙ newest-among answers (in_chain t c k) l (λ j x. only j (omega arith)) ∙ ap (λ (w : Option ℕ). newest_of answers (count_to w)) (sym e);
      member = λ j q. eqb-true (chain_at t c j) k (newest-answers (in_chain t c k) l j (sym e ∙ q));
      only = only;
      links = links;
    }

    pub along-from : {r : Option ℕ} → r ≡ newest_of (in_chain t c k) m → Along t c k m answers r
    along-from e = from m (omega arith) refl e

  pub along-first : Chained t c m → k < 128 → ((j : ℕ) → j < m → answers j ≡ true → in_chain t c k j ≡ true) → {r : Option ℕ} → r ≡ newest_in t c m k → Along t c k m answers r
  along-first h l only e = along-from h.links only (e ∙ h.heads k l)

  -- entry i answers, or the next older one is asked
  module _ {n : Option ℕ} (a : Along t c k m answers n) {i : ℕ} (h : n ≡ Some i) where
    pub along-low : i < m
    along-low = let l = ap count_to h in omega (arith, a.low, l)

    module _ {b : Bool} (e : b ≡ answers i) where
      pub along-found : b ≡ true → Some i ≡ newest_of answers m
      along-found q = sym (a.next ∙ ap (λ (w : Option ℕ). newest_of answers (count_to w)) h ∙ newest-yes answers i (sym e ∙ q))

      pub along-next : b ≡ false → {r : Option ℕ} → r ≡ earlier_than t c i → Along t c k m answers r
      along-next q x =
          from a.links a.only i (omega (arith, along-low)) (a.next ∙ ap (λ (w : Option ℕ). newest_of answers (count_to w)) h ∙ newest-no answers i (sym e ∙ q)) (rw (a.member i h) at (x ∙ a.links i along-low))

  pub along-end : {n : Option ℕ} → n ≡ None → Along t c k m answers n → None ≡ newest_of answers m
  along-end e a = sym (a.next ∙ ap (λ (w : Option ℕ). newest_of answers (count_to w)) e ∙ newest-none answers)

-- ---- chains kept

module _ (t u : Bytes) (c : ChainPlaces) (m : ℕ) (chains : (i : ℕ) → i < m → chain_at u c i ≡ chain_at t c i) where
  below-same : (n k j : ℕ) → n ≤ m → entry_below u c n k j ≡ entry_below t c n k j
  unfolding entry_below
  below-same n k j h = go (ltb j n) refl
    where
      go : (b : Bool) → ltb j n ≡ b → cond (b && in_chain u c k j) (Some j) None ≡ cond (b && in_chain t c k j) (Some j) None
      go true e = let l = ltb-true j n e in rw (chains j (omega arith))
      go false e = refl

  members-same : (n k : ℕ) → n ≤ m → newest_of (in_chain u c k) n ≡ newest_of (in_chain t c k) n
  members-same n k h = newest-same (in_chain u c k) (in_chain t c k) n (λ i l. ap (λ (x : ℕ). eqb x k) (chains i (omega arith)))

  module _ (links : (i : ℕ) → i < m → link_at u c i ≡ link_at t c i) (heads : (k : ℕ) → k < 128 → head_at u c k ≡ head_at t c k) where
    chained_same : Chained t c m → Chained u c m
    chained_same h = record {
      heads = λ k l. rw (heads k l) (below-same m k (head_at t c k) (omega arith)) ∙ h.heads k l ∙ sym (members-same m k (omega arith));
      links = λ i l. rw (chains i l, links i l) (below-same i (chain_at t c i) (link_at t c i) (omega arith)) ∙ h.links i l ∙ sym (rw (chains i l) (members-same i (chain_at t c i) (omega arith)));
    }

-- the bytes of the first n entries, with their links and heads, are the same
pub record SameBytes (t u : Bytes) (c : ChainPlaces) (n : ℕ) : Type 0 where
  pub digest : (i : ℕ) → i < n → digest_at u c i ≡ digest_at t c i
  pub link : (i : ℕ) → i < n → get_or u (digest_place c i + c.gap) 0 ≡ get_or t (digest_place c i + c.gap) 0
  pub head : (k : ℕ) → k < 128 → get_or u (digest_place c k + c.gap + c.gap) 0 ≡ get_or t (digest_place c k + c.gap + c.gap) 0

pub chained-kept : {t u : Bytes} {c : ChainPlaces} {m n : ℕ} → SameBytes t u c n → m ≤ n → Chained t c m → Chained u c m
unfolding chain_at link_at head_at
chained-kept {t} {u} {c} {m} w h = chained_same t u c m (λ i l. ap chain_of (w.digest i (omega arith))) (λ i l. w.link i (omega arith)) w.head

-- nothing is chained where there is no entry
pub chained-none : (t : Bytes) (c : ChainPlaces) → Chained t c 0
unfolding entry_below newest_of
chained-none t c = record { heads = λ k l. rw (le-ltb (head_at t c k) 0 (omega arith)); links = λ i l. absurd (omega arith) }

-- ---- an entry linked

-- digests, links and heads of a table of at most n entries stand apart
pub record PlacesApart (c : ChainPlaces) (n : ℕ) : Type 0 where
  pub own : (i j : ℕ) → digest_place c i ≡ digest_place c j → i ≡ j
  pub link : (i j : ℕ) → i < n → j < n → digest_place c i ≡ digest_place c j + c.gap → ⊥
  pub head : (i k : ℕ) → i < n → k < 128 → digest_place c i ≡ digest_place c k + c.gap + c.gap → ⊥

-- bytes elsewhere stay
module _ (t : Bytes) (c : ChainPlaces) (m : ℕ) where
  pub linked-outside : {a b : ℕ} → a ≤ digest_place c m + c.gap → digest_place c m + c.gap < b → ((k : ℕ) → k < 128 → (a ≤ digest_place c k + c.gap + c.gap) × (digest_place c k + c.gap + c.gap < b)) → Outside a b t (linked t c m)
  unfolding linked
  linked-outside {a} {b} h i j =
      let k = chain_at t c m in
      let l = j k (chain-small t c m) in
      outside-then (outside_set a b t (digest_place c m + c.gap) (head_at t c k) h i) (outside_set a b (set t (digest_place c m + c.gap) (head_at t c k)) (digest_place c k + c.gap + c.gap) m l.0 l.1)

  pub linked-other : (q : ℕ) → (q ≡ digest_place c m + c.gap → ⊥) → ((k : ℕ) → k < 128 → q ≡ digest_place c k + c.gap + c.gap → ⊥) → get_or (linked t c m) q 0 ≡ get_or t q 0
  unfolding linked
  linked-other q x y =
      let k = chain_at t c m in
      get_or-set_other (set t (digest_place c m + c.gap) (head_at t c k)) (digest_place c k + c.gap + c.gap) q m 0 (y k (chain-small t c m)) ∙ get_or-set_other t (digest_place c m + c.gap) q (head_at t c k) 0 x

  pub linked_long : length (linked t c m) ≡ length t
  unfolding linked
  linked_long = let k = chain_at t c m in length-set (set t (digest_place c m + c.gap) (head_at t c k)) (digest_place c k + c.gap + c.gap) m ∙ length-set t (digest_place c m + c.gap) (head_at t c k)

-- so do all digests
module _ {c : ChainPlaces} {n : ℕ} (a : PlacesApart c n) (t : Bytes) {m : ℕ} (low : m < n) where
  pub digest-stays : (i : ℕ) → i < n → digest_at (linked t c m) c i ≡ digest_at t c i
  digest-stays i l = linked-other t c m (digest_place c i) (a.link i m l low) (λ k h. a.head i k l h)

module _ {t : Bytes} {c : ChainPlaces} {n : ℕ} (p : ChainRoom t c) (a : PlacesApart c n) (many : 128 ≤ n) (few : n ≤ 256) {m : ℕ} (low : m < n) where
  abbrev own_chain : ℕ
  own_chain = chain_at t c m

  small : own_chain < 128
  small = chain-small t c m

  chain-stays : (i : ℕ) → i < n → chain_at (linked t c m) c i ≡ chain_at t c i
  unfolding chain_at
  chain-stays i l = ap chain_of (digest-stays a t low i l)

  link_stays : (i : ℕ) → i < m → link_at (linked t c m) c i ≡ link_at t c i
  unfolding link_at
  link_stays i l = linked-other t c m (digest_place c i + c.gap)
      (λ e. let z : i ≡ m = a.own i m (omega (arith, e)) in absurd (omega arith))
      (λ k h e. a.link i k (omega arith) (omega arith) (omega (arith, e)))

  link-new : link_at (linked t c m) c m ≡ head_at t c own_chain
  unfolding link_at linked
  link-new =
      let q = p.within m (omega arith) in
      let s = small in
      get_or-set_other (set t (digest_place c m + c.gap) (head_at t c own_chain)) (digest_place c own_chain + c.gap + c.gap) (digest_place c m + c.gap) m 0 (λ e. a.link m own_chain low (omega arith) (omega (arith, e)))
      ∙ get_or-set_same t (digest_place c m + c.gap) (head_at t c own_chain) 0 (omega arith)

  head-stays : (j : ℕ) → j < 128 → (j ≡ own_chain → ⊥) → head_at (linked t c m) c j ≡ head_at t c j
  unfolding head_at linked
  head-stays j l z =
      get_or-set_other (set t (digest_place c m + c.gap) (head_at t c own_chain)) (digest_place c own_chain + c.gap + c.gap) (digest_place c j + c.gap + c.gap) m 0 (λ e. z (a.own j own_chain (omega (arith, e))))
      ∙ get_or-set_other t (digest_place c m + c.gap) (digest_place c j + c.gap + c.gap) (head_at t c own_chain) 0 (λ e. a.link m j low (omega arith) (omega (arith, e)))

  head-new : head_at (linked t c m) c own_chain ≡ m
  unfolding head_at linked
  head-new =
      let s = small in
      let q = p.within own_chain (omega arith) in
      let e = length-set t (digest_place c m + c.gap) (head_at t c own_chain) in
      get_or-set_same (set t (digest_place c m + c.gap) (head_at t c own_chain)) (digest_place c own_chain + c.gap + c.gap) m 0 (omega (arith, e))

  module _ (h : Chained t c m) where
    same-below : (l k j : ℕ) → l ≤ suc m → entry_below (linked t c m) c l k j ≡ entry_below t c l k j
    same-below = below-same t (linked t c m) c (suc m) (λ i l. chain-stays i (omega arith))

    same-members : (l k : ℕ) → l ≤ suc m → newest_of (in_chain (linked t c m) c k) l ≡ newest_of (in_chain t c k) l
    same-members = members-same t (linked t c m) c (suc m) (λ i l. chain-stays i (omega arith))

    -- a head of another chain, as entry m is not of that
    passed : (k j : ℕ) → (k ≡ own_chain → ⊥) → entry_below t c (suc m) k j ≡ entry_below t c m k j
    unfolding entry_below
    passed k j z = go (eqb j m) refl
      where
        other : (b : Bool) → ltb j m ≡ b → (j ≡ m → ⊥) → ltb j (suc m) ≡ ltb j m
        other true e q = let l = ltb-true j m e in lt-ltb j (suc m) (omega arith) ∙ sym e
        other false e q =
            let l = ltb-false j m e in
            le-ltb j (suc m) (⊎_elim (λ (x : m ≡ j). absurd (q (sym x))) (λ (x : m < j). omega arith) (eq-or-lt_of_le l)) ∙ sym e

        go : (b : Bool) → eqb j m ≡ b → cond (ltb j (suc m) && in_chain t c k j) (Some j) None ≡ cond (ltb j m && in_chain t c k j) (Some j) None
        go true e = let x = eqb-true j m e in rw (x, ne_eqb own_chain k (λ q. z (sym q)), lt-ltb m (suc m) (omega arith), le-ltb m m (omega arith))
        go false e = rw (other (ltb j m) refl (eqb-false j m e))

    own_below : entry_below t c (suc m) own_chain m ≡ Some m
    unfolding entry_below
    own_below = rw (eq-eqb own_chain own_chain refl, lt-ltb m (suc m) (omega arith))

    heads-linked : (j : ℕ) → j < 128 → (b : Bool) → eqb j own_chain ≡ b → entry_below (linked t c m) c (suc m) j (head_at (linked t c m) c j) ≡ newest_of (in_chain (linked t c m) c j) (suc m)
    heads-linked j l true e =
        let x = eqb-true j own_chain e in
        rw (x, head-new) (same-below (suc m) own_chain m (omega arith)) ∙ own_below ∙ sym (rw x (same-members (suc m) own_chain (omega arith)) ∙ newest-yes (in_chain t c own_chain) m (eq-eqb own_chain own_chain refl))
    heads-linked j l false e =
        let x = eqb-false j own_chain e in
        rw (head-stays j l x) (same-below (suc m) j (head_at t c j) (omega arith)) ∙ passed j (head_at t c j) x ∙ h.heads j l
        ∙ sym (same-members (suc m) j (omega arith) ∙ newest-no (in_chain t c j) m (ne_eqb own_chain j (λ q. x (sym q))))

    links-linked : (i : ℕ) → i < suc m → (b : Bool) → eqb i m ≡ b
        → entry_below (linked t c m) c i (chain_at t c i) (link_at (linked t c m) c i) ≡ newest_of (in_chain (linked t c m) c (chain_at t c i)) i
    links-linked i l true e =
        let x = eqb-true i m e in
        rw (x, link-new) (same-below m own_chain (head_at t c own_chain) (omega arith)) ∙ h.heads own_chain small ∙ sym (rw x (same-members m own_chain (omega arith)))
    links-linked i l false e =
        let y : i < m = ⊎_elim (λ (x : i ≡ m). absurd (eqb-false i m e x)) (λ (x : i < m). x) (eq-or-lt_of_le (omega arith)) in
        rw (link_stays i y) (same-below i (chain_at t c i) (link_at t c i) (omega arith)) ∙ h.links i y ∙ sym (same-members i (chain_at t c i) (omega arith))

    pub chained-next : Chained (linked t c m) c (suc m)
    chained-next = record {
      heads = λ j l. heads-linked j l (eqb j own_chain) refl;
      links = λ i l. rw (chain-stays i (omega arith)) (links-linked i l (eqb i m) refl);
    }
