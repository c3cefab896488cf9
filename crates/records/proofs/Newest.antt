-- The entries of a key: they are of one chain, and the newest of them stands for the last record of the key.
use mathlib.Core.Path.{◌≡◌, refl, sym, ap, ◌∙◌}
use mathlib.Core.Bool.{Bool, true, false, not, cond, ◌||◌}
use mathlib.Core.List.{[], ◌∷◌}
use Rattle.std.specs.Prelude.{Option, None, Some}
use Rattle.std.specs.Option.{is_some}
use Prim.Native.Nat.{ℕ, zero, suc, ◌≤◌, ◌<◌}
use native.Mathlib.Omega.{arith}
use lib.ListN.{length, take, get_or}
use lib.Seq.{take-suc, take_all}
use borrow.Author.Tests.{eq-eqb}
use Rattle.semantics.specs.Text.{Bytes, same}
use Rattle.semantics.specs.Layout.{Recorded, last_of, seen}
use Rattle.laws.proofs.Lists.{any_append, last-append}
use Rattle.laws.proofs.Tests.{same_refl}
use Rattle.words.specs.Words.{digest}
use Rattle.words.proofs.Laws.{digest-same}
use Rattle.chains.specs.Chains.{newest_of, count_to, chain_of, chain_at, in_chain, digest_place, ChainRoom}
use Rattle.chains.proofs.Laws.{newest-most, newest-from, newest-none-later}
use Rattle.records.specs.Log.{recorded_at, record_chains, log_of, no_record, chosen, RecordsLogged, Newest, NewestOfEntry}
use Rattle.records.proofs.Keys.{default-same}

-- whether entry i has key k
abbrev pub key_is : Bytes → Bytes → Bytes → ℕ → Bool
key_is s t k i = same k (recorded_at s t i).key

pub record-room : (t : Bytes) → 62464 ≤ length t → ChainRoom t record_chains
unfolding digest_place
record-room t h = record { low = λ i l. omega arith; within = λ i l. omega arith }

module _ (s t : Bytes) (m : ℕ) (g : RecordsLogged s t m) (k : Bytes) where
  -- all entries of a key are of one chain
  pub key-chain : {c : ℕ} → c ≡ chain_of (digest k) → (j : ℕ) → j < m → key_is s t k j ≡ true → in_chain t record_chains c j ≡ true
  unfolding chain_at
  key-chain {c} e j h q = eq-eqb (chain_at t record_chains j) c (ap chain_of (g.digests j h ∙ sym (digest-same k (recorded_at s t j).key 0 q)) ∙ sym e)

  -- ---- the last record

  last_on : (d : Recorded) (i : ℕ) → i < m → last_of k d (take (suc i) (log_of s)) ≡ cond (key_is s t k i) (recorded_at s t i) (last_of k d (take i (log_of s)))
  last_on d i h = rw (take-suc (log_of s) i no_record (omega (arith, g.count)), g.each i h) (last-append k d (take i (log_of s)) (get_or (log_of s) i no_record ∷ []))

  last-newest : (d : Recorded) (i : ℕ) → i ≤ m → last_of k d (take i (log_of s)) ≡ chosen (log_of s) (newest_of (key_is s t k) i) d
  unfolding newest_of
  last-newest d zero h = refl
  last-newest d (suc i) h = last_on d i (omega arith) ∙ go (key_is s t k i) (last-newest d i (omega arith))
    where
      go : (b : Bool) → last_of k d (take i (log_of s)) ≡ chosen (log_of s) (newest_of (key_is s t k) i) d
          → cond b (recorded_at s t i) (last_of k d (take i (log_of s))) ≡ chosen (log_of s) (cond b (Some i) (newest_of (key_is s t k) i)) d
      go true e = g.each i (omega arith) ∙ default-same (log_of s) i no_record d (omega (arith, g.count))
      go false e = e

  last-all : (d : Recorded) {j : Option ℕ} → j ≡ newest_of (key_is s t k) m → last_of k d (log_of s) ≡ chosen (log_of s) j d
  last-all d e = ap (last_of k d) (sym (take_all m (log_of s) (omega (arith, g.count)))) ∙ last-newest d m (omega arith) ∙ ap (λ (x : Option ℕ). chosen (log_of s) x d) (sym e)

  pub newest-is : {j : Option ℕ} → j ≡ newest_of (key_is s t k) m → Newest s k j
  newest-is e = record {
    low = let z = newest-most (key_is s t k) e in omega (arith, z, g.count);
    last = λ d. last-all d e;
    later = λ i a b. let h : i < m = omega (arith, g.count) in rw (← g.each i h) (newest-none-later (key_is s t k) e i a h);
  }

  -- ---- whether it was met

  seen-newest : (i : ℕ) → i ≤ m → seen k (take i (log_of s)) ≡ is_some (newest_of (key_is s t k) i)
  unfolding newest_of
  seen-newest zero h = refl
  seen-newest (suc i) h =
      ap (seen k) (take-suc (log_of s) i no_record (omega (arith, g.count))) ∙ any_append (λ (x : Recorded). same k x.key) (take i (log_of s)) (get_or (log_of s) i no_record ∷ [])
      ∙ rw (seen-newest i (omega arith), ← g.each i (omega arith)) (go (key_is s t k i) (is_some (newest_of (key_is s t k) i)) refl)
    where
      go : (b c : Bool) → is_some (newest_of (key_is s t k) i) ≡ c → c || (b || false) ≡ is_some (cond b (Some i) (newest_of (key_is s t k) i))
      go true true e = refl
      go true false e = refl
      go false true e = sym e
      go false false e = sym e

  pub first-not : {i j : ℕ} → i ≤ m → Some j ≡ newest_of (key_is s t k) i → false ≡ not (seen k (take i (log_of s)))
  first-not {i} {j} h e = rw (seen-newest i h, ← e)

  pub first-is : {i : ℕ} → i ≤ m → None ≡ newest_of (key_is s t k) i → true ≡ not (seen k (take i (log_of s)))
  first-is {i} h e = rw (seen-newest i h, ← e)

-- ---- the key of an entry

module _ (s t : Bytes) (m : ℕ) (g : RecordsLogged s t m) (i : ℕ) (h : i < m) where
  abbrev own_key : Bytes
  own_key = (recorded_at s t i).key

  pub own-chain : chain_at t record_chains i ≡ chain_of (digest own_key)
  unfolding chain_at
  own-chain = ap chain_of (g.digests i h)

  -- the last entry of its key is known
  pub newest-own : {j : ℕ} → Some j ≡ newest_of (key_is s t own_key) m → NewestOfEntry s t m i j
  newest-own {j} e =
      let l : j < m = let z = newest-most (key_is s t own_key) e in omega (arith, z) in
      record {
        low = l;
        last = λ d. last-all s t m g own_key d e ∙ default-same (log_of s) j d no_record (omega (arith, g.count)) ∙ sym (g.each j l);
        later = λ x a b. newest-none-later (key_is s t own_key) e x (omega arith) b;
      }

  -- for it is of that key itself
  pub newest-there : None ≡ newest_of (key_is s t own_key) m → ⊥
  newest-there e =
      let x = newest-from (key_is s t own_key) m i h (same_refl own_key) in
      let y = ap count_to e in
      omega (arith, x, y)
