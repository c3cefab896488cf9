-- The digests of keys, entered and linked one by one.
use mathlib.Core.Path.{◌≡◌, sym, ap, ◌∙◌, subst}
use mathlib.Core.Logic.{⊎_elim}
use Prim.Native.Nat.{ℕ, suc, ◌+◌, ◌*◌, ◌≤◌, ◌<◌}
use native.Mathlib.Nat.{eq-or-lt_of_le}
use native.Mathlib.Numerals.{add-one}
use native.Mathlib.Omega.{arith}
use lib.ListN.{length, get_or, set, length-set}
use lib.Seq.{get_or-set_same, get_or-set_other}
use Rattle.semantics.specs.Text.{Bytes}
use Rattle.words.specs.Words.{digest}
use Rattle.checks.specs.Checks.{Outside}
use Rattle.checks.proofs.Kept.{outside-then, outside_set}
use Rattle.chains.specs.Chains.{digest_place, digest_at, Chained, linked}
use Rattle.chains.proofs.Laws.{SameBytes, chained-kept, linked-outside, linked-other, PlacesApart, digest-stays, chained-next}
use Rattle.records.specs.Log.{byte_of, entry_at, record_of, recorded_at, record_chains, Digested}
use Rattle.records.proofs.Newest.{record-room}
use Rattle.record_log.specs.Entries.{CollectedTo}

module _ (t : Bytes) (i d : ℕ) (hi : i < 128) (room : 62464 ≤ length t) where
  -- with the digest, and then linked
  abbrev with_digest : Bytes
  with_digest = set t (9221 + 8 * i) d

  abbrev with_link : Bytes
  with_link = linked with_digest record_chains i

  entered-other : (q : ℕ) → (q ≡ 9221 + 8 * i → ⊥) → get_or with_digest q 0 ≡ get_or t q 0
  entered-other q n = get_or-set_other t (9221 + 8 * i) q d 0 n

  -- digests, links and heads are bytes 5 to 7 of entries
  byte-old : (j k : ℕ) → k < 5 → byte_of with_link j k ≡ byte_of t j k
  unfolding digest_place
  byte-old j k h = linked-other with_digest record_chains i (9216 + (8 * j + k)) (λ e. omega (arith, e)) (λ l x e. omega (arith, e)) ∙ entered-other (9216 + (8 * j + k)) (λ e. omega (arith, e))

  entry_old : (j : ℕ) → entry_at with_link j ≡ entry_at t j
  unfolding entry_at
  entry_old j =
      rw (
        byte-old j 0 (omega arith),
        byte-old j 1 (omega arith),
        byte-old j 2 (omega arith),
        byte-old j 3 (omega arith),
        byte-old j 4 (omega arith),
      )

  recorded-old : (s : Bytes) (j : ℕ) → recorded_at s with_link j ≡ recorded_at s t j
  unfolding recorded_at
  recorded-old s j = ap (record_of s) (entry_old j)

  outside-new : Outside 9216 10240 t with_link
  unfolding digest_place
  outside-new =
      outside-then (outside_set 9216 10240 t (9221 + 8 * i) d (omega arith) (omega arith)) (linked-outside with_digest record_chains i (omega arith) (omega arith) (λ k h. (omega arith, omega arith)))

  -- ---- chains

  apart : PlacesApart record_chains 128
  unfolding digest_place
  apart = record { own = λ a b e. omega (arith, e); link = λ a b x y e. omega (arith, e); head = λ a k x y e. omega (arith, e) }

  entered-kept : SameBytes t with_digest record_chains i
  unfolding digest_place
  entered-kept = record {
    digest = λ j h. entered-other (9221 + 8 * j) (λ e. omega (arith, e, h));
    link = λ j h. entered-other (9221 + 8 * j + 1) (λ e. omega (arith, e));
    head = λ k h. entered-other (9221 + 8 * k + 1 + 1) (λ e. omega (arith, e));
  }

  digest-new : digest_at with_link record_chains i ≡ d
  unfolding digest_place
  digest-new = digest-stays apart with_digest hi i hi ∙ get_or-set_same t (9221 + 8 * i) d 0 (omega arith)

  digest-old : (j : ℕ) → j < i → digest_at with_link record_chains j ≡ digest_at t record_chains j
  digest-old j h = digest-stays apart with_digest hi j (omega arith) ∙ entered-kept.digest j h

  chained-new : Chained t record_chains i → Chained with_link record_chains (suc i)
  chained-new g =
      let long = length-set t (9221 + 8 * i) d in
      chained-next (record-room with_digest (omega (arith, long))) apart (omega arith) (omega arith) hi
      (chained-kept entered-kept (omega arith) g)

  module _ (s : Bytes) (m : ℕ) (g : Digested s t m i) (hm : i < m) (e : d ≡ digest (recorded_at s t i).key) where
    digests-new : (j : ℕ) → j < i + 1 → digest_at with_link record_chains j ≡ digest (recorded_at s with_link j).key
    digests-new j h = let w : j ≤ i = omega arith in rw (recorded-old s j) (⊎_elim (λ (q : j ≡ i). subst (λ (k : ℕ). digest_at with_link record_chains k ≡ digest (recorded_at s t k).key) (sym q) (digest-new ∙ e)) (λ (q : j < i). digest-old j q ∙ g.digests j q) (eq-or-lt_of_le w))

    digested-new : Digested s with_link m (i + 1)
    digested-new =
        let c = g.checked in
        record {
          checked = c;
          count = g.count;
          few = g.few;
          each = λ j h. recorded-old s j ∙ g.each j h;
          digests = digests-new;
          chained = rw (add-one i) (chained-new g.chained);
          entries = λ j h. record { checked = c; low = (g.entries j h).low; sound = rw (entry_old j) (g.entries j h).sound };
        }

pub digests-next : {s t u v : Bytes} {m i d : ℕ} → 62464 ≤ length u → CollectedTo s t u m i → i < m → d ≡ digest (recorded_at s u i).key → v ≡ linked (set u (9221 + 8 * i) d) record_chains i → CollectedTo s t v m (i + 1)
digests-next {s} {u = u} {m = m} {i} {d} room g h e q =
    let low : i < 128 = omega (arith, g.log.few) in
    rw q (record {
      log = digested-new u i d low room s m g.log h e;
      outside = outside-then g.outside (outside-new u i d low room);
    })
