-- The log stays as it is where the bytes below its end are kept.
use mathlib.Core.Path.{◌≡◌, ap, ◌∙◌}
use mathlib.Core.List.{List}
use Prim.Native.Nat.{ℕ, ◌+◌, ◌*◌, ◌<◌}
use native.Mathlib.Omega.{arith}
use Rattle.checks.specs.Checks.{Kept}
use Rattle.checks.proofs.Kept.{kept_at}
use Rattle.chains.specs.Chains.{digest_place}
use Rattle.chains.proofs.Laws.{SameBytes, chained-kept}
use Rattle.records.specs.Log.{byte_of, entry_at, record_of, recorded_at, record_chains, RecordsLogged}

module _ {t u : List ℕ} (k : Kept 10240 t u) where
  byte-kept : (i : ℕ) → i < 128 → (j : ℕ) → j < 8 → byte_of u i j ≡ byte_of t i j
  byte-kept i h j l = kept_at k (9216 + (8 * i + j)) (omega arith)

  entry_kept : (i : ℕ) → i < 128 → entry_at u i ≡ entry_at t i
  unfolding entry_at
  entry_kept i h = rw (byte-kept i h 0 (omega arith), byte-kept i h 1 (omega arith), byte-kept i h 2 (omega arith), byte-kept i h 3 (omega arith), byte-kept i h 4 (omega arith))

  pub recorded-kept : (s : List ℕ) (i : ℕ) → i < 128 → recorded_at s u i ≡ recorded_at s t i
  unfolding recorded_at
  recorded-kept s i h = ap (record_of s) (entry_kept i h)

  chain-kept : SameBytes t u record_chains 128
  unfolding digest_place
  chain-kept = record {
    digest = λ i h. kept_at k (9221 + 8 * i) (omega arith);
    link = λ i h. kept_at k (9221 + 8 * i + 1) (omega arith);
    head = λ i h. kept_at k (9221 + 8 * i + 1 + 1) (omega arith);
  }

  pub logged-kept : {s : List ℕ} {m : ℕ} → RecordsLogged s t m → RecordsLogged s u m
  logged-kept {s} g =
      let c = g.checked in
      record {
        checked = c;
        count = g.count;
        few = g.few;
        each = λ i h. recorded-kept s i (omega (arith, g.few)) ∙ g.each i h;
        digests = λ i h. rw (chain-kept.digest i (omega (arith, g.few)), recorded-kept s i (omega (arith, g.few))) (g.digests i h);
        chained = chained-kept chain-kept g.few g.chained;
        entries = λ i h. record { checked = c; low = (g.entries i h).low; sound = rw (entry_kept i (g.entries i h).low) (g.entries i h).sound };
      }
