-- The digests of keys.
use mathlib.Core.Path.{◌≡◌, sym, ◌∙◌}
use mathlib.Core.Bool.{false}
use mathlib.Core.List.{◌∷◌, []}
use Prim.Native.Nat.{ℕ}
use Rattle.semantics.specs.Text.{Bytes, same}
use Rattle.words.specs.Words.{digest_from, digest}
use Rattle.words.proofs.Laws.{digest-append, digest-apart}
use Rattle.chains.specs.Chains.{digest_at}
use Rattle.records.specs.Log.{entry_at, recorded_at, name_of, tag_of, record_chains}
use Rattle.records.proofs.Keys.{plain-key, variant-key}

module _ (s t : Bytes) (i : ℕ) {d : ℕ} (e : d ≡ digest (name_of s (entry_at t i))) where
  pub digest-plain : (entry_at t i).case ≡ 0 → d ≡ digest (recorded_at s t i).key
  digest-plain z = rw (plain-key s t i z) e

  pub digest-variant : {a b : ℕ} → a ≡ digest_from d (46 ∷ []) → b ≡ digest_from a (tag_of s (entry_at t i)) → ((entry_at t i).case ≡ 0 → ⊥) → b ≡ digest (recorded_at s t i).key
  digest-variant f g n =
      let k = name_of s (entry_at t i) in
      let x = tag_of s (entry_at t i) in
      rw (variant-key s t i n) (g ∙ rw (f, e) (sym (digest-append (46 ∷ []) x (digest k)) ∙ sym (digest-append k (46 ∷ x) 0)))

-- keys with different digests are different
pub keys-apart : (k : Bytes) (s t : Bytes) (i : ℕ) {d : ℕ} → d ≡ digest k → digest_at t record_chains i ≡ digest (recorded_at s t i).key → (digest_at t record_chains i ≡ d → ⊥) → false ≡ same k (recorded_at s t i).key
keys-apart k s t i e g n = digest-apart k (recorded_at s t i).key (λ q. n (g ∙ sym (e ∙ q)))
