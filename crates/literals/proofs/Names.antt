-- The table of constants stays what it is where its bytes are kept.
use mathlib.Core.Path.{◌≡◌, refl, sym, ◌∙◌}
use Prim.Native.Nat.{ℕ, ◌≤◌, ◌<◌}
use native.Mathlib.Omega.{arith}
use lib.ListN.{take, length-take}
use lib.Seq.{get_or-take, ext_get_or}
use Rattle.semantics.specs.Text.{Bytes}
use Rattle.checks.specs.Checks.{Kept}
use Rattle.names.specs.Table.{log_in, ConstsLogged}
use Rattle.names.proofs.Laws.{logged-same, log-stays}
use Rattle.placements.specs.Placements.{Keeps}
use Rattle.placements.proofs.Same.{part_same}

module _ {t u : Bytes} (k : Keeps 16384 49152 t u) where
  -- what stands below 11264
  pub kept_low : (a : ℕ) → a ≤ 11264 → Kept a t u
  kept_low a h = record { below = ext_get_or 0 (take a u) (take a t) (simp (length-take, k.long) refl) (λ i x. let y : i < a = omega (arith, length-take a u) in get_or-take a u i 0 y ∙ k.below i (omega arith) ∙ sym (get_or-take a t i 0 y)); long = k.long }

  module _ {s : Bytes} {m : ℕ} (l : ConstsLogged s t m) where
    table_kept : Kept 7168 t u
    table_kept = kept_low 7168 (omega arith)

    -- strings of constants stand above the literal's
    pub log-kept : log_in s u m ≡ log_in s t m
    log-kept = log-stays table_kept l (λ a b h e. part_same t u k.long b a (λ j y z. k.above j (omega arith) (omega arith)))

    pub logged-kept : ConstsLogged s u m
    logged-kept = logged-same table_kept l
