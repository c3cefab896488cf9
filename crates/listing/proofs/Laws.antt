-- What is printed, as it stands in a buffer.
use mathlib.Core.Path.{◌≡◌, ap, ◌∙◌, subst}
use Rattle.std.specs.Prelude.{Ok, Err}
use Prim.Native.Nat.{ℕ, ◌≤◌}
use native.Mathlib.Omega.{arith}
use lib.ListN.{length, take}
use Rattle.semantics.specs.Text.{Bytes}
use Rattle.semantics.specs.Refusal.{refused, compiled, printed}
use Rattle.write.specs.Wrote.{Wrote}
use Rattle.answers.specs.declared.Refusal.{Refusal}
use Rattle.answers.specs.Answers.{refusal_number, refusal_line}
use Rattle.answers.proofs.Rows.{at-start}
use Rattle.compile.specs.Compile.{Compiles}

pub listing-printed : (s : Bytes) {L W : ℕ} {d u : Bytes} {n : ℕ} → Compiles s L W (Ok n) d u → length d ≡ L → (n ≤ length d) × (take n d ≡ printed (compiled L W s))
listing-printed s h l = (omega (arith, h.within, l), ap printed h.answer)

pub refusal-printed : (s : Bytes) {L W : ℕ} {d u : Bytes} (x : Refusal) → Compiles s L W (Err x) d u → length d ≡ L → 64 ≤ L → {e : Bytes} {r : ℕ}
    → Wrote d 0 (printed (refused (refusal_number x) (refusal_line x))) e r × (length (printed (refused (refusal_number x) (refusal_line x))) ≤ 64)
    → (r ≤ length e) × (take r e ≡ printed (compiled L W s))
refusal-printed s x h l m w =
    let p = at-start w.0 (omega (arith, w.1)) in
    (p.0.0, p.1 ∙ ap printed h.answer)
