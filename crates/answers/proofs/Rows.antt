-- The row of a refusal, and a text at the start of a buffer.
use mathlib.Core.Path.{◌≡◌, sym, ap, ◌∙◌}
use mathlib.Core.List.{[], ◌∷◌, ◌++◌}
use Prim.Native.Nat.{ℕ, ◌+◌, ◌^◌, ◌≤◌, ◌<◌}
use native.Mathlib.Omega.{arith}
use lib.ListN.{length, take, drop, length-append}
use lib.Seq.{sets-eq, take_at, length-take-le}
use Rattle.semantics.specs.Text.{Bytes, bytes, decimal}
use Rattle.semantics.specs.Listing.{row}
use Rattle.semantics.specs.Refusal.{refused, printed}
use Rattle.write.specs.declared.Writer.{Writer}
use Rattle.write.specs.Wrote.{Wrote, over}
use Rattle.write.specs.Writes.{Writes}
use Rattle.write.proofs.Wrote.{wrote-length}
use Rattle.write.proofs.Decimal.{decimal-short}

-- ---- the row of a refusal

wide : (n : ℕ) → n < 18446744073709551616 → n < 10 ^ 20
wide n h = omega arith

pub refusal-row : (x y : ℕ) {q k : ℕ} → q < 18446744073709551616 → k < 18446744073709551616 → q ≡ x → k ≡ y
    → {u v : Writer} → Writes u (bytes "no" ++ ((44 ∷ decimal q) ++ ((44 ∷ decimal k) ++ (10 ∷ [])))) v
    → Writes u (printed (refused x y)) v × (length (printed (refused x y)) ≤ 64)
unfolding row
refusal-row x y {q} {k} lq lk eq ek w = rw (← eq, ← ek) (
  w,
  omega (arith, length-append (decimal q) (44 ∷ (decimal k ++ (10 ∷ []))), length-append (decimal k) (10 ∷ []), decimal-short 19 q (wide q lq), decimal-short 19 k (wide k lk)),
)

-- ---- for callers: a text that fits stands at the start

pub at-start : {d t e : Bytes} {r : ℕ} → Wrote d 0 t e r → length t ≤ length d → ((r ≤ length e) × (r ≡ length (take r e))) × (take r e ≡ t)
unfolding over
at-start {d} {t} {e} {r} w h =
    let l : r ≤ length e = omega (arith, w.place, wrote-length w) in
    let n : length t ≡ r = omega (arith, w.place) in
    ((l, sym (length-take-le r e l)), ap (take r) (w.bytes ∙ sets-eq t d 0 (omega arith)) ∙ take_at t (drop (0 + length t) d) r n)
