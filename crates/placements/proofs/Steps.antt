-- What each step of filling answers.
use mathlib.Core.Path.{◌≡◌, refl, sym, ◌∙◌}
use mathlib.Core.Bool.{false, true≢false}
use mathlib.Core.Logic.{inl, inr}
use Prim.Native.Nat.{ℕ, ◌+◌, ◌^◌, ◌≤◌, ◌<◌, max}
use native.Mathlib.Omega.{arith}
use native.Mathlib.Numerals.{add-one}
use lib.IntN.{ℤ, pos, negsuc, nat_abs}
use lib.Signed.{lt_z}
use lib.ListN.{length}
use mir.Syntax.{w64}
use mir.Val.{SFits}
use mir.Facts.{to_z-of_z}
use borrow.Author.Tests.{ltb-false, lt-ltb, le-ltb, le-leb}
use Rattle.semantics.specs.Text.{Bytes}
use Rattle.semantics.specs.Tree as Tree
use Rattle.semantics.specs.Fold.{Result}
use Rattle.semantics.specs.Fold.Result.{ok}
use Rattle.semantics.specs.Array.{Filled, none_filled, place_span, place_indices, place_next}
use Rattle.semantics.proofs.Common.{never}
use Rattle.ints.proofs.Widths.{held}
use Rattle.values.specs.declared.ConstVal.TheVariants.{Int}
use Rattle.values.specs.Values.{value_in}
use Rattle.values.specs.Values.{InRange}
use Rattle.slots.specs.Slots.{slot_bytes}
use Rattle.slots.proofs.Bits.{SlotStored, stored}
use Rattle.write.specs.Wrote.{over}
use Rattle.placements.specs.declared.Extent.{Extent}
use Rattle.std.specs.Prelude.{Some}
use Rattle.placements.specs.Placements.{placement_at, slot_at, element_in, Keeps, SpanSet, Filling, Places}
use Rattle.placements.proofs.Fillings.{filling-span}

-- ---- the empty literal

module _ (t u w : Bytes) (room : 62464 ≤ length t) (p : SpanSet t 0 1023 0 u) (e : (w ≡ over u 12288 (slot_bytes (Int (pos 0)))) × InRange (Int (pos 0))) where
  q : SlotStored u 12288 (Int (pos 0)) w
  q = stored u 12288 (Int (pos 0)) (omega (arith, p.long)) tt e

  blank : (i : ℕ) → i < 1024 → placement_at w i ≡ 0
  unfolding placement_at
  blank i h = q.others (11264 + i) (inl (omega arith)) ∙ p.at i h ∙ rw (le-leb 0 i (omega arith), le-leb i 1023 (omega arith))

  zero-slot : slot_at w 0 ≡ Int (pos 0)
  unfolding slot_at
  zero-slot = q.value

  empty : Filling w 49152 0 0 0 none_filled
  unfolding element_in value_in
  empty = record {
    next-is = refl;
    reach-is = refl;
    low = omega arith;
    ends = λ n. sym (le-ltb n 0 (omega arith));
    known = λ i h. omega (arith, blank i h);
    values = λ i h v. rw (blank i h);
    fills = rw zero-slot;
    strings = λ j h. let z : j ≡ 0 = omega arith in rw (z, zero-slot) tt;
  }

  pub started : (Filling w 49152 0 0 0 none_filled) × ((b : ℕ) → Keeps 16384 b t w)
  started = (
    empty,
    λ b. record {
      long = q.long ∙ p.long;
      below = λ j h. q.others j (inl (omega arith)) ∙ p.others j (inl h);
      above = λ j h k. q.others j (inr (omega arith)) ∙ p.others j (inr (omega arith));
    },
  )

-- ---- a span

module _ (t : Bytes) (e : ℕ) (a : Extent) (act : Tree.ConstVal → Filled → Result Filled) where
  module _ (u : Bytes) (l h : ℕ) (p : SpanSet t l h e u) (low : h < 2 ^ 63) where
    places-span : (r : Extent) → r.next ≡ h + 1 → r.reach ≡ max a.reach (h + 1) → ((v : Tree.ConstVal) (f : Filled) → f.next_index ≡ a.next → act v f ≡ ok (place_span v l h f)) → Places t e a act (Some r) u
    places-span r q d g = record {
      keeps = λ b. record { long = p.long; below = λ j x. p.others j (inl x); above = λ j x y. p.others j (inr x) };
      step = λ top k f one le few fl. rw (q, d, add-one) (record { literal = place_span (element_in t e) l h f; result = g (element_in t e) f (sym fl.next-is); filling = filling-span fl u l h e one le few low p });
    }

module _ (t : Bytes) (e : ℕ) (a : Extent) where
  pub next-placed : (u : Bytes) (r : Extent) → a.next < 2 ^ 63 → SpanSet t a.next a.next e u → r.next ≡ a.next + 1 → r.reach ≡ max a.reach (a.next + 1) → Places t e a place_next (Some r) u
  next-placed u r h p q d = places-span t e a place_next u a.next a.next p h r q d (λ v f z. rw (z, lt-ltb a.next 9223372036854775808 h, le-leb a.next a.next (omega arith)))

-- ---- indices of a selector

unsigned-above : (x y : ℤ) → lt_z y x ≡ false → lt_z x (pos 0) ≡ false → y ≡ pos (nat_abs y)
unsigned-above x (pos h) e d = refl
unsigned-above (pos l) (negsuc h) e d = absurd (true≢false e)
unsigned-above (negsuc l) (negsuc h) e d = absurd (true≢false d)

whole-span : (x y : ℤ) → lt_z y x ≡ false → lt_z x (pos 0) ≡ false → (v : Tree.ConstVal) (f : Filled) → place_indices v x y f ≡ ok (place_span v (nat_abs x) (nat_abs y) f)
whole-span (pos l) (pos h) e d v f = rw (le-leb l h (ltb-false h l e))
whole-span (pos l) (negsuc h) e d v f = absurd (true≢false e)
whole-span (negsuc l) y e d v f = absurd (true≢false d)

below-half : {z : ℤ} → SFits w64 z → z ≡ pos (nat_abs z) → nat_abs (held w64 z) < 2 ^ 63
below-half {z} f e = rw (to_z-of_z f) (go z f e)
  where
    go : (z : ℤ) → SFits w64 z → z ≡ pos (nat_abs z) → nat_abs z < 2 ^ 63
    go (pos n) f e = f.sfits
    go (negsuc n) f e = never cc

module _ (t : Bytes) (e : ℕ) (a : Extent) {low high : ℤ} (fl : SFits w64 low) (fh : SFits w64 high) where
  abbrev Act : Tree.ConstVal → Filled → Result Filled
  Act v = place_indices v low high

  module _ (h : lt_z (held w64 high) (held w64 low) ≡ false) (d : lt_z (held w64 low) (pos 0) ≡ false) where
    high-fits : nat_abs (held w64 high) < 2 ^ 63
    high-fits = below-half fh (unsigned-above low high (rw (to_z-of_z fl, to_z-of_z fh) at h) (rw (to_z-of_z fl) at d))

    pub indices-placed : (u : Bytes) (r : Extent) → SpanSet t (nat_abs (held w64 low)) (nat_abs (held w64 high)) e u → r.next ≡ nat_abs (held w64 high) + 1 → r.reach ≡ max a.reach (nat_abs (held w64 high) + 1) → Places t e a Act (Some r) u
    indices-placed u r p q b =
        places-span t e a Act u (nat_abs (held w64 low)) (nat_abs (held w64 high)) p high-fits r q b
        (λ v f z. rw (to_z-of_z fl, to_z-of_z fh) (whole-span low high (rw (to_z-of_z fl, to_z-of_z fh) at h) (rw (to_z-of_z fl) at d) v f))
