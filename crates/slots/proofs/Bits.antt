-- Bytes of a slot, as they are read and stored.
use mathlib.Core.Path.{◌≡◌, sym, ap, ◌∙◌}
use mathlib.Core.List.{[], ◌∷◌, ◌++◌, append_assoc}
use mathlib.Core.Logic.{◌⊎◌, inl, inr}
use Prim.Native.Nat.{ℕ, ◌+◌, ◌*◌, ◌/◌, ◌%◌, ◌^◌, ◌≤◌, ◌<◌}
use native.Mathlib.Omega.{arith}
use lib.ListN.{length, take, drop, get_or, length-append}
use lib.Seq.{take_at, drop_at, get_or_at, length-take-le}
use Rattle.semantics.specs.Text.{Bytes, big_endian, from_big_endian}
use Rattle.semantics.specs.Fold.{wrap}
use Rattle.write.specs.Wrote.{over}
use Rattle.write.proofs.Wrote.{length_over}
use Rattle.write.proofs.Over.{get_d_over, over-is}
use Rattle.write.proofs.Hex.{big-length}
use Rattle.write.proofs.Back.{bits_back}
use Rattle.values.specs.declared.ConstVal.{ConstVal}
use Rattle.values.specs.declared.ConstVal.TheVariants.{Int, Real, Str}
use Rattle.words.specs.Words.{bits_at}
use Rattle.values.specs.Values.{kind_for, bits_for, Small, InRange}
use Rattle.values.proofs.Values.{word, real-back}
use Rattle.std.specs.Prelude.{unwrap_or}
use Rattle.codes.specs.Kinds.{value_by}
use Rattle.codes.specs.declared.value.Value.TheVariants as V
use Rattle.slots.specs.Slots.{slot_by, slot_of, slot_bytes}

-- ---- storing

-- t has become u, with v in the slot at a and nothing else changed
pub record SlotStored (t : Bytes) (a : ℕ) (v : ConstVal) (u : Bytes) : Type 0 where
  pub value : slot_of u a ≡ v
  pub long : length u ≡ length t
  pub others : (j : ℕ) → (j < a) ⊎ (a + 9 ≤ j) → get_or u j 0 ≡ get_or t j 0

module _ (t : Bytes) (a k b : ℕ) (room : a + 9 ≤ length t) (fits : b < 2 ^ 64) where
  behind_slot : Bytes
  behind_slot = drop (a + length (k ∷ big_endian 8 b)) t

  split : over t a (k ∷ big_endian 8 b) ≡ take a t ++ (k ∷ (big_endian 8 b ++ behind_slot))
  unfolding behind_slot
  split = over-is t a (k ∷ big_endian 8 b) (omega (arith, big-length 8 b))

  kind-stored : get_or (over t a (k ∷ big_endian 8 b)) a 0 ≡ k
  kind-stored = ap (λ (u : Bytes). get_or u a 0) split ∙ get_or_at (take a t) k _ 0 a (length-take-le a t (omega arith))

  bits-stored : bits_at (over t a (k ∷ big_endian 8 b)) (a + 1) ≡ b
  unfolding bits_at
  bits-stored =
      let d : drop (a + 1) (over t a (k ∷ big_endian 8 b)) ≡ big_endian 8 b ++ behind_slot =
      ap (drop (a + 1)) (split ∙ sym (append_assoc (take a t) (k ∷ []) (big_endian 8 b ++ behind_slot)))
      ∙ drop_at (take a t ++ (k ∷ [])) (big_endian 8 b ++ behind_slot) (a + 1) (length-append (take a t) (k ∷ []) ∙ omega (arith, length-take-le a t (omega arith))) in
      ap (λ (u : Bytes). from_big_endian 0 (take 8 u)) d ∙ ap (from_big_endian 0) (take_at (big_endian 8 b) behind_slot 8 (big-length 8 b)) ∙ bits_back b fits

  stored_bytes : {v : ConstVal} {u : Bytes} → u ≡ over t a (k ∷ big_endian 8 b) → slot_by (unwrap_or (value_by k) V.Int) b ≡ v → SlotStored t a v u
  unfolding slot_of
  stored_bytes {v} {u} e h = rw e (record {
    value = rw (kind-stored, bits-stored) h;
    long = length_over t a (k ∷ big_endian 8 b);
    others = λ j l. get_d_over t a (k ∷ big_endian 8 b) j (λ i g. outside i l (omega (arith, big-length 8 b)));
  })
    where
      outside : {j : ℕ} (i : ℕ) → (j < a) ⊎ (a + 9 ≤ j) → i < 9 → j ≡ a + i → ⊥
      outside i (inl h) g e = omega arith
      outside i (inr h) g e = omega arith

slot-back : (v : ConstVal) → Small v → InRange v → slot_by (unwrap_or (value_by (kind_for v)) V.Int) (bits_for v) ≡ v
unfolding slot_by wrap
slot-back (Int z) s h = ap Int h
slot-back (Real x) s h = ap Real (real-back x h)
slot-back (Str p l) s h =
    let x : (p + 65536 * l) % 65536 ≡ p = omega (arith, s.0) in
    let y : (p + 65536 * l) / 65536 ≡ l = omega (arith, s.0) in
    rw (x, y)

pub stored : (t : Bytes) (a : ℕ) (v : ConstVal) {u : Bytes} → a + 9 ≤ length t → Small v → (u ≡ over t a (slot_bytes v)) × InRange v → SlotStored t a v u
stored t a v room s (e, h) = stored_bytes t a (kind_for v) (bits_for v) room (word v s h) e (slot-back v s h)
