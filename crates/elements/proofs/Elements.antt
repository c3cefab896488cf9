-- Elements that are written as reals, and strings among numbers.
use Rattle.std.proofs.Common.{◌≡◌, ℕ, ◌∷◌, ap, ◌⊎◌, inl, inr}
use lib.Ieee.{Float, binary64, to_bits}
use Rattle.semantics.specs.Text.{Bytes, decimal, decimalℤ, hex_of, big_endian}
use Rattle.semantics.specs.Tree.{ConstVal}
use Rattle.semantics.specs.Tree.ConstVal.{v_str}
use Rattle.semantics.specs.Array.{const_real}
use Rattle.codes.specs.declared.element.Element.{Element}
use Rattle.codes.specs.declared.element.Element.TheVariants.{Byte, Word, Big, Real, Pointer}
use Rattle.codes.specs.Kinds.{element_kind}
use Rattle.write.specs.declared.Writer.{Writer}
use Rattle.write.specs.Writes.{Writes}
use Rattle.write.proofs.Writes.{writes_as}
use Rattle.elements.specs.Elements.{element_text}

module _ {k : Element} {u w : Writer} where
  pub as_real : (v : ConstVal) → (k ≡ Real) ⊎ (k ≡ Pointer) → {n : ℕ} {x : Float} → n ≡ to_bits binary64 x → x ≡ const_real v
      → Writes u (44 ∷ hex_of (big_endian 8 n)) w → Writes u (44 ∷ element_text (element_kind k) v) w
  unfolding to_bits
  as_real v (inl e) q r a = rw (e, ← r) (writes_as (ap (λ (m : ℕ). 44 ∷ hex_of (big_endian 8 m)) q) a)
  as_real v (inr e) q r a = rw (e, ← r) (writes_as (ap (λ (m : ℕ). 44 ∷ hex_of (big_endian 8 m)) q) a)

  pub as_zero : (k ≡ Byte) ⊎ (k ≡ Word) ⊎ (k ≡ Big) → Writes u (44 ∷ decimal 0) w → (s : Bytes) → Writes u (44 ∷ element_text (element_kind k) (v_str s)) w
  unfolding decimalℤ
  as_zero (inl e) a s = rw e a
  as_zero (inr (inl e)) a s = rw e a
  as_zero (inr (inr e)) a s = rw e a
