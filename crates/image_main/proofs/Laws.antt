-- What is printed, as it stands in a buffer.
use Rattle.std.specs.Prelude.{Ok, Err}
use Prim.Native.Nat.{ℕ, ◌+◌, ◌-◌, ◌*◌, ◌≤◌}
use native.Mathlib.Nat.{sub-zero}
use native.Mathlib.Omega.{arith}
use mathlib.Core.Path.{◌≡◌, refl, ap, ◌∙◌, subst}
use mathlib.Core.List.{[], ◌∷◌, ◌++◌, append_assoc}
use lib.ListN.{length, take, length-take, length-append}
use Rattle.semantics.specs.Text.{Bytes, bytes, hex_of}
use Rattle.semantics.specs.Listing.{row}
use Rattle.semantics.specs.Refusal.{Buffers, refused, imaged, printed, printed_image}
use Rattle.write.specs.declared.Writer.{Writer}
use Rattle.write.specs.Wrote.{Wrote}
use Rattle.write.specs.Writes.{Writes}
use Rattle.answers.specs.declared.Refusal.{Refusal}
use Rattle.answers.specs.Answers.{refusal_number, refusal_line}
use Rattle.answers.proofs.Rows.{at-start}
use Rattle.image.specs.declared.Laid.{Laid}
use Rattle.image.specs.Image.{Pictures}

-- ---- a row

hex-length : (bs : Bytes) → length (hex_of bs) ≡ 2 * length bs
unfolding hex_of
hex-length [] = refl
hex-length (b ∷ bs) = omega (arith, hex-length bs)

row-length : (name bs : Bytes) → length (row (name ∷ hex_of bs ∷ [])) ≡ length name + 2 + 2 * length bs
unfolding row
row-length name bs = omega (arith, length-append name (44 ∷ (hex_of bs ++ (10 ∷ []))), length-append (hex_of bs) (10 ∷ []), hex-length bs)

-- ---- the answers

abbrev ImagePrinted : Buffers → Bytes → ℕ → Bytes → Type 0
ImagePrinted b s r e = (r ≤ length e) × (take r e ≡ printed_image (imaged b s))

module _ (s : Bytes) (b : Buffers) (listing image area : Bytes) (d : Bytes) (room : 64 + 2 * (b.image + b.area) ≤ length d) where
  pub refusal-printed : (x : Refusal) → Pictures s b (Err x) listing image area → {e : Bytes} {r : ℕ}
      → Wrote d 0 (printed (refused (refusal_number x) (refusal_line x))) e r × (length (printed (refused (refusal_number x) (refusal_line x))) ≤ 64) → ImagePrinted b s r e
  refusal-printed x h w =
      let p = at-start w.0 (omega (arith, w.1)) in
      (p.0.0, p.1 ∙ ap printed_image h.answer)

  pub image-printed : (y : Laid) → Pictures s b (Ok y) listing image area → {e : Bytes} {r : ℕ}
      → Wrote d 0 (row (bytes "image" ∷ hex_of (take y.image image) ∷ []) ++ row (bytes "area" ∷ hex_of (take y.area area) ∷ [])) e r → ImagePrinted b s r e
  image-printed y h w =
      let x = row (bytes "image" ∷ hex_of (take y.image image) ∷ []) in
      let z = row (bytes "area" ∷ hex_of (take y.area area) ∷ []) in
      let p = at-start w (omega (arith, room, length-append x z, row-length (bytes "image") (take y.image image), row-length (bytes "area") (take y.area area), length-take y.image image, length-take y.area area, h.lengths.2, h.lengths.3)) in
      (p.0.0, p.1 ∙ ap printed_image h.answer)
