-- Laws of a whole replay.
use Prim.Native.Nat.{ℕ}
use mathlib.Core.Path.{◌≡◌, sym, ap, ◌∙◌}
use mathlib.Core.Bool.{Bool, true, false, cond}
use Rattle.std.specs.Prelude.{Option, None, Some}
use lib.ListN.{length, replicate, length-replicate}
use lib.Dec.{ltb}
use Rattle.semantics.specs.Text.{Bytes}
use Rattle.stored.specs.Reading.{read_all}
use Rattle.stored.specs.Laying.{Laying, lay_all, laying_start}
use Rattle.laying.specs.declared.State.{State}
use Rattle.laying.specs.Steps.{laying_of, seen_laying}
use Rattle.replay.specs.Rows.{element_size_at, begun, laid_text, Sizes}
use Rattle.replay.specs.Whole.{laid_listing, answer_of, laid_image, laid_area, Replays}

-- the buffers are zeros first, then hold what the rows leave
module _ (listing : Bytes) (end : ℕ) (t u im im₁ im₂ ar ar₁ ar₂ : Bytes) (s : State) (zi : im₁ ≡ replicate (length im) 0) (za : ar₁ ≡ replicate (length ar) 0) (sizes : Sizes listing t u)
    (laid : seen_laying s im₂ ar₂ ≡ laid_text (element_size_at u) listing (begun end im₁ ar₁)) where
  begun-is : begun end im₁ ar₁ ≡ laying_start end (length im) (length ar)
  unfolding begun laying_start
  begun-is = rw (zi, za) (ap (λ (n : ℕ). cond {A = Option Laying} (ltb n end) None (Some (record { item = 0; image = replicate (length im) 0; area = replicate (length ar) 0; start = 0; end = 0; inside = false; long = end }))) (length-replicate {A = ℕ} (length im) 0))

  laid-is : seen_laying s im₂ ar₂ ≡ laid_listing listing end (length im) (length ar)
  unfolding laid_text laid_listing
  laid-is = laid ∙ (λ j. lay_all (read_all (λ (i : ℕ). sizes.sizes i j) listing) (begun-is j))

  pub replays-none : {im₃ ar₃ : Bytes} → s.full ≡ true → length im₂ ≡ length im → length ar₂ ≡ length ar → im₃ ≡ replicate (length im₂) 0 → ar₃ ≡ replicate (length ar₂) 0
      → Replays listing end t u im im₃ ar ar₃ None
  unfolding seen_laying
  replays-none {im₃} {ar₃} full li la ei ea =
      let q : None ≡ laid_listing listing end (length im) (length ar) = sym (ap (λ (b : Bool). cond b None (Some (laying_of s im₂ ar₂))) full) ∙ laid-is in
      record {
        answer = ap answer_of q;
        image_is = ei ∙ ap (λ (n : ℕ). replicate n 0) li ∙ ap (laid_image (length im)) q;
        area_is = ea ∙ ap (λ (n : ℕ). replicate n 0) la ∙ ap (laid_area (length ar)) q;
        table = sizes;
      }

  pub replays-some : s.full ≡ false → Replays listing end t u im im₂ ar ar₂ (Some (s.long, s.end))
  unfolding seen_laying laying_of
  replays-some fitted =
      let q : Some (laying_of s im₂ ar₂) ≡ laid_listing listing end (length im) (length ar) = sym (ap (λ (b : Bool). cond b None (Some (laying_of s im₂ ar₂))) fitted) ∙ laid-is in
      record { answer = ap answer_of q; image_is = ap (laid_image (length im)) q; area_is = ap (laid_area (length ar)) q; table = sizes }
