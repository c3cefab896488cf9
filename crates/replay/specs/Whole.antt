-- What a replay leaves in the lent buffers.
use Rattle.std.specs.Prelude.{ℕ, ◌≡◌, length, Option, None, Some}
use Rattle.std.specs.Option.{option_map}
use Rattle.semantics.specs.Text.{Bytes}
use Rattle.semantics.specs.Refusal.{zeros}
use Rattle.stored.specs.Reading.{read_all, size_in}
use Rattle.stored.specs.Laying.{Laying, lay_all, laying_start}
use Rattle.replay.specs.Rows.{Sizes}

-- the items of a listing over zeros
unfoldable pub laid_listing : Bytes → ℕ → ℕ → ℕ → Option Laying
laid_listing listing end image area = lay_all (read_all (size_in listing) listing) (laying_start end image area)

-- the lengths of image and area; none is refusal 13, with no line
abbrev pub answer_of : Option Laying → Option (ℕ × ℕ)
answer_of = option_map (λ m. (m.long, m.end))

abbrev pub laid_image : ℕ → Option Laying → Bytes
laid_image n None = zeros n
laid_image n (Some m) = m.image

abbrev pub laid_area : ℕ → Option Laying → Bytes
laid_area n None = zeros n
laid_area n (Some m) = m.area

-- of a listing whose allocation ends at `end`: the answer r, image and area before and after, the working space t before and u after
pub record Replays (listing : Bytes) (end : ℕ) (t u image image' area area' : Bytes) (r : Option (ℕ × ℕ)) : Type 0 where
  pub answer : r ≡ answer_of (laid_listing listing end (length image) (length area))
  pub image_is : image' ≡ laid_image (length image) (laid_listing listing end (length image) (length area))
  pub area_is : area' ≡ laid_area (length area) (laid_listing listing end (length image) (length area))
  pub table : Sizes listing t u
