-- What `image` leaves of a sheet: the answer, every byte of the lent buffers, and demand 3 of the bytes laid.
use Rattle.std.specs.Prelude.{Result, Ok, Err, ◌≤◌, ◌≡◌, length, take}
use Rattle.semantics.specs.Text.{Bytes}
use Rattle.semantics.specs.Sheet.{sheet_source}
use Rattle.semantics.specs.Refusal.{Buffers, Outcome, Imaged, compiled, imaged, padded, listing_bytes, listing_kept, image_bytes, area_bytes}
use Rattle.semantics.specs.Refusal.Imaged.{laid, not_laid}
use Rattle.semantics.specs.Demand.{WholeImage}
use Rattle.answers.specs.Answers.{refusal_number, refusal_line}
use Rattle.answers.specs.declared.Refusal.{Refusal}
use Rattle.image.specs.declared.Laid.{Laid}

-- the bytes that each lent buffer has
abbrev pub lent_of : Bytes → Bytes → Bytes → Bytes → Buffers
lent_of listing image area work = record { listing = length listing; work = length work; image = length image; area = length area }

-- what an answer says, with what stands in the buffers of image and area: the bytes that it counts, or 01's number and line
abbrev pub pictured : Result Laid Refusal → Bytes → Bytes → Imaged
pictured (Ok x) image area = laid (take x.image image) (take x.area area)
pictured (Err r) image area = not_laid (refusal_number r) (refusal_line r)

-- the lengths lie within the buffers, and the first is the listing's
abbrev pub Lengths : Buffers → Outcome → Result Laid Refusal → Type 0
Lengths b o (Ok x) = (x.listing ≡ length (listing_bytes o)) × (x.listing ≤ b.listing) × (x.image ≤ b.image) × (x.area ≤ b.area)
Lengths b o (Err r) = Unit {0}

-- demand 3, of the bytes that the answer counts
abbrev pub Demanded : Bytes → Result Laid Refusal → Bytes → Bytes → Type 0
Demanded s (Ok x) image area = WholeImage (sheet_source s) (take x.image image) (take x.area area)
Demanded s (Err r) image area = Unit {0}

-- of the sheet s, where the buffers have b bytes: the answer r, and the bytes of listing, image and area
pub record Pictures (s : Bytes) (b : Buffers) (r : Result Laid Refusal) (listing image area : Bytes) : Type 0 where
  pub answer : pictured r image area ≡ imaged b s
  pub lengths : Lengths b (compiled b.listing b.work s) r
  pub listing_is : listing ≡ padded b.listing (listing_kept (compiled b.listing b.work s) (imaged b s))
  pub image_is : image ≡ padded b.image (image_bytes (imaged b s))
  pub area_is : area ≡ padded b.area (area_bytes (imaged b s))
  pub demand : Demanded s r image area
