-- What C is told of a sheet, as numbers, and what the lent buffers hold afterwards.
use Rattle.std.specs.Prelude.{ℕ, ◌≤◌, ◌≡◌, cond, length, take, eqb}
use Rattle.semantics.specs.Text.{Bytes}
use Rattle.semantics.specs.Sheet.{sheet_source}
use Rattle.semantics.specs.Refusal.{Outcome, listed, refused, Buffers, Imaged, laid, not_laid, compiled, imaged, zeros, padded, listing_bytes, listing_kept, image_bytes, area_bytes}
use Rattle.semantics.specs.Demand.{WholeImage}
use Rattle.export.specs.declared.Compiled.{Compiled}
use Rattle.export.specs.declared.Laid.{Laid}

-- ---- compiling

-- an outcome as numbers
abbrev pub compiled_numbers : Outcome → Compiled
compiled_numbers (listed out) = record { number = 0; line = 0; listing = length out }
compiled_numbers (refused n k) = record { number = n; line = k; listing = 0 }

-- the outcome that numbers and the listing's bytes d say: no refusal has the number 0
abbrev pub outcome_of : Compiled → Bytes → Outcome
outcome_of r d = cond (eqb r.number 0) (listed (take r.listing d)) (refused r.number r.line)

-- of the sheet s, with L and W bytes lent: the answer r, the listing's bytes d and those of the working space u
pub record CompilesForC (s : Bytes) (L W : ℕ) (r : Compiled) (d u : Bytes) : Type 0 where
  pub answer : r ≡ compiled_numbers (compiled L W s)
  pub outcome : outcome_of r d ≡ compiled L W s
  pub within : r.listing ≤ L
  pub listing_is : d ≡ padded L (listing_bytes (compiled L W s))
  pub work_is : u ≡ zeros W

-- ---- the image

-- the numbers that an outcome is told by: lengths where an image is laid, else 01's number and line
abbrev pub laid_numbers : Outcome → Imaged → Laid
laid_numbers o (laid image area) = record { number = 0; line = 0; listing = length (listing_bytes o); image = length image; area = length area }
laid_numbers o (not_laid n k) = record { number = n; line = k; listing = 0; image = 0; area = 0 }

-- the outcome that numbers and the bytes of image and area say
abbrev pub imaged_of : Laid → Bytes → Bytes → Imaged
imaged_of r image area = cond (eqb r.number 0) (laid (take r.image image) (take r.area area)) (not_laid r.number r.line)

-- of the sheet s, with b bytes lent: the answer r, every lent byte, and demand 3
pub record ImagesForC (s : Bytes) (b : Buffers) (r : Laid) (listing image area work : Bytes) : Type 0 where
  pub answer : r ≡ laid_numbers (compiled b.listing b.work s) (imaged b s)
  pub outcome : imaged_of r image area ≡ imaged b s
  pub within : (r.listing ≤ b.listing) × (r.image ≤ b.image) × (r.area ≤ b.area)
  pub listing_is : listing ≡ padded b.listing (listing_kept (compiled b.listing b.work s) (imaged b s))
  pub image_is : image ≡ padded b.image (image_bytes (imaged b s))
  pub area_is : area ≡ padded b.area (area_bytes (imaged b s))
  pub work_is : work ≡ zeros b.work
  pub demand : r.number ≡ 0 → WholeImage (sheet_source s) (take r.image image) (take r.area area)
