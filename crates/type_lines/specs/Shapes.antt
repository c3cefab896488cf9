-- The shapes that lines write out, and the frames.
use Rattle.std.specs.Prelude.{ℕ, ◌+◌, ◌-◌, ◌<◌, ◌≡◌, true, ◌||◌, List, eqb, ℤ, pos, negsuc}
use Rattle.semantics.specs.Text.{Bytes}
use Rattle.semantics.specs.Tree.{Shape, Declares}
use Rattle.lines.specs.Lines.{lines_in, read_at, nodes_in, form_at}
use Rattle.checks.specs.Checks.{Checked}
use Rattle.source.specs.Walk.{declared_to, frame_of}

-- the size and the offsets that line i writes out
unfoldable pub written_shape : Bytes → ℕ → Shape
written_shape s i = frame_of (nodes_in s) (read_at s i).fields

-- line i is a `frame` line, 33, or a `need,block` line, 40
pub record ShapeLine (s : Bytes) (i : ℕ) : Type 0 where
  pub checked : Checked s
  pub within : i < lines_in s
  pub form : eqb (form_at s i) 33 || eqb (form_at s i) 40 ≡ true

-- an offset from −4,096 on as a number from 0 on
abbrev pub raised : ℤ → ℕ
raised (pos n) = 4096 + n
raised (negsuc n) = 4095 - n

-- the frames of the first i lines
abbrev pub frames_to : Bytes → ℕ → List Shape
frames_to s i = declared_to (λ (d : Declares). d.frames) (nodes_in s) i
