use Rattle.type_lines.specs.Shapes.{raised}
use Rattle.semantics.specs.Text.{or_else, int_of}
use lib.IntN.{pos}
use mathlib.Core.List.{List}
use Prim.Native.Nat.{ℕ}
use native.Mathlib.Omega.{arith}
use mathlib.Core.Path.{◌∙◌, ap}
use Rattle.type_lines.proofs.Shapes.{offset-holds, offset-is, count_low}
use Rattle.type_lines.proofs.shape.offset_at.Goals as goal

pub overflow_add-j : goal.overflow_add-j
overflow_add-j c = record { fits = omega (arith, c.requires.1, count_low c.args.sheet.now c.args.i c.requires.0) }

pub read_offset-requires : goal.read_offset-requires
read_offset-requires c = rw c.field_at.ensures.0 (offset-holds c.args.sheet.now c.args.i c.requires.0 c.args.j c.requires.1)

pub returns : goal.returns
returns c = (c.read_offset.ensures.0 ∙ ap (λ (f : List ℕ). raised (or_else (pos 0) (int_of f))) c.field_at.ensures.0 ∙ ap raised (offset-is c.args.sheet.now c.args.i c.requires.0 c.args.j c.requires.1), c.read_offset.ensures.1)
