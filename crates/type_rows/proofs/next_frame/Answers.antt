use native.Mathlib.Omega.{arith}
use mathlib.Core.Bool.{true, false}
use mathlib.Core.Path.{◌∙◌, sym}
use borrow.Author.Tests.{eqb-true}
use Rattle.type_lines.proofs.Frames.{frames-by, frame-line}
use Rattle.type_rows.proofs.Wrotes.{types-none}
use Rattle.type_rows.proofs.next_frame.Goals as goal

pub put_line-requires : goal.put_line-requires
put_line-requires c = (frame-line c.args.sheet.now c.requires.0 c.args.i c.requires.1 (eqb-true _ 71 (sym c.is_frame.ensures ∙ c.if-is_frame.true)), omega (arith, c.requires.2))

pub returns-then-is_frame : goal.returns-then-is_frame
returns-then-is_frame c = rw (frames-by c.args.sheet.now c.requires.0 c.args.i c.requires.1 true (sym c.if-is_frame.true ∙ c.is_frame.ensures)) c.put_line.ensures

pub returns : goal.returns
returns c = rw (frames-by c.args.sheet.now c.requires.0 c.args.i c.requires.1 false (sym c.if-is_frame.false ∙ c.is_frame.ensures)) types-none
