use Rattle.shapes.proofs.Pointers.{variant-marks}
use Rattle.shapes.proofs.Cases.{pick-record}
use Rattle.maps.proofs.Maps.{made_then, room-kept}
use native.Mathlib.Omega.{arith}
use Rattle.shapes.proofs.map_variant.Goals as goal

pub mark_common-behind-requires : goal.mark_common-behind-requires
mark_common-behind-requires c = (pick-record c.args.sheet.now c.args.r c.requires.0.line, room-kept c.clear_map.ensures.kept c.requires.1, omega arith)

pub returns : goal.returns
returns c = made_then c.requires.1 c.clear_map.ensures (variant-marks c.args.sheet.now c.args.r c.args.size c.mark_common-behind.ensures.0 c.case_line-k.ensures c.mark_case.ensures)
