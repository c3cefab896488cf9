use Rattle.shapes.proofs.Sizes.{behind-common}
use mathlib.Core.Path.{refl}
use Rattle.shapes.proofs.behind_common.Goals as goal

pub returns : goal.returns
returns c = behind-common c.args.sheet.now c.args.r _ c.place_common.result refl refl c.place_common.ensures.0 c.place_common.ensures.1
