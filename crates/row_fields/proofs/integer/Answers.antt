-- `row_fields::integer` meets its contract.
use Rattle.std.proofs.Common.{◌∙◌, ap, w64}
use mir.ValLaws.{to_z-of_z}
use Rattle.semantics.specs.Fold.{bits64}
use Rattle.row_fields.proofs.Parts.{integer-is, integer-none}
use Rattle.row_fields.proofs.integer.Goals as goal

pub returns-in-Some : goal.returns-in-Some
returns-in-Some c =
    let p = integer-is c.args.f.now c.in-Some.ensures in
    c.bits.ensures ∙ ap bits64 (to_z-of_z w64 c.in-Some.z p.0) ∙ p.1

pub returns-in-None : goal.returns-in-None
returns-in-None c = integer-none c.args.f.now c.in-None.ensures
