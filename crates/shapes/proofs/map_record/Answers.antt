use Rattle.shapes.proofs.Pointers.{adt-marks}
use Rattle.shapes.proofs.Cases.{else-pick}
use Rattle.maps.proofs.Maps.{room-kept, made_then}
use mathlib.Core.Path.{◌∙◌, sym}
use Rattle.shapes.proofs.map_record.Goals as goal

pub returns-then-form_at-eq-ADT : goal.returns-then-form_at-eq-ADT
returns-then-form_at-eq-ADT c = made_then c.requires.1 c.clear_map.ensures (adt-marks c.args.sheet.now c.args.r c.args.size c.requires.0 (sym c.form_at.ensures.0 ∙ c.if-form_at-eq-ADT.true) c.mark_common.ensures.0)

pub mark_pick-requires : goal.mark_pick-requires
mark_pick-requires c = (else-pick c.args.sheet.now c.args.r c.requires.0 (λ e. c.if-form_at-eq-ADT.false (c.form_at.ensures.0 ∙ e)), room-kept c.clear_map.ensures.kept c.requires.1)

pub returns : goal.returns
returns c = made_then c.requires.1 c.clear_map.ensures c.mark_pick.ensures
