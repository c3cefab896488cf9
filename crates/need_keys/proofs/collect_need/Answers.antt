use Rattle.std.proofs.Common.{rules}
use native.Mathlib.Omega.{arith}
use Prim.Native.Nat.{ℕ}
use mathlib.Core.List.{List}
use mathlib.Core.Path.{◌∙◌, ap}
use Rattle.words.specs.Words.{digest}
use Rattle.type_lines.specs.Needs.{need_at, needs_to}
use Rattle.std.specs.Prelude.{Option}
use Rattle.codes.specs.declared.element.Element.{Element}
use Rattle.need_keys.specs.Pass.{kind_by_need}
use Rattle.need_keys.proofs.Pass.{needs-room, collected, collected-outside}
use Rattle.need_keys.proofs.collect_need.Goals as goal

pub enter_need-requires : goal.enter_need-requires
enter_need-requires c = let x = c.requires in ((needs-room x).0, omega (arith, x.line.within, x.line.checked.whole.few), omega (arith, (needs-room x).1, c.position_for-p.ensures))

pub enter_kind-requires : goal.enter_kind-requires
enter_kind-requires c = let x = c.requires in omega (arith, (needs-room x).1, c.position_for-p.ensures)

pub enter_digest-requires : goal.enter_digest-requires
enter_digest-requires c = let x = c.requires in ((needs-room x).0, omega (arith, c.digest-d.ensures.1))

pub with_key-requires : goal.with_key-requires
with_key-requires c = omega (arith, (needs-room c.requires).2)

pub returns : goal.returns
returns c = let x = c.requires in
    let hd = c.digest-d.ensures.0 ∙ ap (λ (l : List ℕ). digest l) c.line_at.ensures.0 in
    let hv = c.enter_kind.ensures ∙ ap (λ (k : Option Element). kind_by_need c.enter_need.new.work k c.position_for-p.result) c.kind_needed-kind.ensures in
    (collected (search rules) x c.form_at.ensures.0 c.position_for-p.ensures hd c.enter_need.ensures hv c.enter_digest.ensures c.with_key.result (c.with_key.ensures (need_at c.args.sheet.now c.args.i) (needs_to c.args.sheet.now c.args.i) c.position_for-p.ensures x.collecting.kinds.count), collected-outside (search rules) x c.form_at.ensures.0 c.position_for-p.ensures hd c.enter_need.ensures hv c.enter_digest.ensures)
