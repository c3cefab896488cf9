-- `fold::fold_const` meets its contract: line by line, the left operand first.
use native.Mathlib.Omega.{arith}
use mathlib.Core.Path.{sym, ◌∙◌}
use Rattle.std.proofs.lemmas.Result.{err_from_is_err_and}
use Rattle.fold.proofs.Steps.{fails-behind, operand-foldable, operand-before, left-stops, applies, applied, right-foldable, right-before, right-stops, binary-folds}
use Rattle.fold.proofs.+fold_const.Goals as goal

pub returns-then-f-gt-LEN : goal.returns-then-f-gt-LEN
returns-then-f-gt-LEN t c = fails-behind c.requires (omega arith)

pub fold_const-requires : goal.fold_const-requires
fold_const-requires t c = (omega (arith, operand-before c.requires (omega arith) (omega arith) c.operand.ensures), operand-foldable c.requires (omega arith) (omega arith) c.operand.ensures)

pub returns-in_err-v : goal.returns-in_err-v
returns-in_err-v t c =
    let p = err_from_is_err_and c.from_residual.result c.from_residual.ensures.1 in
    rw (p.1, p.2) (left-stops c.requires (omega arith) (omega arith) c.operand.ensures c.fold_const.ensures c.in_err-v.was)

pub apply-requires : goal.apply-requires
apply-requires t c =
    applies c.requires (omega arith) (omega arith) c.operand.ensures c.fold_const.ensures c.in_ok-v.was (λ e. c.if-f-ne-BIN.true (c.form_at-f.ensures.0 ∙ e))

pub returns-then-f-ne-BIN : goal.returns-then-f-ne-BIN
returns-then-f-ne-BIN t c =
    applied c.requires (omega arith) (omega arith) c.operand.ensures c.fold_const.ensures c.in_ok-v.was (λ e. c.if-f-ne-BIN.true (c.form_at-f.ensures.0 ∙ e)) c.apply.ensures

pub fold_const-requires-2 : goal.fold_const-requires-2
fold_const-requires-2 t c = let e = sym c.form_at-f.ensures.0 ∙ c.if-f-ne-BIN.false in (
  omega (arith, right-before c.requires (omega arith) (omega arith) c.operand.ensures c.fold_const.ensures c.in_ok-v.was e c.number_at-right.ensures.0 c.size.ensures),
  right-foldable c.requires (omega arith) (omega arith) c.operand.ensures c.fold_const.ensures c.in_ok-v.was e c.number_at-right.ensures.0 c.size.ensures,
)

pub returns-in_err-w : goal.returns-in_err-w
returns-in_err-w t c =
    let p = err_from_is_err_and c.from_residual-in_err-w.result c.from_residual-in_err-w.ensures.1 in
    rw (p.1, p.2)
    (right-stops c.requires (omega arith) (omega arith) c.operand.ensures c.fold_const.ensures c.in_ok-v.was (sym c.form_at-f.ensures.0 ∙ c.if-f-ne-BIN.false)
    c.number_at-right.ensures.0 c.size.ensures c.fold_const-2.ensures c.in_err-w.was)

pub returns : goal.returns
returns t c =
    binary-folds c.requires (omega arith) (omega arith) c.operand.ensures c.fold_const.ensures c.in_ok-v.was (sym c.form_at-f.ensures.0 ∙ c.if-f-ne-BIN.false)
    c.number_at-right.ensures.0 c.size.ensures c.fold_const-2.ensures c.in_ok-w.was c.of_number-op.result c.number_at.ensures.0 c.of_number-op.ensures c.fold_binary.ensures
