-- `implement::is_own` meets its contract.
use Rattle.std.specs.Prelude.{Some}
use mathlib.Core.Path.{◌∙◌, ap}
use Rattle.semantics.specs.Text.{Bytes}
use Rattle.semantics.specs.Fold.{same_option}
use Rattle.semantics.specs.Sheet.{sheet_source}
use Rattle.implement.proofs.Modules.{own-outside, own-within}
use Rattle.implement.proofs.is_own.Goals as goal

pub returns-in-None : goal.returns-in-None
returns-in-None c = own-outside c.args.sheet.now c.in-None.is

pub returns-in-Some : goal.returns-in-Some
returns-in-Some c =
    let a = c.args in
    own-within a.sheet.now c.in-Some.is (c.is_implemented.ensures ∙ ap (λ (x : Bytes). same_option (sheet_source a.sheet.now).implement (Some x)) c.field_at.ensures.0)
