use native.Mathlib.Omega.{arith}
use Prim.Native.Nat.{ℕ, ◌+◌}
use lib.ListN.{length, length-append}
use mathlib.Core.List.{◌∷◌, []}
use mathlib.Core.Path.{◌∙◌, sym, ap}
use Rattle.records.specs.Log.{log_of}
use Rattle.semantics.specs.Types.{key_shape}
use Rattle.type_lines.specs.Needs.{need_at}
use Rattle.type_keys.specs.Table.{need_line_of}
use Rattle.type_rows.specs.Rows.{keys_to}
use Rattle.type_rows.proofs.Wrotes.{keys-stay, keys-next, keys-then}
use Rattle.type_row.proofs.Maps.{types-as}
use Rattle.type_rows.proofs.next_need.Goals as goal

pub returns-then-base-need_position : goal.returns-then-base-need_position
returns-then-base-need_position c = let e = keys-stay c.args.sheet.now c.args.work.now c.args.entries c.requires.0 c.args.q c.requires.1 c.args.base c.args.id c.requires.3 (λ z. c.if-base-need_position.true (ap (λ (y : ℕ). c.args.base + y) c.need_position.ensures.0 ∙ z)) in (λ a v t w. rw e w, c.requires.3 ∙ ap (λ (y : ℕ). c.args.base + y) (sym (ap length e)))

pub returns : goal.returns
returns c = let e = keys-next c.args.sheet.now c.args.work.now c.args.entries c.requires.0 c.args.q c.requires.1 c.args.base c.args.id c.requires.3 (sym (ap (λ (y : ℕ). c.args.base + y) c.need_position.ensures.0) ∙ c.if-base-need_position.false) in
    let y = need_at c.args.sheet.now (need_line_of c.args.work.now c.args.q) in
    (λ a v t w. rw e (keys-then c.args.sheet.now (keys_to c.args.sheet.now c.args.q) y w (types-as (ap (λ (j : ℕ). key_shape (log_of c.args.sheet.now) (need_at c.args.sheet.now j)) c.need_line-i.ensures) c.put_need.ensures)), omega (arith, c.requires.3, ap length e, length-append (keys_to c.args.sheet.now c.args.q) (y ∷ [])))
