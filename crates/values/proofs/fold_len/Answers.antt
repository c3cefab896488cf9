-- `values::fold_len` meets its contract.
use Rattle.std.proofs.Common.{◌≡◌, ℕ, ◌+◌, ◌-◌, pos, ap, ◌∙◌, take, drop, length-take, arith, w64, SFits}
use Rattle.semantics.specs.Text.{characters}
use Rattle.values.specs.Values.{string_in}
use Rattle.values.proofs.Values.{string-within, len-counts}
use Rattle.values.proofs.fold_len.Goals as goal

pub returns-in-Str : goal.returns-in-Str
unfolding string_in
returns-in-Str c =
    let w = string-within c.args.work.now c.in-Str.is c.requires in
    let p = c.in-Str.p in
    let l = c.in-Str.l in
    let e : p + l - p ≡ l = omega arith in
    let f : SFits w64 (pos c.count.result) = record { sfits = omega (arith, c.count.ensures.1, length-take (p + l - p) (drop p c.args.work.now)) } in
    len-counts c.args.work.now c.in-Str.is f (c.count.ensures.0 ∙ ap (λ (k : ℕ). characters (take k (drop p c.args.work.now))) e)
