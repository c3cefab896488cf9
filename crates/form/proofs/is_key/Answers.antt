-- `form::is_key` meets its contract.
use native.Mathlib.Omega.{arith}
use mathlib.Core.Path.{◌∙◌, sym}
use Rattle.form.proofs.Fields.{key_one, key-first, key-last, key-three}
use Rattle.form.proofs.is_key.Goals as goal

pub returns-then-p-s : goal.returns-then-p-s
returns-then-p-s c = c.is_name.ensures ∙ key_one c.args.s.now c.find-p.result c.find-p.ensures.0 c.if-p-s.true

pub returns-then-q-s : goal.returns-then-q-s
returns-then-q-s c = key-three c.args.s.now c.find-p.result c.find-p.ensures.0 c.find-q.result c.if-p-s.false (omega (arith, c.find-p.ensures)) c.find-q.ensures.0 c.if-q-s.true

pub returns-then-not-is_name : goal.returns-then-not-is_name
returns-then-not-is_name c = key-first c.args.s.now c.find-p.result c.find-p.ensures.0 c.find-q.result c.if-p-s.false (omega (arith, c.find-p.ensures)) c.find-q.ensures.0 c.if-q-s.false (sym c.is_name-2.ensures ∙ c.if-not-is_name.true)

pub returns : goal.returns
returns c = c.is_name-3.ensures ∙ key-last c.args.s.now c.find-p.result c.find-p.ensures.0 c.find-q.result c.if-p-s.false (omega (arith, c.find-p.ensures)) c.find-q.ensures.0 c.if-q-s.false (sym c.is_name-2.ensures ∙ c.if-not-is_name.false)
