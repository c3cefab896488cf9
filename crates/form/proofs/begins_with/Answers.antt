use lib.ListN.{get_or}
use native.Mathlib.Omega.{arith}
use Rattle.form.proofs.Laws.{inside, begins-start, begins-ended, begins-short, begins-differ, begins-next}
use Rattle.form.proofs.Compared.{begins-none}
use Rattle.form.proofs.Table.{keywords-short}
use Rattle.form.specs.Table.{keywords_at}
use mathlib.Core.Path.{◌≡◌, ◌∙◌, sym}
use Rattle.form.proofs.begins_with.Goals as goal

pub loop-f-init : goal.loop-f-init
loop-f-init c = (omega arith, omega arith, begins-start c.args.f c.args.l.now)

pub keyword_byte-w-requires : goal.keyword_byte-w-requires
keyword_byte-w-requires c = (c.requires.1, c.requires.0, omega (arith, keywords-short c.args.f c.requires.0))

pub ends_at-requires : goal.ends_at-requires
ends_at-requires c = c.loop-f.invariant.1

pub returns-then-w-eq32 : goal.returns-then-w-eq32
returns-then-w-eq32 c = c.ends_at.ensures ∙ sym (begins-ended c.args.f c.args.l.now c.loop-f.i c.requires.0 c.loop-f.invariant.0 c.loop-f.invariant.2 (sym c.keyword_byte-w.ensures ∙ c.if-w-eq32.true) ∙ begins-none _)

pub returns-then-i-l : goal.returns-then-i-l
returns-then-i-l c = begins-short c.args.f c.args.l.now c.loop-f.i c.requires.0 c.loop-f.invariant.0 c.loop-f.invariant.2 (λ q. c.if-w-eq32.false (c.keyword_byte-w.ensures ∙ q)) (omega arith)

pub returns-then-l-i : goal.returns-then-l-i
returns-then-l-i c = begins-differ c.args.f c.args.l.now c.loop-f.i c.requires.0 c.loop-f.invariant.0 c.loop-f.invariant.2 (λ q. c.if-w-eq32.false (c.keyword_byte-w.ensures ∙ q)) (omega arith) (λ q. c.if-l-i.true (q ∙ sym c.keyword_byte-w.ensures))

pub loop-f-smaller : goal.loop-f-smaller
loop-f-smaller c = let h = inside (keywords_at c.args.f) c.loop-f.i (λ q. c.if-w-eq32.false (c.keyword_byte-w.ensures ∙ q)) in omega (arith, keywords-short c.args.f c.requires.0)

pub loop-f-preserved : goal.loop-f-preserved
loop-f-preserved c =
    let n : (get_or (keywords_at c.args.f) c.loop-f.i 32 ≡ 32 → ⊥) = λ q. c.if-w-eq32.false (c.keyword_byte-w.ensures ∙ q) in
    (omega (arith, inside (keywords_at c.args.f) c.loop-f.i n), omega arith, begins-next c.args.f c.args.l.now c.loop-f.i c.requires.0 c.loop-f.invariant.0 c.loop-f.invariant.2 n (omega arith) (c.if-l-i.false ∙ c.keyword_byte-w.ensures))
