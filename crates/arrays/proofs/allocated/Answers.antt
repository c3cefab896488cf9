-- `arrays::allocated` meets its contract.
use Rattle.std.proofs.Common.{rules, refl, ◌∙◌}
use Rattle.semantics.specs.Array as Array
use Rattle.codes.specs.Kinds.{element_kind}
use Rattle.arrays.proofs.Lengths.{of-int}
use Rattle.arrays.proofs.allocated.Goals as goal

pub returns : goal.returns
returns c = λ t.
    let a = c.allocated_int.ensures t in
    record {
      result = a.result ∙ of-int t c.args.x c.as_int.result (c.as_int.ensures t) (Array.allocated (element_kind c.args.kind)) (λ y. refl) (λ y. refl) c.in_ok-as_int.was (search rules);
      stands = a.stands;
    }
