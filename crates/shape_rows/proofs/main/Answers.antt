use Rattle.std.proofs.Common.{rules, arith, ap, length, ◌∙◌}
use Rattle.std.proofs.lemmas.List.{length-take-le}
use Rattle.shape_rows.proofs.main.Goals as goal

pub print_blocks-requires : goal.print_blocks-requires
print_blocks-requires c =
    let k = rw c.unwrap.ensures at c.first_chunk_mut.ensures.cases in
    record { room = omega (arith, k.enough, ap length k.same, length-take-le 62464 _ k.enough); small = omega arith }
