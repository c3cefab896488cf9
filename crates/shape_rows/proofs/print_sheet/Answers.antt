use Rattle.shape_rows.proofs.print_sheet.Goals as goal

pub of-requires : goal.of-requires
of-requires g c =
    let k = rw c.unwrap.ensures at c.split_first_chunk_mut.ensures.cases in
    rw k.0 c.in-Ok.ensures.1.0.0
