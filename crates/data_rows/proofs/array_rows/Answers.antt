use Rattle.std.proofs.Common.{arith}
use Rattle.codes.specs.Kinds.{element_kind}
use Rattle.semantics.specs.Sheet.{sheet_source}
use Rattle.data_rows.proofs.Kept.{array-still}
use Rattle.data_rows.proofs.Keys.{kinds-few, kind-used}
use Rattle.data_rows.proofs.Firsts.{array-rows}
use Rattle.data_rows.proofs.array_rows.Goals as goal

pub collect_kind-keys-requires : goal.collect_kind-keys-requires
collect_kind-keys-requires c = omega (arith, kinds-few c.requires.0.kinds)

pub kind_id-id-requires : goal.kind_id-id-requires
kind_id-id-requires c = (c.requires.0.few, kind-used c.requires.0.known (element_kind c.kind_of-kind.result) (c.collect_kind-keys.ensures.0 c.requires.0.known c.requires.0.kinds))

pub put_array-requires : goal.put_array-requires
put_array-requires c = (array-still c.collect_kind-keys.ensures.1 c.args.x c.requires.1).1

pub returns : goal.returns
returns c =
    let k = c.collect_kind-keys in
    (λ s h. array-rows c.args.off c.args.x c.requires.1 k.ensures.1 (c.kind_of-kind.ensures c.args.work.now) k.ensures.0 (λ is ks ms g. c.kind_id-id.ensures.0 (sheet_source s) is ks ms k.result g h) c.put_array.ensures, k.ensures.1)
