-- `sizes::type_size_align` and `sizes::tuple_size_align`, which call one another, meet their contracts. The types of a tuple are of earlier lines,
-- so r falls; the measure also counts the step from a type to its tuple. The invariant is what the loop has measured of the tuple.
use Rattle.std.proofs.Common.{◌+◌, ◌*◌}
use Rattle.sizes.proofs.Types.{Measuring}
use Rattle.sizes.proofs.+tuple_size_align_type_size_align.Given as goal

abbrev pub decreases-tuple_size_align : goal.decreases-tuple_size_align
decreases-tuple_size_align l = 2 * l.r

abbrev pub decreases-type_size_align : goal.decreases-type_size_align
decreases-type_size_align l = 2 * l.r + 1

abbrev pub invariant-tuple_size_align-loop-j : goal.invariant-tuple_size_align-loop-j
invariant-tuple_size_align-loop-j l = Measuring l.sheet l.r l.count l.t.size l.t.align l.j
