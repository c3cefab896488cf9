-- `field_list::furthest_end` meets its contract. The invariant: the furthest end of all fields is that of the fields that are left, with `e` for `end`.
use Rattle.std.proofs.Common.{◌≡◌, drop}
use Rattle.field_list.specs.Fields.{furthest_in}
use Rattle.field_list.proofs.furthest_end.Given as goal

abbrev pub invariant-loop-f : goal.invariant-loop-f
invariant-loop-f l = furthest_in l.end l.fields ≡ furthest_in l.e (drop l.f-index l.fields)
