use Rattle.sizes.proofs.Places.{BehindLines}
use Rattle.sizes.proofs.place.place_fields.Given as goal

abbrev pub invariant-loop-j : goal.invariant-loop-j
invariant-loop-j l = BehindLines l.sheet l.f l.initial.q l.q l.j
