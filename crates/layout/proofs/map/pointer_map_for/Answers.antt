use Prim.Native.Nat.{◌≤◌, ◌<◌}
use native.Mathlib.Omega.{arith}
use Rattle.semantics.specs.Layout.{map_length}
use Rattle.layout.proofs.Pass.{start, step, done, pass-length}
use Rattle.layout.proofs.map.pointer_map_for.Goals as goal

pub loop-n-init : goal.loop-n-init
loop-n-init c = (omega arith, start _ _ _)

pub loop-n-preserved : goal.loop-n-preserved
loop-n-preserved c =
    let size = c.args.size in
    let offs = c.args.offsets.now in
    let inside : c.loop-n.n < map_length size = omega arith in
    let more = step size offs _ _ _ _ _ _ inside c.map_byte-b.ensures c.ones_of-count.ensures.0 c.loop-n.invariant.1 in
    (omega arith, rw c.put.ensures more)

pub shape_of-map : goal.shape_of-map
shape_of-map c = pass-length _ _ _ _ _ _ c.loop-n.invariant.1

pub returns : goal.returns
returns c =
    let size = c.args.size in
    let offs = c.args.offsets.now in
    let last : map_length size ≤ c.loop-n.n = omega arith in
    let all = done size offs _ _ _ _ last c.loop-n.invariant.1 in
    record { bytes = all.0; count = all.1 }
