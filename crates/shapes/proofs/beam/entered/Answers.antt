use Rattle.std.proofs.Common.{◌^◌, arith}
use Rattle.std.proofs.lemmas.Int.{to_z-of_z}
use Rattle.std.specs.Int.{w128}
use mir.Val.{SFits}
use Rattle.shapes.proofs.RootBounds.{IsSmallRoot, small_root}
use Rattle.shapes.proofs.beam.entered.Goals as goal

root_of : (c : goal.After-isqrt) → IsSmallRoot (2 ^ 54) c.isqrt.result
root_of c =
    let room : SFits w128 c.args.room = c.ranges.room in
    let root : SFits w128 c.isqrt.result = record { sfits = c.isqrt.type_inv } in
    let is = simp to_z-of_z at c.isqrt.ensures.root in
    small_root c.args.room c.isqrt.result (2 ^ 107) (2 ^ 54) c.requires.room (omega arith) is

pub difference-requires-clause-second : goal.difference-requires-clause-second
difference-requires-clause-second c =
    let root : SFits w128 c.isqrt.result = record { sfits = c.isqrt.type_inv } in
    let r = root_of c in
    simp to_z-of_z (omega (arith, r.small))

pub times_whole-requires : goal.times_whole-requires
times_whole-requires c =
    let ahead : SFits w128 c.args.ahead = c.ranges.ahead in
    let room : SFits w128 c.args.room = c.ranges.room in
    let root : SFits w128 c.isqrt.result = record { sfits = c.isqrt.type_inv } in
    let gap : SFits w128 c.difference.result = record { sfits = c.difference.type_inv } in
    let is = simp to_z-of_z at c.isqrt.ensures.root in
    let r = small_root c.args.room c.isqrt.result (2 ^ 107) (2 ^ 54) c.requires.room (omega arith) is in
    let size = simp to_z-of_z at c.difference.ensures.size in
    simp to_z-of_z (omega (arith, size, r.small, c.requires.ahead))
