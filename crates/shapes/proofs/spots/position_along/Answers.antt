use Rattle.std.proofs.Common.{◌≤◌, ◌*◌, ◌^◌, arith, unsigned_abs}
use Rattle.std.proofs.lemmas.Int.{to_z-of_z}
use Rattle.std.specs.Int.{w64}
use mir.Val.{SFits}
use Rattle.shapes.proofs.spots.position_along.Goals as goal

pub returns-else-unsigned_abs-le-MAX_DISTANCE_64-clause-within : goal.returns-else-unsigned_abs-le-MAX_DISTANCE_64-clause-within
returns-else-unsigned_abs-le-MAX_DISTANCE_64-clause-within c =
    let distance : SFits w64 c.args.distance = c.ranges.distance in
    let times : (2 ^ 30 * unsigned_abs c.args.distance) ≤ 2 ^ 43 * 2 ^ 30 = omega (arith, c.requires.distance) in
    let near = c.moved.ensures.within (2 ^ 39) (2 ^ 30) (2 ^ 43) c.requires.from c.requires.normal (simp to_z-of_z times) in
    record { x = omega (arith, near.x); y = omega (arith, near.y) }
