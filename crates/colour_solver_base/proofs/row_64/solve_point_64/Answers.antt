use Rattle.std.proofs.Common.{rules, subst}
use Rattle.std.proofs.lemmas.Int.{to_z-of_z}
use Rattle.std.specs.Int.{w64}
use mir.Val.{SFits}
use Rattle.colour_solver_base.specs.Row64.{HasTangentRoomAfter64}
use Rattle.colour_solver_base.proofs.Laws64.{point_after, room_then}
use Rattle.colour_solver_base.proofs.row_64.solve_point_64.Goals as goal

pub solve_tangent_64-requires-clause-leaves_room : goal.solve_tangent_64-requires-clause-leaves_room
solve_tangent_64-requires-clause-leaves_room c = c.in-Some.ensures.impulse.leaves_room 3 c.requires.leaves_room

pub returns-in-Some-solve_tangent_64-clause-value : goal.returns-in-Some-solve_tangent_64-clause-value
returns-in-Some-solve_tangent_64-clause-value c =
    let friction : SFits w64 c.args.friction = c.ranges.friction in
    let normal_impulse : SFits w64 c.in-Some.after_normal.total = search rules in
    let tangent_impulse : SFits w64 c.in-Some-solve_tangent_64.slid.total = search rules in
    let first = c.in-Some.ensures in
    let second = c.in-Some-solve_tangent_64.ensures in
    simp to_z-of_z (point_after c.args.friction c.args.point.now c.args.a.now c.args.b.now c.args.now c.in-Some.after_normal c.in-Some-solve_tangent_64.slid c.requires.point
    first.value first.impulse first.low first.high (simp to_z-of_z at second.value) second.impulse second.small)

pub returns-in-Some-solve_tangent_64-clause-leaves_room : goal.returns-in-Some-solve_tangent_64-clause-leaves_room
returns-in-Some-solve_tangent_64-clause-leaves_room c =
    room_then c.args.a.now c.args.b.now c.args.now c.in-Some.after_normal.now c.in-Some-solve_tangent_64.slid.now c.in-Some.ensures.impulse c.in-Some-solve_tangent_64.ensures.impulse

pub returns-in-None-clause-room : goal.returns-in-None-clause-room
returns-in-None-clause-room c = λ room. c.in-None.ensures.room room.normal_impulse

pub returns-in-None-solve_tangent_64-clause-room : goal.returns-in-None-solve_tangent_64-clause-room
returns-in-None-solve_tangent_64-clause-room c =
    let friction : SFits w64 c.args.friction = c.ranges.friction in
    let some = simp to_z-of_z at c.in-None-solve_tangent_64.ensures.room in
    λ room. some (subst (HasTangentRoomAfter64 c.args.friction) c.in-Some.ensures.value room.tangent_impulse)
