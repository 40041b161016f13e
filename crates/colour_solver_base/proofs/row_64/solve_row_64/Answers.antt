use Rattle.std.proofs.Common.{rules, subst, sym}
use Rattle.std.proofs.lemmas.Int.{to_z-of_z}
use Rattle.std.specs.Int.{w64}
use mir.Val.{SFits}
use Rattle.momenta.specs.Line64.{both_ends, ends_with}
use Rattle.colour_solver_base.specs.Rows.{point_solved}
use Rattle.colour_solver_base.specs.Row64.{HasPointRoom64, with_point_impulses}
use Rattle.colour_solver_base.proofs.Laws64.{after_own, second_room}
use Rattle.colour_solver_base.proofs.row_64.solve_row_64.Goals as goal

pub solve_second_64-requires-clause-leaves_room : goal.solve_second_64-requires-clause-leaves_room
solve_second_64-requires-clause-leaves_room c = c.in-Some-solve_point_64.ensures.leaves_room 0 c.in-Some.ensures.leaves_room

pub returns-in-None-solve_point_64-clause-room : goal.returns-in-None-solve_point_64-clause-room
returns-in-None-solve_point_64-clause-room c =
    let friction : SFits w64 c.args.row.now.bodies.friction = search rules in
    let some = simp to_z-of_z at c.in-None-solve_point_64.ensures.room in
    λ room. some (subst (HasPointRoom64 c.args.row.now.bodies.friction c.args.row.now.first) (sym c.in-Some.ensures.same) room.first)

pub returns-in-Some-solve_point_64-clause-room : goal.returns-in-Some-solve_point_64-clause-room
returns-in-Some-solve_point_64-clause-room c =
    let friction : SFits w64 c.args.row.now.bodies.friction = search rules in
    let r = c.args.row.now in
    let a = c.args.a.now in
    let b = c.args.b.now in
    let n = c.in-Some-solve_point_64.after_first in
    let after = after_own (point_solved r.bodies.friction) r.first a b c.in-Some.now n c.in-Some.ensures.same (simp to_z-of_z at c.in-Some-solve_point_64.ensures.value) in
    λ room. c.solve_second_64.ensures.room (second_room r.bodies.friction r.second (point_solved r.bodies.friction r.first (both_ends a b)) (with_point_impulses n.impulses r.first) (ends_with a b n.now) after.value room.second)
