use Rattle.std.proofs.Common.{rules}
use Rattle.std.proofs.lemmas.Int.{to_z-of_z}
use Rattle.std.specs.Int.{w64}
use mir.Val.{SFits}
use Rattle.colour_solver_base.specs.Rows.{point_solved, row_solved}
use Rattle.colour_solver_base.proofs.Laws64.{row_after_two}
use Rattle.colour_solver_base.proofs.row_64.solve_second_64.Goals as goal

pub solve_point_64-requires-clause-point : goal.solve_point_64-requires-clause-point
solve_point_64-requires-clause-point c = c.requires.row.second c.in-Some.point c.in-Some.is

pub returns-in-None-solve_point_64-clause-room : goal.returns-in-None-solve_point_64-clause-room
returns-in-None-solve_point_64-clause-room c =
    let friction : SFits w64 c.args.row.now.bodies.friction = search rules in
    let some = simp to_z-of_z at c.in-None-solve_point_64.ensures.room in
    λ room. some (room c.in-Some.point c.in-Some.is)

pub returns-in-Some-solve_point_64-clause-value : goal.returns-in-Some-solve_point_64-clause-value
unfolding row_solved
returns-in-Some-solve_point_64-clause-value c =
    let friction : SFits w64 c.args.row.now.bodies.friction = search rules in
    let r = c.args.row.now in
    row_after_two (point_solved r.bodies.friction) r c.args.a.now c.args.b.now c.in-Some.point c.args.after_first c.in-Some-solve_point_64.solved c.in-Some.is c.requires.row c.requires.after_first
    (simp to_z-of_z at c.in-Some-solve_point_64.ensures.value)
