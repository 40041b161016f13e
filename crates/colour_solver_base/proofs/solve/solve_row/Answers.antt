use Rattle.colour_solver_base.proofs.Kept.{same_then}
use Rattle.colour_solver_base.proofs.solve.solve_row.Goals as goal

pub solve_point-requires-in-Some-clause-point : goal.solve_point-requires-in-Some-clause-point
solve_point-requires-in-Some-clause-point c = c.requires.row.second c.in-Some.point c.in-Some.is

pub returns-in-Some-clause-same : goal.returns-in-Some-clause-same
returns-in-Some-clause-same c = same_then c.args.ends.now c.solve_point.new.ends c.solve_point-in-Some.new.ends c.solve_point.ensures.same c.solve_point-in-Some.ensures.same
