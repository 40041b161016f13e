use Rattle.colour_solver_base.proofs.Kept.{same_then}
use Rattle.colour_solver_base.proofs.restitution.bounce_row.Goals as goal

pub bounce_point-requires-in-Some-clause-point : goal.bounce_point-requires-in-Some-clause-point
bounce_point-requires-in-Some-clause-point c = c.requires.row.second c.in-Some.point c.in-Some.is

pub returns-in-Some-clause-same : goal.returns-in-Some-clause-same
returns-in-Some-clause-same c = same_then c.args.ends.now c.bounce_point.new.ends c.bounce_point-in-Some.new.ends c.bounce_point.ensures.same c.bounce_point-in-Some.ensures.same
