use Rattle.momenta.specs.declared.state.Ends.{Ends}
use Rattle.colour_solver_base.specs.declared.row.PointRow.{PointRow}
use Rattle.colour_solver_base.specs.declared.solve.PointAfter.{PointAfter}
use Rattle.colour_solver_base.specs.Rows.{point_warmed, row_warmed}
use Rattle.colour_solver_base.proofs.Laws64.{row_after_two}
use Rattle.colour_solver_base.proofs.warm_start_64.warm_second_64.Goals as goal

abbrev turned : PointRow → Ends → PointAfter
turned p e = record { point = p; ends = point_warmed p e }

pub warm_point_64-requires-clause-point : goal.warm_point_64-requires-clause-point
warm_point_64-requires-clause-point c = c.requires.row.second c.in-Some.point c.in-Some.is

pub returns-in-None-warm_point_64-clause-room : goal.returns-in-None-warm_point_64-clause-room
returns-in-None-warm_point_64-clause-room c = λ room. c.in-None-warm_point_64.ensures.room (room c.in-Some.point c.in-Some.is)

pub returns-in-Some-warm_point_64-clause-value : goal.returns-in-Some-warm_point_64-clause-value
unfolding row_warmed
returns-in-Some-warm_point_64-clause-value c =
    row_after_two turned c.args.row.now c.args.a.now c.args.b.now c.in-Some.point c.args.after_first c.in-Some-warm_point_64.warmed c.in-Some.is c.requires.row c.requires.after_first c.in-Some-warm_point_64.ensures.value
