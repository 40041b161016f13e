use Rattle.std.proofs.Common.{sym, ap, rules}
use Rattle.std.proofs.lemmas.Int.{to_z-of_z}
use Rattle.std.specs.Int.{w64}
use mir.Val.{SFits}
use Rattle.momenta.specs.declared.state.Ends.{Ends}
use Rattle.colour_solver_base.specs.declared.row.PointRow.{PointRow}
use Rattle.colour_solver_base.specs.declared.solve.PointAfter.{PointAfter}
use Rattle.colour_solver_base.specs.Rows.{point_warmed}
use Rattle.colour_solver_base.proofs.Laws64.{point_with}
use Rattle.colour_solver_base.proofs.warm_start_64.warm_point_64.Goals as goal

abbrev turned : PointRow → Ends → PointAfter
turned p e = record { point = p; ends = e }

pub returns-in-Some-clause-value : goal.returns-in-Some-clause-value
unfolding point_warmed
returns-in-Some-clause-value c =
    let normal_impulse : SFits w64 c.args.point.now.normal_impulse = search rules in
    let tangent_impulse : SFits w64 c.args.point.now.tangent_impulse = search rules in
    let row = c.requires.point in
    let warm = rw (c.normal_line.ensures, c.tangent_line.ensures) at (simp to_z-of_z at c.in-Some.ensures.value) in
    let impulse = c.in-Some.ensures.impulse in
    simp to_z-of_z (record {
      value = ap (turned c.args.point.now) (sym warm);
      point = point_with c.args.point.now c.args.point.now.normal_impulse c.args.point.now.tangent_impulse row row.normal_low row.normal_high row.tangent_impulse;
      states = impulse.states;
      same = impulse.same;
      kept = impulse.kept;
    })
