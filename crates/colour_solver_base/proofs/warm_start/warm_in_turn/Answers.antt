use Rattle.std.proofs.Common.{◌∙◌, ap, rules}
use Rattle.std.proofs.lemmas.Int.{to_z-of_z}
use Rattle.std.specs.Int.{w64}
use mir.Val.{SFits}
use Rattle.momenta.specs.Impulses.{warmed}
use Rattle.colour_solver_base.specs.Rows.{tangent_line, point_warmed}
use Rattle.colour_solver_base.proofs.Kept.{kept_then, same_then}
use Rattle.colour_solver_base.proofs.warm_start.warm_in_turn.Goals as goal

pub returns-clause-value : goal.returns-clause-value
unfolding point_warmed
returns-clause-value c =
    let normal_impulse : SFits w64 c.args.point.now.normal_impulse = search rules in
    let tangent_impulse : SFits w64 c.args.point.now.tangent_impulse = search rules in
    let first = simp to_z-of_z at (rw c.normal_line.ensures at c.warm_line.ensures.value) in
    let second = simp to_z-of_z at (rw c.tangent_line.ensures at c.warm_line-2.ensures.value) in
    second ∙ ap (warmed (tangent_line c.args.point.now) c.args.point.now.tangent_impulse) first

pub returns-clause-same : goal.returns-clause-same
returns-clause-same c = same_then c.args.ends c.warm_line.new.ends c.warm_line-2.new.ends c.warm_line.ensures.same c.warm_line-2.ensures.same

pub returns-clause-kept : goal.returns-clause-kept
returns-clause-kept c = kept_then c.args.ends c.warm_line.new.ends c.warm_line-2.new.ends c.warm_line.ensures.same c.warm_line.ensures.kept c.warm_line-2.ensures.kept
