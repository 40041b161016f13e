use Rattle.std.proofs.Common.{sym}
use Rattle.std.proofs.lemmas.Int.{to_z-of_z}
use Rattle.std.specs.Int.{w64}
use mir.Val.{SFits}
use Rattle.colour_solver_base.proofs.friction.solve_tangent.Goals as goal

pub returns-else-not-is_frictionless-clause-value : goal.returns-else-not-is_frictionless-clause-value
returns-else-not-is_frictionless-clause-value c =
    let friction : SFits w64 c.args.friction = c.ranges.friction in
    let frictionless = simp to_z-of_z at c.is_frictionless.ensures in
    sym (frictionless c.if-not-is_frictionless.false c.args.ends.now c.requires.states)
