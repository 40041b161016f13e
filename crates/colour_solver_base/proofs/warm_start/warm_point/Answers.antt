use Rattle.std.proofs.Common.{◌≡◌, refl, rules}
use Rattle.std.proofs.lemmas.Int.{to_z-of_z}
use Rattle.std.specs.Int.{w64}
use mir.Val.{SFits}
use Rattle.colour_solver_base.specs.Rows.{point_warmed}
use Rattle.colour_solver_base.proofs.warm_start.warm_point.Goals as goal

left : (c : goal.After-warm_in_turn) → c.warm_at_once-at_once.new.ends ≡ c.args.ends.now
left c = c.if-not-at_once.ensures.left refl

pub returns-then-not-at_once-clause-value : goal.returns-then-not-at_once-clause-value
returns-then-not-at_once-clause-value c = rw (left c) at c.warm_in_turn.ensures.value

pub returns-then-not-at_once-clause-same : goal.returns-then-not-at_once-clause-same
returns-then-not-at_once-clause-same c = rw (left c) at c.warm_in_turn.ensures.same

pub returns-then-not-at_once-clause-kept : goal.returns-then-not-at_once-clause-kept
returns-then-not-at_once-clause-kept c = rw (left c) at c.warm_in_turn.ensures.kept

pub returns-else-not-at_once-clause-value : goal.returns-else-not-at_once-clause-value
unfolding point_warmed
returns-else-not-at_once-clause-value c =
    let normal_impulse : SFits w64 c.args.point.now.normal_impulse = search rules in
    let tangent_impulse : SFits w64 c.args.point.now.tangent_impulse = search rules in
    simp to_z-of_z at (rw (c.normal_line.ensures, c.tangent_line.ensures) at c.if-not-at_once.ensures.given refl)
