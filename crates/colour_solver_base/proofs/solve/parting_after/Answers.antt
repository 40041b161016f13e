use Rattle.std.proofs.Common.{◌≡◌, ◌∙◌, ap, sym, rules}
use Rattle.std.proofs.lemmas.Int.{to_z-of_z}
use Rattle.std.specs.Int.{w64}
use mir.Val.{SFits, to_z}
use Rattle.colour_solver_base.proofs.solve.parting_after.Goals as goal

pub returns-then-point-normal_impulse-clause-value : goal.returns-then-point-normal_impulse-clause-value
returns-then-point-normal_impulse-clause-value c =
    let now : SFits w64 c.args.point.now.normal_impulse = search rules in
    let same : c.args.point.now.normal_impulse ≡ c.args.normal_impulse = sym (to_z-of_z w64 c.args.point.now.normal_impulse now) ∙ ap (to_z w64) c.if-point-normal_impulse.true ∙ to_z-of_z w64 c.args.normal_impulse c.ranges.normal_impulse in
    c.requires.apart same
