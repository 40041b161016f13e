use Rattle.std.proofs.Common.{◌≡◌, ◌∙◌, ap, sym, pos, rules}
use Rattle.std.proofs.lemmas.Int.{to_z-of_z}
use Rattle.std.specs.Int.{w64}
use mir.Val.{SFits, to_z}
use Rattle.colour_solver_base.specs.ContactSolving.{most_friction}
use Rattle.colour_solver_base.proofs.Frictionless.{frictionless}
use Rattle.colour_solver_base.proofs.friction.is_frictionless.Goals as goal

pub returns-else-point-ne0 : goal.returns-else-point-ne0
returns-else-point-ne0 c = λ h e states.
    let friction : SFits w64 c.args.friction = c.ranges.friction in
    let normal_impulse : SFits w64 c.args.point.now.normal_impulse = search rules in
    let tangent_impulse : SFits w64 c.args.point.now.tangent_impulse = search rules in
    let most : SFits w64 c.most_friction.result = record { sfits = c.most_friction.type_inv } in
    let none : c.most_friction.result ≡ pos 0 = sym (to_z-of_z w64 c.most_friction.result most) ∙ ap (to_z w64) c.if-most_friction-ne0.false in
    let value : c.most_friction.result ≡ most_friction c.args.friction c.args.point.now.normal_impulse = simp to_z-of_z at c.most_friction.ensures.value in
    frictionless c.args.friction c.args.point.now e states (sym value ∙ none) (sym (to_z-of_z w64 c.args.point.now.tangent_impulse tangent_impulse) ∙ ap (to_z w64) c.if-point-ne0.false)
