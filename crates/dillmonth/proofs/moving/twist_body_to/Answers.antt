use Rattle.std.proofs.Common.{◌≡◌, ℤ, ◌∙◌, ap, rules}
use Rattle.std.proofs.lemmas.Int.{to_z-of_z}
use Rattle.std.specs.Int.{w64}
use Rattle.std.specs.Option.{option_copied}
use mir.Val.{SFits}
use Rattle.world_rules.specs.World.{body_named}
use Rattle.dillmonth.specs.Motions.{twist_to}
use Rattle.dillmonth.proofs.TwistLaws.{twists_same}
use Rattle.dillmonth.proofs.moving.twist_body_to.Goals as goal

pub returns : goal.returns
returns c =
    let fits : SFits w64 c.twist_to-by.result = search rules in
    let named : c.twist_to-by.result ≡ twist_to (body_named c.args.desk.now.world.plain c.args.body) c.args.spin =
    c.twist_to-by.ensures
    ∙ ap (λ (z : ℤ). twist_to (option_copied c.sound_body.result) z) (to_z-of_z w64 c.args.spin c.ranges.spin)
    ∙ ap (λ o. twist_to o c.args.spin) c.sound_body.ensures.value in
    twists_same _ _ _ _ _ _ (to_z-of_z w64 c.twist_to-by.result fits ∙ named) c.twist.ensures
