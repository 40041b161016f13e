use Rattle.std.proofs.Common.{rules, to_z-of_z}
use Rattle.std.specs.Int.{w64}
use mir.Val.{SFits}
use Rattle.json.specs.Print.{escape_byte}
use Rattle.loaded_text.proofs.ShapeLaws.{capsule_holds}
use Rattle.loaded_text.proofs.forms.read_capsule.Goals as goal

pub returns : goal.returns
unfolding escape_byte
returns c =
    let first : SFits w64 c.in_ok-radius.radius = search rules in
    let second : SFits w64 c.in_ok-restitution.restitution = search rules in
    rw c.shape_with.ensures (simp to_z-of_z (capsule_holds c.in_ok-ends.ends.first c.in_ok-ends.ends.second c.in_ok-category.category c.in_ok-surround.surround c.in_ok-radius.radius c.in_ok-restitution.restitution _ _ _ _ _ _ _ _
    c.in_ok-ends.ensures.first c.in_ok-ends.ensures.second c.in_ok-category.ensures.small c.in_ok-surround.ensures.fits c.in_ok-radius.ensures.signed c.in_ok-restitution.ensures.signed
    c.in_ok-expect.ensures.taken c.in_ok-ends.ensures.text c.in_ok-category.ensures.text c.in_ok-surround.ensures.text c.in_ok-radius.ensures.text c.in_ok-restitution.ensures.text c.in_ok-expect-2.ensures.taken))
