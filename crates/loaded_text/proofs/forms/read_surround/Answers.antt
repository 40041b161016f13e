use Rattle.std.proofs.Common.{codes, refl, [], true, rules, to_z-of_z}
use Rattle.std.specs.Int.{w32, w64}
use mir.Val.{SFits}
use Rattle.json.specs.Print.{escape_byte}
use Rattle.world_file_base.specs.Written.{corners_of, integer, natural}
use Rattle.loaded_text.specs.Shapes.{IsSurround}
use Rattle.loaded_text.specs.declared.forms.Surround.{Surround}
use Rattle.loaded_text.proofs.Joined.{member_then, no_member}
use Rattle.loaded_text.proofs.forms.read_surround.Goals as goal

pub returns-clause-text : goal.returns-clause-text
unfolding escape_byte
returns-clause-text c =
    let first : SFits w64 c.in_ok-friction.friction = search rules in
    let second : SFits w32 c.in_ok-group.group = search rules in
    simp to_z-of_z
    (member_then true _ (codes "fat") (corners_of c.in_ok-fat.fat) _ _ _ _ refl c.in_ok-fat.ensures.text
    (member_then true _ (codes "friction") (integer c.in_ok-friction.friction) _ _ _ _ refl c.in_ok-friction.ensures.text
    (member_then true _ (codes "group") (integer c.in_ok-group.group) _ _ _ _ refl c.in_ok-group.ensures.text
    (member_then true _ (codes "mask") (natural c.in_ok-mask.mask) [] _ _ _ refl c.in_ok-mask.ensures.text (no_member true _)))))

pub returns-clause-fits : goal.returns-clause-fits
returns-clause-fits c =
    let first : SFits w64 c.in_ok-friction.friction = search rules in
    let second : SFits w32 c.in_ok-group.group = search rules in
    let surround : Surround = record { fat = c.in_ok-fat.fat; friction = c.in_ok-friction.friction; group = c.in_ok-group.group; mask = c.in_ok-mask.mask } in
    let fits : IsSurround surround = record { fat = c.in_ok-fat.ensures.within; friction = c.in_ok-friction.ensures.signed; group = c.in_ok-group.ensures.group; mask = c.in_ok-mask.ensures.small } in
    simp to_z-of_z fits
