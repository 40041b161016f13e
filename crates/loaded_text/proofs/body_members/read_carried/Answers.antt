use Rattle.std.proofs.Common.{codes, refl, [], true, rules, to_z-of_z}
use Rattle.std.specs.Int.{w64}
use mir.Val.{SFits}
use Rattle.json.specs.Print.{escape_byte}
use Rattle.world_file_base.specs.Written.{integer, natural, vector_of}
use Rattle.loaded_text.proofs.Joined.{member_then, no_member}
use Rattle.loaded_text.proofs.body_members.read_carried.Goals as goal

pub returns-clause-text : goal.returns-clause-text
unfolding escape_byte
returns-clause-text c =
    let first : SFits w64 c.in_ok-spin.spin = search rules in
    simp to_z-of_z
    (member_then true _ (codes "spin") (integer c.in_ok-spin.spin) _ _ _ _ refl c.in_ok-spin.ensures.text
    (member_then true _ (codes "timer") (natural c.in_ok-timer.timer) _ _ _ _ refl c.in_ok-timer.ensures.text
    (member_then true _ (codes "velocity") (vector_of c.in_ok-velocity.velocity) [] _ _ _ refl c.in_ok-velocity.ensures.text (no_member true _))))
