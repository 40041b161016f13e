use Rattle.json.specs.Print.{escape_byte}
use Rattle.loaded_text.proofs.Parts.{if_some}
use Rattle.loaded_text.proofs.WorldLaws.{world_stands}
use Rattle.loaded_text.proofs.world.read_members.Goals as goal

pub returns : goal.returns
unfolding escape_byte
returns c =
    if_some c.expect-2.result
    (λ u is empty. world_stands c.args.saved.now _ _ _ _ _ _ _ _ _ _ _ empty c.in_ok-expect.ensures.taken c.in_ok-add_bodies.ensures c.in_ok-saved.ensures.text c.in_ok-add_contacts.ensures
    c.in_ok-saved-2.ensures.text (rw c.unsigned_abs.ensures.value at c.in_ok-saved-2.ensures.within) c.in_ok-add_joints.ensures c.in_ok-saved-3.ensures.text c.in_ok-saved-3.ensures.small c.in_ok-saved-4.ensures.text is)
    c.expect-2.ensures.taken
