use Rattle.json.specs.Print.{escape_byte}
use Rattle.loaded_text.proofs.Back.{colour_is}
use Rattle.loaded_text.proofs.ContactLaws.{contact_holds}
use Rattle.loaded_text.proofs.saved_contacts.read_contact.Goals as goal

pub returns : goal.returns
unfolding escape_byte
returns c = contact_holds c.in_ok-first.first c.in_ok-second.second c.in_ok-colour.colour c.in_ok-points.points c.in_ok-touching.touching _ _ _ _ _ _ _ _
    (record { first_slot = c.in_ok-first.ensures.slot; first_index = c.in_ok-first.ensures.index; second_slot = c.in_ok-second.ensures.slot; second_index = c.in_ok-second.ensures.index; colour_is = colour_is c.in_ok-colour.colour c.in_ok-colour.ensures.low })
    c.in_ok-expect.ensures.taken c.in_ok-first.ensures.text c.in_ok-second.ensures.text c.in_ok-colour.ensures.text c.in_ok-points.ensures c.in_ok-touching.ensures c.in_ok-expect-2.ensures.taken
