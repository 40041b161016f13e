use Rattle.std.proofs.Common.{◌∷◌, [], Some, codes}
use Rattle.world_file_base.specs.SavedBodies.{body_data}
use Rattle.world_file_base.specs.SavedSlots.{body_slot_of}
use Rattle.world_file_base.specs.Written.{natural}
use Rattle.saved_text.proofs.Adding.{member_added, members_then, object_added, wrote}
use Rattle.saved_text.proofs.Objects.{body_slot_object}
use Rattle.saved_text.proofs.bodies.put_taken.Goals as goal

pub returns : goal.returns
returns c =
    let slot_entry = c.args.slot_entry in
    let b = c.args.body.now in
    let body = (codes "body", body_data b c.args.label) ∷ [] in
    let generation = (codes "generation", natural slot_entry.generation) ∷ [] in
    let named = member_added (codes "body") (body_data b c.args.label) _ _ _ (wrote _ _ _ _ c.in_ok-key.ensures) c.in_ok-put_body.ensures.text in
    record {
      text = object_added ((codes "body", body_data b c.args.label) ∷ generation) (body_slot_of slot_entry (Some b) c.args.label) _ _ _ _ (body_slot_object slot_entry b c.args.label)
          (wrote _ _ _ _ c.in_ok-begin_object.ensures) (members_then body generation _ _ _ named c.in_ok-put_members.ensures.text) (wrote _ _ _ _ c.in_ok-end_object.ensures);
    }
