use Rattle.std.proofs.Common.{◌∷◌, [], ◌++◌, codes}
use Rattle.serde_json.specs.Data.{boolean}
use Rattle.world_file_base.specs.SavedContacts.{contact_data, points_of, shape_id_of}
use Rattle.world_file_base.specs.Written.{natural_or_null}
use Rattle.saved_text.proofs.Adding.{member_added, members_then, object_added, wrote}
use Rattle.saved_text.proofs.Objects.{contact_object}
use Rattle.saved_text.proofs.saved_contacts.put_contact.Goals as goal

pub returns : goal.returns
returns c =
    let e = c.args.entry.now in
    let first = (codes "a", shape_id_of e.key.first) ∷ (codes "b", shape_id_of e.key.second) ∷ (codes "colour", natural_or_null c.args.colour) ∷ [] in
    let points = (codes "points", points_of e.contact) ∷ [] in
    let last = (codes "touching", boolean c.is_touching.result) ∷ [] in
    let named = member_added (codes "points") (points_of e.contact) _ _ _ (wrote _ _ _ _ c.in_ok-key.ensures) c.in_ok-put_points.ensures.text in
    let members = members_then first (points ++ last) _ _ _ c.in_ok-put_members.ensures.text (members_then points last _ _ _ named c.in_ok-put_members-2.ensures.text) in
    record {
      text = object_added (first ++ (points ++ last)) (contact_data e c.args.colour) _ _ _ _ (contact_object e c.args.colour c.is_touching.result c.is_touching.ensures)
          (wrote _ _ _ _ c.in_ok-begin_object.ensures) members (wrote _ _ _ _ c.in_ok-end_object.ensures);
    }
