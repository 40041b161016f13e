use Rattle.std.proofs.Common.{◌++◌, ◌∷◌, [], codes}
use Rattle.world_file_base.specs.SavedBodies.{body_data}
use Rattle.world_file_base.specs.SavedShapes.{shapes_of}
use Rattle.world_file_base.specs.Written.{list_data}
use Rattle.saved_text.specs.Bodies.{first_of_body, last_of_body}
use Rattle.saved_text.proofs.Adding.{member_added, members_then, object_added, wrote}
use Rattle.saved_text.proofs.Objects.{body_object}
use Rattle.saved_text.proofs.bodies.put_body.Goals as goal

pub returns : goal.returns
returns c =
    let b = c.args.body.now in
    let membership = c.membership_by.result in
    let shapes = list_data (shapes_of b.shapes b.fats) in
    let first = first_of_body b membership in
    let named = (codes "shapes", shapes) ∷ [] in
    let last = last_of_body b.kind b.timer in
    let middle = member_added (codes "shapes") shapes _ _ _ (wrote _ _ _ _ c.in_ok-key.ensures) c.in_ok-put_body_shapes.ensures.text in
    let members = members_then first (named ++ last) _ _ _ c.in_ok-put_first.ensures.text (members_then named last _ _ _ middle c.in_ok-put_last.ensures.text) in
    record {
      text = object_added (first ++ (named ++ last)) (body_data b c.args.label) _ _ _ _ (body_object b c.args.label membership c.membership_by.ensures)
          (wrote _ _ _ _ c.in_ok-begin_object.ensures) members (wrote _ _ _ _ c.in_ok-end_object.ensures);
    }
