use Rattle.world_file_base.specs.SavedContacts.{point_data}
use Rattle.saved_text.proofs.Objects.{point_object}
use Rattle.saved_text.proofs.saved_contacts.put_point.Goals as goal

pub returns : goal.returns
returns c = record { text = c.put_object.ensures.text (point_data c.args.point.now) (point_object c.args.point.now) }
