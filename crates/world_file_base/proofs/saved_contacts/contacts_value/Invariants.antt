use Rattle.std.proofs.Common.{◌≡◌, ◌++◌, drop, map}
use Rattle.serde_json.specs.View.{view}
use Rattle.world_file_base.specs.SavedContacts.{each_contact}
use Rattle.world_file_base.proofs.saved_contacts.contacts_value.Given as goal

abbrev pub invariant-loop-place : goal.invariant-loop-place
invariant-loop-place l = map view l.items.items ++ each_contact (drop l.place l.contacts) (drop l.place l.colours) ≡ each_contact l.contacts l.colours
