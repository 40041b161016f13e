use Rattle.std.proofs.Common.{◌≡◌, ◌++◌, drop}
use Rattle.serde_json.specs.View.{items_view}
use Rattle.world_file_base.specs.SavedContacts.{contacts_in}
use Rattle.world_file_base.specs.AskedContacts.{contacts_asks}
use Rattle.world_file_base.proofs.saved_contacts.read_each_contact.Given as goal

abbrev pub invariant-loop-item : goal.invariant-loop-item
invariant-loop-item l = record {
  contacts : l.contacts.items ++ contacts_in l.version (items_view (drop l.item-index l.items)) ≡ contacts_in l.version (items_view l.items);
  asked : contacts_asks l.version (items_view (drop l.item-index l.items)) l.reader ≡ contacts_asks l.version (items_view l.items) l.fn.reader;
}
