use Rattle.std.proofs.Common.{drop, nat_eq}
use Rattle.std.specs.HashMap.{get}
use Rattle.world_file_base.specs.SavedContacts.{each_contact}
use Rattle.world_file.specs.Taken.{contact_colours_by}
use Rattle.saved_text.specs.Tokens.{ItemsLeft}
use Rattle.saved_text.proofs.saved_contacts.put_contacts.Given as goal

abbrev pub invariant-loop-entry : goal.invariant-loop-entry
invariant-loop-entry l =
    ItemsLeft (each_contact (drop l.entry-index l.contacts) (contact_colours_by (get nat_eq l.by_number) (drop l.entry-index l.contacts)))
    (each_contact l.contacts (contact_colours_by (get nat_eq l.by_number) l.contacts)) l.fn.out l.out
