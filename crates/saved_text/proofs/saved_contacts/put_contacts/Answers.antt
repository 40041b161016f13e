use Rattle.std.proofs.Common.{drop, arith, ap, nat_eq, List}
use Rattle.std.specs.HashMap.{get}
use Rattle.std.proofs.lemmas.List.{drop_all}
use Rattle.contacts_base.specs.declared.contact.ContactEntry.{ContactEntry}
use Rattle.world_file_base.specs.SavedContacts.{each_contact}
use Rattle.world_file.specs.Taken.{contact_colours_by}
use Rattle.saved_text.proofs.Adding.{list_added, list_begun, wrote}
use Rattle.saved_text.proofs.saved_contacts.put_contacts.Goals as goal

pub loop-entry-init : goal.loop-entry-init
loop-entry-init c = list_begun (each_contact c.args.contacts.now (contact_colours_by (get nat_eq c.args.by_number.now) c.args.contacts.now)) _ _ (wrote _ _ _ _ c.in_ok-begin_array.ensures)

pub returns : goal.returns
returns c =
    let of = get nat_eq c.args.by_number.now in
    let contacts = c.args.contacts.now in
    let left = drop c.loop-entry.entry-index contacts in
    record {
      text = list_added (each_contact left (contact_colours_by of left)) (each_contact contacts (contact_colours_by of contacts)) _ _ _
          (ap (λ (es : List ContactEntry). each_contact es (contact_colours_by of es)) (drop_all c.loop-entry.entry-index contacts (omega (arith, c.loop-entry-test.false)))) c.loop-entry.invariant (wrote _ _ _ _ c.in_ok-end_array.ensures);
    }
