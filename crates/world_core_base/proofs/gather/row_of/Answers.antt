use Rattle.std.proofs.Common.{◌∙◌, sym, ap}
use Rattle.contacts_base.specs.Split.{contacts_in}
use Rattle.world_core_base.specs.Gather.{IsContactOn, row_in}
use Rattle.world_core_base.proofs.ContactLaws.{found_is, found_number, row_is}
use Rattle.world_core_base.proofs.gather.row_of.Goals as goal

pub row_in-requires-clause-contact : goal.row_in-requires-clause-contact
row_in-requires-clause-contact c =
    found_is (IsContactOn c.args.states.now) (contacts_in c.args.contacts.now) c.in-Contact.key c.in_ok-entry-in-Contact.entry.now c.requires.contacts (sym c.in_ok-entry-in-Contact.ensures)

pub row_in-requires-clause-same : goal.row_in-requires-clause-same
row_in-requires-clause-same c = found_number (contacts_in c.args.contacts.now) c.in-Contact.key c.in_ok-entry-in-Contact.entry.now (sym c.in_ok-entry-in-Contact.ensures)

pub returns-in_ok-entry-in-Contact-clause-value : goal.returns-in_ok-entry-in-Contact-clause-value
returns-in_ok-entry-in-Contact-clause-value c =
    rw c.in-Contact.is (c.row_in.ensures.value ∙ ap (row_in c.args.states.now c.in-Contact.key) (c.in_ok-entry-in-Contact.ensures) ∙ sym (row_is c.args.states.now (contacts_in c.args.contacts.now) c.in-Contact.key))
