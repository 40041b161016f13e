use Rattle.std.proofs.Common.{List, subst, sym, true≢false, ◌∙◌}
use Rattle.contacts_base.specs.declared.contact.ContactEntry.{ContactEntry}
use Rattle.contacts.specs.Numbered.{AreNumbered}
use Rattle.contacts.proofs.HeldLaws.{nothing_is_pending}
use Rattle.contacts.proofs.contact_table.ContactTable.from_contacts.Goals as goal

pub invariant_of-result : goal.invariant_of-result
invariant_of-result c = record {
  held = c.new-memory.ensures c.in_ok-contacts.contacts;
  pending = nothing_is_pending c.new-pending.result c.in_ok-contacts.contacts c.new-pending.ensures.nothing c.know_ascending.ensures.contacts;
  book = c.in_ok-numbers.ensures.book;
  numbered = subst (λ (es : List ContactEntry). AreNumbered es c.in_ok-numbers.numbers.contacts.items) (c.long.ensures.value ∙ c.in_ok-contacts.ensures.long ∙ sym c.in_ok-contacts.ensures.contacts) c.in_ok-numbers.ensures.numbered;
  room = λ on. absurd (true≢false (sym on ∙ c.new-pending.ensures.idle));
}
