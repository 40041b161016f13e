use Rattle.std.proofs.Common.{sym, true≢false, ◌∙◌}
use Rattle.contacts_base.specs.Split.{contacts_in}
use Rattle.contacts.proofs.HeldLaws.{nothing_is_pending}
use Rattle.contacts.proofs.KeptLaws.{none_numbered}
use Rattle.contacts.proofs.contact_table.ContactTable.new.Goals as goal

pub invariant_of-result : goal.invariant_of-result
invariant_of-result c = record {
  held = c.new-memory.ensures c.new-contacts.result;
  pending = nothing_is_pending c.new-pending.result c.new-contacts.result c.new-pending.ensures.nothing c.know_ascending.ensures.contacts;
  book = c.new-numbers.ensures.book;
  numbered = none_numbered (contacts_in c.new-contacts.result) c.new-numbers.result.contacts.items c.new-contacts.ensures.contacts c.new-numbers.ensures.contacts;
  room = λ on. absurd (true≢false (sym on ∙ c.new-pending.ensures.idle));
}
