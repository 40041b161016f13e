use Rattle.std.proofs.Common.{sym, true≢false, ◌∙◌}
use Rattle.contacts.proofs.HeldLaws.{nothing_is_pending}
use Rattle.contacts.proofs.contact_table.ContactTable.commit_pending.Goals as goal

pub invariant_of-self : goal.invariant_of-self
invariant_of-self c = record {
  held = c.apply_and_renumber.ensures.held;
  pending = nothing_is_pending c.apply_and_renumber.new.pending c.apply_and_renumber.new.contacts c.apply_and_renumber.ensures.nothing c.know_ascending.ensures.contacts;
  book = c.apply_and_renumber.ensures.book;
  numbered = c.apply_and_renumber.ensures.numbered;
  room = λ on. absurd (true≢false (sym on ∙ c.apply_and_renumber.ensures.idle));
}
