use Rattle.std.proofs.Common.{sym, true≢false, ◌∙◌}
use Rattle.contacts.proofs.HeldLaws.{nothing_is_pending}
use Rattle.contacts.proofs.StirringLaws.{held_over}
use Rattle.contacts.proofs.contact_table.ContactTable.drop_of_body.Goals as goal

pub invariant_of-self : goal.invariant_of-self
invariant_of-self c = record {
  held = held_over c.self.inside.state.memory.stirring c.self.inside.contacts c.drop_of_body.new.contacts c.self.invariant.held c.drop_of_body.ensures.keys;
  pending = nothing_is_pending c.clear.new.self c.drop_of_body.new.contacts c.clear.ensures.nothing c.know_ascending.ensures.contacts;
  book = c.drop_of_body.ensures.book;
  numbered = c.drop_of_body.ensures.numbered;
  room = λ on. absurd (true≢false (sym on ∙ c.clear.ensures.idle));
}
