use Rattle.std.proofs.Common.{◌≡◌, Bool, List, subst, sym, true, true≢false, ◌∙◌}
use Rattle.contacts_base.specs.Split.{contacts_in, is_over}
use Rattle.contacts.proofs.KeptLaws.{given_numbered}
use Rattle.contacts.proofs.HeldLaws.{nothing_is_pending}
use Rattle.contacts.proofs.StirringLaws.{held_over}
use Rattle.contacts.proofs.contact_table.ContactTable.set_impulses.Goals as goal

pub invariant_of-self : goal.invariant_of-self
invariant_of-self c = record {
  held = held_over c.self.inside.state.memory.stirring c.self.inside.contacts c.set_impulses.new.self c.self.invariant.held (record { keys = c.set_impulses.ensures.keys; over = λ p on. subst (λ (over : List Bool). is_over over p ≡ true) (sym c.set_impulses.ensures.over) on });
  pending = nothing_is_pending c.clear.new.self c.set_impulses.new.self c.clear.ensures.nothing c.know_ascending.ensures.contacts;
  book = c.self.invariant.book;
  numbered = given_numbered c.args.key c.args.first c.args.second (contacts_in c.self.inside.contacts) (contacts_in c.set_impulses.new.self) c.self.inside.numbers.contacts.items c.set_impulses.ensures.contacts c.self.invariant.numbered;
  room = λ on. absurd (true≢false (sym on ∙ c.clear.ensures.idle));
}
