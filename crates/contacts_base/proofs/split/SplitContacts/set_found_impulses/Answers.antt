use Rattle.std.proofs.Common.{ap, ◌∙◌}
use Rattle.contacts_base.specs.ContactLists.{keys_of}
use Rattle.contacts_base.proofs.CountingLaws.{keys_given}
use Rattle.contacts_base.specs.ShortLists.{counted_in}
use Rattle.contacts_base.proofs.SplitLaws.{given_is, given_is_split, split_of}
use Rattle.contacts_base.proofs.split.SplitContacts.set_found_impulses.Goals as goal

pub invariant_of-self : goal.invariant_of-self
invariant_of-self c =
    let s = c.self.inside in
    given_is_split c.args.key c.args.first c.args.second (split_of s.long.items s.over (counted_in s.short)) c.give_by_key.new.entries.items (counted_in c.give.new.self) c.give_by_key.ensures c.give.ensures c.self.invariant

pub returns-clause-contacts : goal.returns-clause-contacts
returns-clause-contacts c =
    let s = c.self.inside in
    rw (← c.self.view_is) (given_is c.args.key c.args.first c.args.second (split_of s.long.items s.over (counted_in s.short)) c.give_by_key.new.entries.items (counted_in c.give.new.self) c.give_by_key.ensures c.give.ensures)

pub returns-clause-keys : goal.returns-clause-keys
returns-clause-keys c =
    let s = c.self.inside in
    rw (← c.self.view_is) (ap keys_of c.give_by_key.ensures ∙ keys_given c.args.key c.args.first c.args.second s.long.items)
