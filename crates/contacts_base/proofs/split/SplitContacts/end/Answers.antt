use Rattle.contacts_base.specs.ShortLists.{counted_in}
use Rattle.contacts_base.proofs.SplitLaws.{ended_contacts, ended_split, split_of}
use Rattle.contacts_base.proofs.split.SplitContacts.end.Goals as goal

pub invariant_of-self : goal.invariant_of-self
invariant_of-self c =
    let s = c.self.inside in
    let counts = rw c.deref.ensures.value at c.end_by_key.ensures.counts in
    ended_split (split_of s.long.items s.over (counted_in s.short)) c.args.key c.end_by_key.new.over (counted_in c.end.new.self) c.self.invariant counts c.end_by_key.ensures.flags c.end.ensures

pub returns-clause-contacts : goal.returns-clause-contacts
returns-clause-contacts c =
    let s = c.self.inside in
    let counts = rw c.deref.ensures.value at c.end_by_key.ensures.counts in
    rw (← c.self.view_is) (ended_contacts (split_of s.long.items s.over (counted_in s.short)) c.args.key c.end_by_key.new.over (counted_in c.end.new.self) c.self.invariant counts c.end.ensures)
