use Rattle.contacts_base.specs.ShortLists.{counted_in}
use Rattle.contacts_base.proofs.SplitLaws.{carried_is_split, split_of}
use Rattle.contacts_base.proofs.split.SplitContacts.change_in_place.Goals as goal

pub invariant_of-self : goal.invariant_of-self
invariant_of-self c =
    let s = c.self.inside in
    let all = rw (← c.self.view_is) at c.requires.contacts in
    carried_is_split counted_in c.args.notes.now c.args.ends.now c.args.short (split_of s.long.items s.over (counted_in s.short)) c.renew_all.new.entries.items c.set_all.new.self (counted_in c.replace.new.short) c.renew_all.ensures c.set_all.ensures c.replace.ensures c.self.invariant c.requires.short all
