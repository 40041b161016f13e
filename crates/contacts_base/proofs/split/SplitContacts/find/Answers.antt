use Rattle.std.proofs.Common.{◌∙◌, sym}
use Rattle.contacts_base.specs.ShortLists.{counted_in}
use Rattle.contacts_base.proofs.SplitLaws.{found_first, found_second, split_of}
use Rattle.contacts_base.proofs.split.SplitContacts.find.Goals as goal

pub returns-in-Some : goal.returns-in-Some
returns-in-Some c =
    let s = c.self.inside in
    let split = split_of s.long.items s.over (counted_in s.short) in
    let found = rw c.deref.ensures.value at c.in-Some.ensures in
    rw (← c.self.view_is) (sym (found_first split c.args.key c.in-Some.entry.now (sym found)))

pub returns-in-None : goal.returns-in-None
returns-in-None c =
    let s = c.self.inside in
    let split = split_of s.long.items s.over (counted_in s.short) in
    let found = rw c.deref.ensures.value at c.in-None.ensures in
    rw (← c.self.view_is) (c.find.ensures ∙ sym (found_second split c.args.key (sym found)))
