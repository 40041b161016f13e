use Rattle.std.proofs.Common.{rules}
use Rattle.contacts_base.specs.ShortLists.{counted_in}
use Rattle.contacts_base.proofs.SplitLaws.{one_is, split_of}
use Rattle.contacts_base.proofs.split.SplitContacts.is_one.Goals as goal

pub returns-then-are_none_set : goal.returns-then-are_none_set
returns-then-are_none_set c = λ t.
    let s = c.self.inside in
    rw (← c.self.view_is) (one_is (split_of s.long.items s.over (counted_in s.short)) c.self.invariant (c.if-are_none_set.ensures (search rules)) (c.is_empty.ensures t))
