use Rattle.packed_sets.proofs.LinkLaws.{grown_by}
use Rattle.packed_sets.proofs.linked_sets.LinkedSets.reserve.Goals as goal

pub invariant_of-self-2 : goal.invariant_of-self-2
invariant_of-self-2 c =
    (grown_by c.self.inside.links.items c.fill.new.list.items c.self.inside.heads.items c.fill-2.new.list.items c.args.ids c.args.sets c.self.invariant c.if-ids-gt-MAX_ITEMS.false
    (rw c.in_ok-reserve_in_all.ensures.items at c.fill.ensures.items) (rw c.in_ok-reserve_in_all-2.ensures.items at c.fill-2.ensures.items)).linked

pub returns-clause-sets : goal.returns-clause-sets
returns-clause-sets c = λ set.
    rw (← c.self.view_is)
    ((grown_by c.self.inside.links.items c.fill.new.list.items c.self.inside.heads.items c.fill-2.new.list.items c.args.ids c.args.sets c.self.invariant c.if-ids-gt-MAX_ITEMS.false
    (rw c.in_ok-reserve_in_all.ensures.items at c.fill.ensures.items) (rw c.in_ok-reserve_in_all-2.ensures.items at c.fill-2.ensures.items)).same set)
