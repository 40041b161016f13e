use Rattle.contacts_base.proofs.SplitLaws.{given_counted, given_short}
use Rattle.contacts_base.proofs.short_list.ShortList.give.Goals as goal

pub invariant_of-self : goal.invariant_of-self
invariant_of-self c =
    let s = c.self.inside in
    given_short c.args.key c.args.first c.args.second s.over s.entries.items c.give_by_key.new.entries.items c.self.invariant.contacts c.self.invariant.flags c.give_by_key.ensures

pub returns : goal.returns
returns c =
    let s = c.self.inside in
    rw (← c.self.view_is) (given_counted c.args.key c.args.first c.args.second s.over s.entries.items c.give_by_key.new.entries.items c.give_by_key.ensures)
