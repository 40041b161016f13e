use Rattle.std.proofs.Common.{◌≡◌, ◌++◌, List, length, ap, subst, arith}
use Rattle.std.specs.Prelude.{filter}
use Rattle.std.specs.List.Sorted.{IsPermutation}
use Rattle.graph_colours.specs.declared.member.Member.{Member}
use Rattle.sleep_wake.specs.Gathered.{is_first_of}
use Rattle.sleep_wake.proofs.GatherLemmas.{filter_few}
use Rattle.sleep_wake.proofs.ListLemmas.{rising_filter}
use Rattle.sleep_wake.proofs.gathering.list_firsts.Goals as goal

pub push_each-requires-clause-room : goal.push_each-requires-clause-room
push_each-requires-clause-room g c =
    let ties = g.T.TieSource.ties c.args.source.now in
    let none : length c.clear.new.self.items ≡ 0 = ap (λ (l : List (Member g.row.C.Denot)). length l) c.clear.ensures.items in
    let few = filter_few (is_first_of c.args.members.now) ties in
    omega (arith, none, few, c.requires.room, c.clear.ensures.capacity)

pub returns-clause-items : goal.returns-clause-items
returns-clause-items g c =
    let ties = g.T.TieSource.ties c.args.source.now in
    let firsts : List (Member g.row.C.Denot) = filter (is_first_of c.args.members.now) ties in
    let pushed : IsPermutation firsts c.push_each.new.list.items = subst (λ (l : List (Member g.row.C.Denot)). IsPermutation (l ++ firsts) c.push_each.new.list.items) c.clear.ensures.items c.push_each.ensures.pushed in
    c.put_in_order.ensures.items firsts (rising_filter g.C.ConstraintId.number (is_first_of c.args.members.now) ties c.requires.rising) pushed
