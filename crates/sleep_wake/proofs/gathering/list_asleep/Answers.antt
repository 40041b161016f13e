use Rattle.std.proofs.Common.{◌≡◌, ◌++◌, List, length, ap, subst, arith}
use Rattle.std.specs.List.Sorted.{IsPermutation}
use Rattle.graph_colours.specs.declared.member.Member.{Member}
use Rattle.sleep_wake.specs.Sources.{asleep_ties}
use Rattle.sleep_wake.proofs.gathering.list_asleep.Goals as goal

pub push_asleep-requires : goal.push_asleep-requires
push_asleep-requires g c =
    let none : length c.clear.new.self.items ≡ 0 = ap (λ (l : List (Member g.row.C.Denot)). length l) c.clear.ensures.items in
    record { room = omega (arith, none, c.requires.room, c.clear.ensures.capacity) }

pub returns-clause-items : goal.returns-clause-items
returns-clause-items g c =
    let told : List (Member g.row.C.Denot) = asleep_ties (g.T.TieSource.names c.args.source.now) c.args.name (g.T.TieSource.ties c.args.source.now) in
    let pushed : IsPermutation told c.push_asleep.new.list.items = subst (λ (l : List (Member g.row.C.Denot)). IsPermutation (l ++ told) c.push_asleep.new.list.items) c.clear.ensures.items c.push_asleep.ensures.pushed in
    c.put_in_order.ensures.items told c.requires.rising pushed
