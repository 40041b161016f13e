use Rattle.std.proofs.Common.{Bool, ◌≡◌, ◌+◌, ◌<◌, ◌++◌, ◌∷◌, drop, length, arith}
use Rattle.std.specs.Prelude.{filter}
use Rattle.sleep_wake.specs.Waking.{has_mover_of}
use Rattle.graph_colours.specs.declared.member.Member.{Member}
use Rattle.sleep_wake.proofs.SetLemmas.{front_is}
use Rattle.sleep_wake.proofs.GatherLemmas.{passed_on}
use Rattle.sleep_wake.proofs.gathering.list_from_all.Goals as goal

pub loop-place-preserved : goal.loop-place-preserved
loop-place-preserved g c =
    let wanted : Member g.row.C.Denot → Bool = has_mover_of c.args.islands.now.labels c.args.name in
    let m = c.index-ties-place.result in
    let rest = drop (c.loop-place.place + 1) c.args.ties.now in
    let lt : c.loop-place.place < length c.args.ties.now = omega (arith, c.loop-place-test.true, c.loop-place.auto.place-end) in
    let front : drop c.loop-place.place c.args.ties.now ≡ m ∷ rest = front_is c.args.ties.now c.loop-place.place m lt c.index-ties-place.is in
    let left : c.loop-place.list.items ++ filter wanted (m ∷ rest) ≡ filter wanted c.args.ties.now = rw front at c.loop-place.invariant.items in
    record {
      items = passed_on wanted m rest c.loop-place.list.items c.add_if_in.new.list.items (filter wanted c.args.ties.now) c.add_if_in.ensures.items left;
      len = omega (arith, c.loop-place.invariant.len, c.add_if_in.ensures.len);
      capacity = omega (arith, c.loop-place.invariant.capacity, c.add_if_in.ensures.capacity);
    }
