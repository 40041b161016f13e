use Rattle.std.proofs.Common.{◌<◌, ◌≤◌, length, get_or, vec_capacity, refl, arith}
use Rattle.std.specs.Prelude.{filter}
use Rattle.sleep_wake.specs.Gathered.{is_first_of}
use Rattle.sleep_wake.proofs.GatherLemmas.{pushed_all, pushed_first, pushed_more, pushed_room}
use Rattle.sleep_wake.proofs.gathering.push_each.Goals as goal

pub loop-place-init : goal.loop-place-init
loop-place-init g c = record {
  pushed = pushed_first (g.T.TieSource.ties c.args.source.now) c.args.list.now.items c.args.members.now c.requires.once;
  capacity = omega arith;
}

pub push_firsts-requires : goal.push_firsts-requires
push_firsts-requires g c =
    let ties = g.T.TieSource.ties c.args.source.now in
    let slots = c.args.members.now in
    let place = c.loop-place.place in
    let lt : place < length slots = omega (arith, c.loop-place-test.true, c.loop-place.auto.place-end) in
    let room = pushed_room ties c.args.list.now.items (filter (is_first_of slots) ties) c.loop-place.list.items slots place (get_or slots place 0) 0 (vec_capacity c.args.list.now) lt refl c.loop-place.invariant.pushed c.requires.room in
    record { room = omega (arith, room, c.loop-place.invariant.capacity) }

pub loop-place-preserved : goal.loop-place-preserved
loop-place-preserved g c =
    let ties = g.T.TieSource.ties c.args.source.now in
    let slots = c.args.members.now in
    let place = c.loop-place.place in
    let lt : place < length slots = omega (arith, c.loop-place-test.true, c.loop-place.auto.place-end) in
    record {
      pushed = pushed_more ties c.args.list.now.items (filter (is_first_of slots) ties) c.loop-place.list.items c.push_firsts.new.list.items slots place (get_or slots place 0) 0 lt refl c.loop-place.invariant.pushed c.push_firsts.ensures.pushed;
      capacity = omega (arith, c.loop-place.invariant.capacity, c.push_firsts.ensures.capacity);
    }

pub returns-clause-pushed : goal.returns-clause-pushed
returns-clause-pushed g c =
    let ties = g.T.TieSource.ties c.args.source.now in
    let slots = c.args.members.now in
    let ended : length slots ≤ c.loop-place.place = omega (arith, c.loop-place-test.false) in
    pushed_all ties c.args.list.now.items (filter (is_first_of slots) ties) c.loop-place.list.items slots c.loop-place.place ended c.loop-place.invariant.pushed
