use Rattle.std.proofs.Common.{◌<◌, ◌∙◌, get_or, length, arith}
use Rattle.solver_sets.proofs.ListingLaws.{grown_by, listed_all, listed_more}
use Rattle.world_core.proofs.OwnJointLaws.{own_below, own_tie, own_ties}
use Rattle.world_core.proofs.own_joints.fill_joint_ties.Goals as goal

pub tie_at-requires : goal.tie_at-requires
tie_at-requires c =
    let below : get_or c.args.slots.now c.loop-place.place 0 < length c.args.joints.now = own_below c.args.body c.args.joints.now c.args.slots.now c.requires.slots c.loop-place.place 0 c.loop-place-test.true in
    let slots = c.requires.matched.slots in
    omega (arith, below, slots)

pub put_some-requires : goal.put_some-requires
put_some-requires c = λ there. let room = c.requires.room in omega (arith, c.loop-place.invariant.len, c.loop-place.invariant.capacity, c.loop-place-test.true, c.loop-place.ties.ok.0, room)

pub loop-place-preserved : goal.loop-place-preserved
loop-place-preserved c = record {
  ties = listed_more (own_tie c.args.bodies.now c.args.body c.args.slot_entries.now c.args.joints.now) c.loop-place.ties.items c.put_some.new.items.items c.tie_at.result c.args.slots.now c.loop-place.place 0 c.loop-place-test.true c.put_some.ensures.items c.tie_at.ensures ∙ c.loop-place.invariant.ties;
  len = grown_by c.loop-place.ties.items c.put_some.new.items.items c.tie_at.result c.loop-place.place c.put_some.ensures.items c.loop-place.invariant.len;
  capacity = omega (arith, c.put_some.ensures.capacity, c.loop-place.invariant.capacity);
}

pub returns-clause-ties : goal.returns-clause-ties
returns-clause-ties c =
    listed_all (own_tie c.args.bodies.now c.args.body c.args.slot_entries.now c.args.joints.now) c.loop-place.ties.items _ c.args.slots.now c.loop-place.place c.loop-place-test.false c.loop-place.invariant.ties
    ∙ own_ties c.args.bodies.now c.args.body c.args.slot_entries.now c.args.joints.now c.args.slots.now c.requires.matched.slots c.requires.slots
