use Rattle.std.proofs.Common.{◌<◌, get_or, length, arith}
use Rattle.solver_sets.specs.Ties.{slots_of}
use Rattle.world_core.proofs.OwnJointLaws.{own_below, unjoined_done, unjoined_next}
use Rattle.world_core.proofs.joining.drop_joints.Goals as goal

pub drop_if-requires-clause-slot : goal.drop_if-requires-clause-slot
drop_if-requires-clause-slot c =
    let below : get_or c.args.slots.now c.loop-place.place 0 < length c.args.joints.now.joints = own_below c.args.body c.args.joints.now.joints c.args.slots.now c.requires.slots c.loop-place.place 0 c.loop-place-test.true in
    let long = c.loop-place.invariant.long in
    omega (arith, below, long)

pub loop-place-preserved : goal.loop-place-preserved
loop-place-preserved c =
    let long = c.loop-place.invariant.long in
    let same = c.drop_if.ensures.slots in
    record {
      gone = unjoined_next c.args.body c.args.slots.now (slots_of c.args.handles.now.slot_entries c.args.joints.now.joints) (slots_of c.loop-place.handles.slot_entries c.loop-place.joints.joints) (slots_of c.drop_if.new.handles.slot_entries c.drop_if.new.joints.joints) c.loop-place.place c.loop-place-test.true c.drop_if.ensures.gone c.loop-place.invariant.gone;
      matched = c.drop_if.ensures.matched;
      long = omega (arith, long, same);
    }

pub returns : goal.returns
returns c = record { gone = unjoined_done c.args.body c.args.slots.now (slots_of c.args.handles.now.slot_entries c.args.joints.now.joints) (slots_of c.loop-place.handles.slot_entries c.loop-place.joints.joints) c.loop-place.place c.loop-place-test.false c.requires.slots c.loop-place.invariant.gone }
