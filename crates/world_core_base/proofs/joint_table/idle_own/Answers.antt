use Rattle.std.proofs.Common.{◌<◌, None, length, get_or, refl, arith}
use Rattle.std.specs.Prelude.{◌/◌}
use Rattle.std.proofs.lemmas.List.{get_or_default}
use Rattle.world_core_base.proofs.OwnJointLaws.{idling_begun, idling_done, idling_next}
use Rattle.world_core_base.proofs.joint_table.idle_own.Goals as goal

pub loop-place-init : goal.loop-place-init
loop-place-init c = idling_begun c.args.body c.args.ends.now c.args.joints.now.items c.requires.all

pub loop-place-preserved : goal.loop-place-preserved
loop-place-preserved c =
    let id = get_or c.args.ends.now c.loop-place.place 0 in
    let below : id / 2 < length c.args.joints.now.items = c.requires.below id (c.loop-place.place, c.loop-place-test.true, get_or_default c.args.ends.now c.loop-place.place id 0 c.loop-place-test.true) in
    let long = c.loop-place.invariant.long in
    idling_next c.args.body c.args.ends.now c.args.joints.now.items c.loop-place.joints.items c.idle_slot.new.joints.items c.loop-place.place id None c.loop-place-test.true refl (omega (arith, below, long)) c.idle_slot.ensures c.loop-place.invariant

pub returns : goal.returns
returns c = idling_done c.args.body c.args.ends.now c.args.joints.now.items c.loop-place.joints.items c.loop-place.place c.loop-place-test.false c.loop-place.invariant
