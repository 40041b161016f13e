use Rattle.std.proofs.Common.{◌<◌, ◌≤◌, length, ap, ◌∙◌, arith}
use Rattle.plain_world.specs.Joints.{joint_at}
use Rattle.plain_world.specs.declared.joint.BodyJoint.{BodyJoint}
use Rattle.std.specs.Prelude.{Option}
use Rattle.world_core_base.specs.Asleep.{joint_sleep, movers_of_joint, sleep_with}
use Rattle.world_core_base.proofs.FollowLaws.{length_placed, listing_all, listing_first, listing_more}
use Rattle.world_core_base.proofs.JointAsleepLaws.{joint_named, joint_past}
use Rattle.world_core_base.proofs.TieSleepLaws.{there_below}
use Rattle.world_core_base.proofs.joints_asleep.list_joints_asleep.Goals as goal

pub loop-slot-init : goal.loop-slot-init
loop-slot-init c = (listing_first (joint_sleep c.args.bodies.now c.args.joints.now) c.reserve.new.self.names c.new-sets.result.names c.new-sets.ensures.names c.reserve.ensures.same, (c.in_ok-reserve.ensures.items, c.in_ok-reserve.ensures.sets))

pub add_joint-requires-clause-awake : goal.add_joint-requires-clause-awake
add_joint-requires-clause-awake c = c.loop-slot.invariant.0.rest c.loop-slot.slot (omega arith)

pub add_joint-requires-clause-below : goal.add_joint-requires-clause-below
add_joint-requires-clause-below c = let room = c.loop-slot.invariant.1.0 in omega (arith, c.loop-slot-test.true, room)

pub add_joint-requires-clause-named : goal.add_joint-requires-clause-named
add_joint-requires-clause-named c name e = let room = c.loop-slot.invariant.1.1 in let below = joint_named c.args.bodies.now (joint_at c.args.joints.now c.loop-slot.slot) name c.requires.named e in omega (arith, below, room)

pub loop-slot-preserved : goal.loop-slot-preserved
loop-slot-preserved c =
    let now = joint_sleep c.args.bodies.now c.args.joints.now in
    let slot = c.loop-slot.slot in
    let below : slot < length c.loop-slot.sets.names = let room = c.loop-slot.invariant.1.0 in omega (arith, c.loop-slot-test.true, room) in
    let long = ap length c.add_joint.ensures.names ∙ length_placed (now slot) slot c.loop-slot.sets.names in
    (listing_more now slot c.loop-slot.sets.names c.add_joint.new.sets.names below c.loop-slot.invariant.0 c.add_joint.ensures.names, (let room = c.loop-slot.invariant.1.0 in omega (arith, long, room), let room = c.loop-slot.invariant.1.1 in omega (arith, c.add_joint.ensures.sets, room)))

pub returns-clause-asleep : goal.returns-clause-asleep
returns-clause-asleep c =
    let bodies = c.args.bodies.now in
    let ended : length c.args.joints.now ≤ c.loop-slot.slot = omega (arith, c.loop-slot-test.false) in
    record {
      asleep = listing_all (joint_sleep bodies c.args.joints.now) c.loop-slot.slot c.loop-slot.sets.names (λ id le. ap (λ (o : Option BodyJoint). sleep_with bodies (movers_of_joint bodies o)) (joint_past c.args.joints.now id (omega (arith, ended, le)))) c.loop-slot.invariant.0;
      items = λ slot on. let below = there_below (joint_at c.args.joints.now) (length c.args.joints.now) (joint_past c.args.joints.now) slot on in let room = c.loop-slot.invariant.1.0 in omega (arith, below, room);
      named = c.loop-slot.invariant.1.1;
    }
