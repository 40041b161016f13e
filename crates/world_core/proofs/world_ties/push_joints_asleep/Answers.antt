use Rattle.std.proofs.Common.{arith, vec_capacity}
use Rattle.std.specs.List.{filter_map}
use Rattle.packed_sets.proofs.WalkLaws.{walk_at, walk_fewer}
use Rattle.packed_sets.specs.Packs.{list_at}
use Rattle.sleep_wake.specs.Sources.{asleep_ties}
use Rattle.solver_sets.specs.Ties.{slots_of}
use Rattle.world_core.specs.WorldTies.{all_joint_ties, joint_tie_in}
use Rattle.world_core_base.specs.Asleep.{asleep_under}
use Rattle.world_core.proofs.PushLaws.{pushing_all, pushing_first, pushing_more, pushing_room, room_by, told_by}
use Rattle.world_core.proofs.WorldTieLaws.{asleep_joints}
use Rattle.world_core.proofs.world_ties.push_joints_asleep.Goals as goal

pub loop-next-init : goal.loop-next-init
loop-next-init c =
    let thread = list_at c.args.sets.now.sets c.args.name in
    let at = joint_tie_in c.args.bodies.now (slots_of c.args.joint_entries.now c.args.joints.now) in
    let all = asleep_ties (asleep_under c.args.bodies.now) c.args.name (all_joint_ties c.args.bodies.now (slots_of c.args.joint_entries.now c.args.joints.now)) in
    let room = room_by c.args.list.now.items all (filter_map at thread) (vec_capacity c.args.list.now) (asleep_joints c.args.bodies.now (slots_of c.args.joint_entries.now c.args.joints.now) c.args.sets.now c.args.name c.requires.slots c.requires.standing (c.know_sets.ensures.those c.args.name) (c.know_sets.ensures.once c.args.name)) c.requires.room in
    record { pushing = pushing_first at thread c.first-next.result c.args.list.now.items (vec_capacity c.args.list.now) c.first-next.ensures room; capacity = omega arith }

pub put_some-requires : goal.put_some-requires
put_some-requires c = λ there.
    let thread = list_at c.args.sets.now.sets c.args.name in
    let at = joint_tie_in c.args.bodies.now (slots_of c.args.joint_entries.now c.args.joints.now) in
    let few = pushing_room at thread c.loop-next.next c.in-Some.slot c.args.list.now.items c.loop-next.list.items (vec_capacity c.args.list.now) c.joint_tie_in.result c.loop-next.invariant.pushing c.in-Some.is c.joint_tie_in.ensures there in
    omega (arith, few, c.loop-next.invariant.capacity, c.loop-next.list.ok.0)

pub loop-next-smaller : goal.loop-next-smaller
loop-next-smaller c =
    let thread = list_at c.args.sets.now.sets c.args.name in
    let once = c.know_sets.ensures.once c.args.name in
    let f = c.loop-next.invariant.pushing in
    let here = walk_at thread c.loop-next.next c.in-Some.slot f.met f.left f.walk c.in-Some.is in
    rw c.in-Some.is (walk_fewer thread c.in-Some.slot f.met f.left c.behind-next.result once here (c.behind-next.ensures c.args.name f.met here.back here.whole))

pub loop-next-preserved : goal.loop-next-preserved
loop-next-preserved c =
    let thread = list_at c.args.sets.now.sets c.args.name in
    let at = joint_tie_in c.args.bodies.now (slots_of c.args.joint_entries.now c.args.joints.now) in
    record {
      pushing = pushing_more at thread c.loop-next.next c.in-Some.slot c.behind-next.result c.args.list.now.items c.loop-next.list.items c.put_some.new.items.items (vec_capacity c.args.list.now) c.joint_tie_in.result c.loop-next.invariant.pushing c.in-Some.is c.joint_tie_in.ensures c.put_some.ensures.items (λ front back e. c.behind-next.ensures c.args.name front back e);
      capacity = omega (arith, c.loop-next.invariant.capacity, c.put_some.ensures.capacity);
    }

pub returns-clause-pushed : goal.returns-clause-pushed
returns-clause-pushed c =
    let thread = list_at c.args.sets.now.sets c.args.name in
    let at = joint_tie_in c.args.bodies.now (slots_of c.args.joint_entries.now c.args.joints.now) in
    let all = asleep_ties (asleep_under c.args.bodies.now) c.args.name (all_joint_ties c.args.bodies.now (slots_of c.args.joint_entries.now c.args.joints.now)) in
    told_by c.args.list.now.items all (filter_map at thread) c.loop-next.list.items (asleep_joints c.args.bodies.now (slots_of c.args.joint_entries.now c.args.joints.now) c.args.sets.now c.args.name c.requires.slots c.requires.standing (c.know_sets.ensures.those c.args.name) (c.know_sets.ensures.once c.args.name)) (pushing_all at thread c.loop-next.next c.args.list.now.items c.loop-next.list.items (vec_capacity c.args.list.now) c.loop-next.invariant.pushing c.in_default.is)
