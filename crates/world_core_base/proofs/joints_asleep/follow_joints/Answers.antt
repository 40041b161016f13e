use Rattle.std.proofs.Common.{ℕ, Bool, List, refl, ◌∙◌, get_or, drop, length}
use Rattle.std.specs.Prelude.{Contains, Option}
use Rattle.packed_sets.specs.Packs.{list_at}
use Rattle.plain_world.specs.Joints.{is_end_in, joint_at}
use Rattle.plain_world.specs.declared.joint.BodyJoint.{BodyJoint}
use Rattle.world_core_base.specs.Asleep.{IsOfNone, joint_sleep}
use Rattle.world_core_base.specs.JointEnds.{halves}
use Rattle.world_core_base.proofs.FollowLaws.{can_now}
use Rattle.world_core_base.proofs.OwnJointLaws.{all_ends}
use Rattle.world_core_base.proofs.TieSleepLaws.{beside_all, beside_first, beside_more}
use Rattle.world_core_base.proofs.joints_asleep.follow_joints.Goals as goal

-- the body in a slot is an end of the joint in another
abbrev is_end : List (Option BodyJoint) → ℕ → ℕ → Bool
is_end joints body slot = is_end_in body (joint_at joints slot)

pub loop-place-init : goal.loop-place-init
loop-place-init c = (beside_first (joint_sleep c.args.bodies.now c.args.joints.now) (is_end c.args.joints.now) c.args.slots.now c.args.sets.now.names c.requires.others, refl)

pub follow_ends-requires : goal.follow_ends-requires
follow_ends-requires c = can_now (joint_sleep c.args.bodies.now c.args.joints.now) (λ slot. IsOfNone (drop c.loop-place.place c.args.slots.now) (joint_at c.args.joints.now slot)) c.args.sets.now.names c.loop-place.sets.names (length c.loop-place.sets.sets) (length c.args.sets.now.sets) c.requires.can c.loop-place.invariant.0 c.loop-place.invariant.1

pub loop-place-preserved : goal.loop-place-preserved
loop-place-preserved c =
    let joints = c.args.joints.now in
    let ends = c.args.ends.now.sets in
    let body = get_or c.args.slots.now c.loop-place.place 0 in (
      beside_more (joint_sleep c.args.bodies.now joints) (is_end joints) c.args.slots.now c.loop-place.place body 0 (Contains (halves (list_at ends body))) c.args.sets.now.names c.loop-place.sets.names c.follow_ends.new.sets.names c.loop-place-test.true refl
          (λ slot own. all_ends joints ends body slot c.requires.ends own) c.loop-place.invariant.0 (rw c.members.ensures.value at c.follow_ends.ensures.followed),
      c.follow_ends.ensures.sets ∙ c.loop-place.invariant.1,
    )

pub returns-clause-asleep : goal.returns-clause-asleep
returns-clause-asleep c = beside_all (joint_sleep c.args.bodies.now c.args.joints.now) (is_end c.args.joints.now) c.args.slots.now c.loop-place.place c.args.sets.now.names c.loop-place.sets.names c.loop-place-test.false c.loop-place.invariant.0

pub returns-clause-items : goal.returns-clause-items
returns-clause-items c = c.loop-place.invariant.0.long

pub returns-clause-sets : goal.returns-clause-sets
returns-clause-sets c = c.loop-place.invariant.1
