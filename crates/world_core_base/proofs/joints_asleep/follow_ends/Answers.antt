use Rattle.std.proofs.Common.{refl, ◌∙◌, get_or, arith, length}
use Rattle.std.specs.Prelude.{◌/◌}
use Rattle.world_core_base.specs.Asleep.{joint_sleep}
use Rattle.world_core_base.proofs.FollowLaws.{halves_all, halves_first, halves_more}
use Rattle.world_core_base.proofs.joints_asleep.follow_ends.Goals as goal

pub loop-place-init : goal.loop-place-init
loop-place-init c = (halves_first (joint_sleep c.args.bodies.now c.args.joints.now) c.args.ends.now c.args.sets.now.names, refl)

pub follow-requires-clause-below : goal.follow-requires-clause-below
follow-requires-clause-below c name e =
    let less = c.requires.below (get_or c.args.ends.now c.loop-place.place 0 / 2) name (rw c.joint_sleep.ensures at e) in
    let long = c.loop-place.invariant.0.long in
    omega (arith, less, long)

pub follow-requires-clause-named : goal.follow-requires-clause-named
follow-requires-clause-named c name e =
    let less = c.requires.named (get_or c.args.ends.now c.loop-place.place 0 / 2) name (rw c.joint_sleep.ensures at e) in
    let same = c.loop-place.invariant.1 in
    omega (arith, less, same)

pub loop-place-preserved : goal.loop-place-preserved
loop-place-preserved c = (
  halves_more (joint_sleep c.args.bodies.now c.args.joints.now) c.args.ends.now c.loop-place.place (get_or c.args.ends.now c.loop-place.place 0 / 2) (length c.args.sets.now.sets) c.args.sets.now.names c.loop-place.sets.names c.follow.new.sets.names refl c.requires c.loop-place.invariant.0
      (rw c.joint_sleep.ensures at c.follow.ensures.names),
  c.follow.ensures.sets ∙ c.loop-place.invariant.1,
)

pub returns-clause-followed : goal.returns-clause-followed
returns-clause-followed c = halves_all (joint_sleep c.args.bodies.now c.args.joints.now) c.args.ends.now c.loop-place.place c.args.sets.now.names c.loop-place.sets.names c.loop-place-test.false c.loop-place.invariant.0

pub returns-clause-sets : goal.returns-clause-sets
returns-clause-sets c = c.loop-place.invariant.1
