use Rattle.std.proofs.Common.{◌≡◌, ◌<◌, ◌^◌, Ok, sym}
use Rattle.plain_world.specs.Slots as slots
use Rattle.world_rules.specs.Apply.{posed}
use Rattle.world_core.specs.contracts.world.WorldCore.{the_view}
use Rattle.world_core.proofs.Whole.{may_pose, pose_fits}
use Rattle.world_core.proofs.world.WorldCore.set_pose.Goals as goal

pub change_stirred-requires-clause-present : goal.change_stirred-requires-clause-present
change_stirred-requires-clause-present c = rw (← c.self.view_is, ← c.bodies.ensures) c.in_ok-pose.ensures.present

pub change_stirred-requires-clause-fits : goal.change_stirred-requires-clause-fits
change_stirred-requires-clause-fits c = rw (← c.self.view_is) (pose_fits (the_view c.self.inside) c.args.handle.slot c.in_ok-pose.pose c.self.inside.activity.sets.acting c.self.invariant.whole c.in_ok-pose.ensures.pose)

pub change_stirred-requires-clause-may : goal.change_stirred-requires-clause-may
change_stirred-requires-clause-may c =
    let calls : c.self.inside.calls < 2 ^ 40 = rw (← c.self.view_is) at c.requires in
    let due : posed (slots.body_of c.self.inside.handles.slot_entries c.self.inside.activity.bodies.bodies c.args.handle) c.args.pose ≡ Ok c.in_ok-pose.pose = rw (← c.bodies.ensures) (sym c.in_ok-pose.ensures.value) in
    rw (← c.self.view_is) (may_pose (the_view c.self.inside) c.args.handle c.args.pose c.in_ok-pose.pose c.self.inside.activity.sets.acting c.self.invariant.whole calls due c.in_ok-pose.ensures.pose)
