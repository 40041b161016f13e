use Rattle.std.proofs.Common.{◌≡◌, ◌<◌, ◌^◌, Ok, sym}
use Rattle.plain_world.specs.Slots as slots
use Rattle.world_rules.specs.Apply.{steered}
use Rattle.world_core.specs.contracts.world.WorldCore.{the_view}
use Rattle.world_core.proofs.Whole.{course_fits, may_steer}
use Rattle.world_core.proofs.world.WorldCore.set_velocity.Goals as goal

pub change_stirred-requires-clause-present : goal.change_stirred-requires-clause-present
change_stirred-requires-clause-present c = rw (← c.self.view_is, ← c.bodies.ensures) c.in_ok-course.ensures.present

pub change_stirred-requires-clause-fits : goal.change_stirred-requires-clause-fits
change_stirred-requires-clause-fits c = rw (← c.self.view_is) (course_fits (the_view c.self.inside) c.args.handle.slot c.self.inside.activity.sets.acting c.self.invariant.whole (rw (← c.bodies.ensures) c.in_ok-course.ensures.kinematic))

pub change_stirred-requires-clause-may : goal.change_stirred-requires-clause-may
change_stirred-requires-clause-may c =
    let calls : c.self.inside.calls < 2 ^ 40 = rw (← c.self.view_is) at c.requires in
    let due : steered (slots.body_of c.self.inside.handles.slot_entries c.self.inside.activity.bodies.bodies c.args.handle) c.args.course ≡ Ok c.in_ok-course.course = rw (← c.bodies.ensures) (sym c.in_ok-course.ensures.value) in
    rw (← c.self.view_is) (may_steer (the_view c.self.inside) c.args.handle c.args.course c.in_ok-course.course c.self.inside.activity.sets.acting c.self.invariant.whole calls due)
