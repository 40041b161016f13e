use Rattle.std.proofs.Common.{◌≡◌, ◌+◌, ◌≤◌, length, ap, sym, ◌∙◌, arith, refl}
use Rattle.body_handles.specs.declared.slot_table.TheConstants.{MAX_SLOTS}
use Rattle.fixed_geom.specs.Vectors.{plus}
use Rattle.fixed_geom.specs.declared.vectors.Vec2.{Vec2}
use Rattle.colour_solver.specs.States.{is_carried, moves, total}
use Rattle.colour_solver.specs.Ticks.{added}
use Rattle.colour_solver.proofs.CourseLaws.{carried_beside, movers_beside}
use Rattle.colour_solver.proofs.TickLaws.{rows_as_long}
use Rattle.plain_world.specs.Bodies.{AreBodies}
use Rattle.world_core_base.proofs.ListingLaws.{listed_exactly}
use Rattle.world_core_base.proofs.GatherLaws.{length-states, total-gathered}
use Rattle.world_core_base.proofs.AsleepLaws.{alike_moved}
use Rattle.world_core_base.proofs.body_table.BodyTable.run.Goals as goal

pub run_step-sums-requires : goal.run_step-sums-requires
run_step-sums-requires g c =
    let flushed : c.self.inside.awake.pending + c.self.inside.carried.pending ≡ 0 = rw (← c.self.view_is) at c.requires.flushed in
    let few : length c.self.inside.bodies.items ≤ MAX_SLOTS = rw (← c.self.view_is) at c.requires.few in
    let long : length c.self.inside.states.items ≡ length c.self.inside.bodies.items = ap length c.self.invariant.states ∙ length-states c.self.inside.bodies.items in
    record {
      can_run = record {
        few = omega (arith, few, long);
        gravity = c.requires.gravity;
        count = c.requires.count;
        awake = c.as_slice.ensures ∙ c.self.invariant.movers.exact (omega (arith, flushed));
        carried = c.as_slice-2.ensures ∙ c.self.invariant.along.exact (omega (arith, flushed));
        flushed = c.requires.colours_flushed;
        can = (let can = rw (← c.self.view_is) at c.requires.can in rw c.self.invariant.states can);
        room = c.requires.room;
        more = c.requires.more;
      };
    }

pub move_bodies-requires-clause-awake : goal.move_bodies-requires-clause-awake
move_bodies-requires-clause-awake g c =
    let flushed : c.self.inside.awake.pending + c.self.inside.carried.pending ≡ 0 = rw (← c.self.view_is) at c.requires.flushed in
    c.as_slice-3.ensures ∙ c.self.invariant.movers.exact (omega (arith, flushed)) ∙ sym (movers_beside c.self.inside.states.items c.run_step-sums.new.states.items c.run_step-sums.ensures.has_run.left.same)

pub move_bodies-requires-clause-carried : goal.move_bodies-requires-clause-carried
move_bodies-requires-clause-carried g c =
    let flushed : c.self.inside.awake.pending + c.self.inside.carried.pending ≡ 0 = rw (← c.self.view_is) at c.requires.flushed in
    c.as_slice-4.ensures ∙ c.self.invariant.along.exact (omega (arith, flushed)) ∙ sym (carried_beside c.self.inside.states.items c.run_step-sums.new.states.items c.run_step-sums.ensures.has_run.left.same)

pub move_bodies-requires-clause-bodies : goal.move_bodies-requires-clause-bodies
move_bodies-requires-clause-bodies g c = rw (← c.self.view_is) at c.requires.bodies

pub returns-clause-impulses : goal.returns-clause-impulses
returns-clause-impulses g c = rw (← c.self.view_is, ← c.self.invariant.states) c.run_step-sums.ensures.has_run.impulses

pub returns-clause-bodies : goal.returns-clause-bodies
returns-clause-bodies g c = rw (← c.self.view_is, ← c.self.invariant.states, ← c.run_step-sums.ensures.has_run.left.states_are) c.move_bodies.ensures.value

pub returns-clause-rows : goal.returns-clause-rows
returns-clause-rows g c =
    let long : length c.self.inside.bodies.items ≡ length c.run_step-sums.new.states.items = sym (c.run_step-sums.ensures.has_run.left.long ∙ ap length c.self.invariant.states ∙ length-states c.self.inside.bodies.items) in
    rw (← c.self.view_is, ← c.self.invariant.states) (rows_as_long (length c.self.inside.bodies.items) (length c.run_step-sums.new.states.items) _ long c.run_step-sums.ensures.has_run.left.rows)

pub returns-clause-momentum : goal.returns-clause-momentum
returns-clause-momentum g c =
    let bodies : AreBodies c.self.inside.bodies.items = rw (← c.self.view_is) at c.requires.bodies in
    rw (← c.self.view_is)
    (c.move_bodies.ensures.momentum ∙ c.run_step-sums.ensures.has_run.left.momentum ∙ ap (λ (v : Vec2). plus v (added c.run_step-sums.result)) (ap total c.self.invariant.states ∙ total-gathered c.self.inside.bodies.items bodies))

pub returns-clause-asleep : goal.returns-clause-asleep
returns-clause-asleep g c = rw (← c.self.view_is, c.move_bodies.ensures.value) (alike_moved c.self.inside.bodies.items c.run_step-sums.new.states.items)

pub returns-clause-marked : goal.returns-clause-marked
returns-clause-marked g c = rw (← c.self.view_is) c.move_bodies.ensures.marked

pub invariant_of-self : goal.invariant_of-self
invariant_of-self g c =
    let same : length c.move_bodies.new.bodies.items ≡ length c.self.inside.bodies.items = c.move_bodies.ensures.slots.slots in
    record {
      states = c.move_bodies.ensures.states;
      movers = listed_exactly moves c.move_bodies.new.states.items c.self.inside.awake refl (sym c.as_slice-3.ensures ∙ c.move_bodies.ensures.awake);
      along = listed_exactly is_carried c.move_bodies.new.states.items c.self.inside.carried refl (sym c.as_slice-4.ensures ∙ c.move_bodies.ensures.carried);
      few = omega (arith, same, c.self.invariant.few);
      for_bodies = omega arith;
      for_states = omega arith;
      for_awake = omega (arith, same, c.self.invariant.for_awake);
      for_carried = omega (arith, same, c.self.invariant.for_carried);
      for_marks = omega (arith, same, c.move_bodies.ensures.len, c.self.invariant.for_marks);
      covered = c.move_bodies.ensures.covered;
      for_boxes = omega (arith, same, c.move_bodies.ensures.boxes, c.self.invariant.for_boxes);
    }
