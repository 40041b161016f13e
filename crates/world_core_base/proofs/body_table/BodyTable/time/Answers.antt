use Rattle.std.proofs.Common.{◌≡◌, ◌+◌, length, ap, sym, subst, ◌∙◌, arith, refl}
use Rattle.colour_solver.specs.States.{movers_of}
use Rattle.plain_world.specs.Bodies.{AreBodies}
use Rattle.plain_world.specs.InSlots.{HaveSameSlots}
use Rattle.world_core_base.specs.Standing.{HaveSameStanding}
use Rattle.world_core_base.proofs.StandingLaws.{slots-timed, standing-timed}
use Rattle.world_core_base.proofs.TimeLaws.{awake_places, length-timed, states_timed, timed_are_bodies}
use Rattle.world_core_base.proofs.MarkedLaws.{marked_eq, marked_timed, timed_each}
use Rattle.world_core_base.proofs.CoverLaws.{covered_alike, covered_eq}
use Rattle.plain_world.specs.Sleep.{timed_bodies}
use Rattle.world_core_base.proofs.AsleepLaws.{alike_timed}
use Rattle.world_core_base.proofs.body_table.BodyTable.time.Goals as goal

pub time_bodies-requires-clause-bodies : goal.time_bodies-requires-clause-bodies
time_bodies-requires-clause-bodies c = rw (← c.self.view_is) at c.requires.bodies

pub time_bodies-requires-clause-awake : goal.time_bodies-requires-clause-awake
time_bodies-requires-clause-awake c =
    let flushed : c.self.inside.awake.pending + c.self.inside.carried.pending ≡ 0 = rw (← c.self.view_is) at c.requires.flushed in
    c.as_slice.ensures ∙ c.self.invariant.movers.exact (omega (arith, flushed)) ∙ ap movers_of c.self.invariant.states ∙ awake_places c.self.inside.bodies.items

pub invariant_of-self : goal.invariant_of-self
invariant_of-self c =
    let bodies = c.self.inside.bodies.items in
    let same = ap length c.time_bodies.ensures ∙ length-timed c.args.ticks bodies in
    record {
      covered = covered_eq _ _ _ _ c.time_bodies.ensures refl (covered_alike bodies (timed_bodies c.args.ticks bodies) c.self.inside.boxes (timed_each c.args.ticks bodies) c.self.invariant.covered);
      for_boxes = omega (arith, same, c.self.invariant.for_boxes);
      states = rw c.time_bodies.ensures (c.self.invariant.states ∙ sym (states_timed c.args.ticks bodies));
      movers = c.self.invariant.movers;
      along = c.self.invariant.along;
      few = omega (arith, same, c.self.invariant.few);
      for_bodies = omega arith;
      for_states = omega arith;
      for_awake = omega (arith, same, c.self.invariant.for_awake);
      for_marks = omega (arith, same, c.self.invariant.for_marks);
      for_carried = omega (arith, same, c.self.invariant.for_carried);
    }

pub returns-clause-all_bodies : goal.returns-clause-all_bodies
returns-clause-all_bodies c =
    let bodies : AreBodies c.self.inside.bodies.items = rw (← c.self.view_is) at c.requires.bodies in
    subst AreBodies (sym c.time_bodies.ensures) (timed_are_bodies c.args.ticks c.self.inside.bodies.items bodies)

pub returns-clause-slots : goal.returns-clause-slots
returns-clause-slots c =
    let bodies = c.self.inside.bodies.items in
    rw (← c.self.view_is) (subst (HaveSameSlots bodies) (sym c.time_bodies.ensures) (slots-timed c.args.ticks bodies))

pub returns-clause-standing : goal.returns-clause-standing
returns-clause-standing c =
    let bodies = c.self.inside.bodies.items in
    rw (← c.self.view_is) (subst (HaveSameStanding bodies) (sym c.time_bodies.ensures) (standing-timed c.args.ticks bodies))

pub returns-clause-asleep : goal.returns-clause-asleep
returns-clause-asleep c = rw (← c.self.view_is, c.time_bodies.ensures) (alike_timed c.args.ticks c.self.inside.bodies.items)

pub returns-clause-marked : goal.returns-clause-marked
returns-clause-marked c = rw (← c.self.view_is) (marked_eq _ _ _ _ _ _ c.time_bodies.ensures refl (marked_timed c.args.ticks c.self.inside.bodies.items c.self.inside.marks))
