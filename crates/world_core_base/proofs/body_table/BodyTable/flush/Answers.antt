use Rattle.std.proofs.Common.{arith, refl}
use Rattle.colour_solver.specs.States.{is_carried, moves}
use Rattle.world_core_base.proofs.ListingLaws.{listed_exactly}
use Rattle.world_core_base.proofs.body_table.BodyTable.flush.Goals as goal

pub invariant_of-self : goal.invariant_of-self
invariant_of-self c = record {
  states = c.self.invariant.states;
  movers = listed_exactly moves c.self.inside.states.items c.flush.new.self refl (rw c.deref.ensures.value at c.flush.ensures.slots);
  along = listed_exactly is_carried c.self.inside.states.items c.flush-2.new.self refl (rw c.deref-2.ensures.value at c.flush-2.ensures.slots);
  few = c.self.invariant.few;
  for_bodies = c.self.invariant.for_bodies;
  for_states = c.self.invariant.for_states;
  for_awake = omega (arith, c.flush.ensures.capacity, c.self.invariant.for_awake);
  for_carried = omega (arith, c.flush-2.ensures.capacity, c.self.invariant.for_carried);
  for_marks = c.self.invariant.for_marks;
  covered = c.self.invariant.covered;
  for_boxes = c.self.invariant.for_boxes;
}
