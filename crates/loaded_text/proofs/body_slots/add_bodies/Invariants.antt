use Rattle.loaded_text.proofs.SlotLaws.{BodiesSoFar}
use Rattle.loaded_text.proofs.body_slots.add_bodies.Given as goal

abbrev pub invariant-loop-count : goal.invariant-loop-count
invariant-loop-count l = BodiesSoFar l.count l.fn.bodies l.bodies l.initial.text.rest.now l.text.rest.now
