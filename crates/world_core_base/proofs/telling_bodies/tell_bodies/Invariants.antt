use Rattle.world_core_base.proofs.TellLaws.{HasTold}
use Rattle.world_core_base.proofs.telling_bodies.tell_bodies.Given as goal

abbrev pub invariant-loop-slot : goal.invariant-loop-slot
invariant-loop-slot l = HasTold l.islands.labels l.fn.bodies.items l.slot l.bodies.items l.states.items l.gain
