use Rattle.world_core_base.proofs.TellSomeLaws.{HasToldSome}
use Rattle.world_core_base.proofs.telling_bodies.tell_listed.Given as goal

abbrev pub invariant-loop-place : goal.invariant-loop-place
invariant-loop-place l = HasToldSome l.islands.labels l.slots l.fn.bodies.items l.fn.awake.capacity l.place l.bodies.items l.states.items l.awake l.awake.capacity l.gain
