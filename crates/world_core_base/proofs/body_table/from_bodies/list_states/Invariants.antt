use Rattle.std.proofs.Common.{◌≡◌, take}
use Rattle.world_core_base.specs.Gather.{states_of}
use Rattle.world_core_base.proofs.body_table.from_bodies.list_states.Given as goal

abbrev pub invariant-loop-entry : goal.invariant-loop-entry
invariant-loop-entry l = l.states.items ≡ states_of (take l.entry-index l.bodies)
