use Rattle.std.proofs.Common.{◌≡◌, ◌++◌, drop, map}
use Rattle.world_desk.specs.Logs.{rested}
use Rattle.world_desk.proofs.log.list_rests.Given as goal

abbrev pub invariant-loop-body : goal.invariant-loop-body
invariant-loop-body l = l.events.items ++ map (rested l.slept l.tags l.world.plain) (drop l.body-index l.bodies) ≡ map (rested l.slept l.tags l.world.plain) l.bodies
