use Rattle.std.proofs.Common.{◌≡◌, ◌++◌, drop, map}
use Rattle.world_desk.specs.Logs.{touched}
use Rattle.world_desk.proofs.log.list_touches.Given as goal

abbrev pub invariant-loop-key : goal.invariant-loop-key
invariant-loop-key l = l.events.items ++ map (touched l.begun l.tags l.world.plain) (drop l.key-index l.keys) ≡ map (touched l.begun l.tags l.world.plain) l.keys
