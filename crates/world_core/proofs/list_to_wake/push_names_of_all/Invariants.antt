use Rattle.std.proofs.Common.{take}
use Rattle.world_core.specs.Waking.{HasName, OfAll}
use Rattle.world_core.proofs.list_to_wake.push_names_of_all.Given as goal

abbrev pub invariant-loop-place : goal.invariant-loop-place
invariant-loop-place l = OfAll (HasName l.sets.acting.labels l.names.items) (take l.place l.changes)
