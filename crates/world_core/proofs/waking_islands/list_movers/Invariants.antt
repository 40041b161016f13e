use Rattle.world_core.proofs.TellingLaws.{HasFirst}
use Rattle.world_core.proofs.waking_islands.list_movers.Given as goal

abbrev pub invariant-loop-place : goal.invariant-loop-place
invariant-loop-place l = HasFirst l.sets.acting.labels l.slots l.place l.movers.items
