use Rattle.std.proofs.Common.{◌≡◌, take}
use Rattle.solver_sets.specs.BesideByTies.{first_movers}
use Rattle.world_core.proofs.world.sleeping.list_first.Given as goal

abbrev pub invariant-loop-place : goal.invariant-loop-place
invariant-loop-place l = l.slots.items ≡ first_movers (take l.place l.ties)
