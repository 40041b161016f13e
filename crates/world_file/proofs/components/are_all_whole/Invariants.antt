use Rattle.std.proofs.Common.{◌≡◌, drop}
use Rattle.world_file.specs.Fitting.{are_whole}
use Rattle.world_file.proofs.components.are_all_whole.Given as goal

abbrev pub invariant-loop-slot : goal.invariant-loop-slot
invariant-loop-slot l = are_whole l.islands.labels l.slot (drop l.slot l.memberships) ≡ are_whole l.islands.labels 0 l.memberships
