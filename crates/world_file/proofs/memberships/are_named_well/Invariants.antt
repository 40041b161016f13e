use Rattle.std.proofs.Common.{◌≡◌, drop}
use Rattle.world_file.specs.Fitting.{are_named_well}
use Rattle.world_file.proofs.memberships.are_named_well.Given as goal

abbrev pub invariant-loop-slot : goal.invariant-loop-slot
invariant-loop-slot l = are_named_well l.memberships l.slot (drop l.slot l.memberships) ≡ are_named_well l.memberships 0 l.memberships
