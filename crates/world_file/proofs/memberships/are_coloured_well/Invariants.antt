use Rattle.std.proofs.Common.{◌≡◌, drop}
use Rattle.std.specs.List.{list_all}
use Rattle.world_file.specs.Fitting.{is_coloured_well}
use Rattle.world_file.proofs.memberships.are_coloured_well.Given as goal

abbrev pub invariant-loop-tie : goal.invariant-loop-tie
invariant-loop-tie l = list_all (is_coloured_well l.memberships) (drop l.tie-index l.ties) ≡ list_all (is_coloured_well l.memberships) l.ties
