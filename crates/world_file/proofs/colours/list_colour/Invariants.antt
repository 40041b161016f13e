use Rattle.std.proofs.Common.{◌≡◌, ◌++◌, drop}
use Rattle.world_file.specs.Fitting.{ids_coloured}
use Rattle.world_file.proofs.colours.list_colour.Given as goal

abbrev pub invariant-loop-tie : goal.invariant-loop-tie
invariant-loop-tie l = l.ids.items ++ ids_coloured (drop l.tie-index l.ties) l.colour ≡ ids_coloured l.ties l.colour
