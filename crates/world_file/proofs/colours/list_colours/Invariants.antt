use Rattle.std.proofs.Common.{◌≡◌}
use Rattle.plain_world.specs.KeptColours.{constraints_of}
use Rattle.world_file.specs.Fitting.{ids_below}
use Rattle.world_file.proofs.colours.list_colours.Given as goal

abbrev pub invariant-loop-colour : goal.invariant-loop-colour
invariant-loop-colour l = constraints_of l.colours.items ≡ ids_below l.ties l.colour
