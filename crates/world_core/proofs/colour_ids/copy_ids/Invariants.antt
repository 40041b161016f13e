use Rattle.std.proofs.Common.{◌≡◌, ◌++◌, drop}
use Rattle.graph_colours.specs.Colours.{ids_of}
use Rattle.plain_world.specs.KeptColours.{constraints_of}
use Rattle.world_core.proofs.colour_ids.copy_ids.Given as goal

abbrev pub invariant-loop-colour : goal.invariant-loop-colour
invariant-loop-colour l = constraints_of l.copied.items ++ ids_of (drop l.colour l.colours.lists) ≡ ids_of l.colours.lists
