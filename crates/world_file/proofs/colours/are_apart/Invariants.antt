use Rattle.std.proofs.Common.{◌≡◌}
use Rattle.std.specs.List.{list_all}
use Rattle.world_file.specs.Fitting.{share_no_mover, colours_below}
use Rattle.world_file.proofs.colours.are_apart.Given as goal

abbrev pub invariant-loop-colour : goal.invariant-loop-colour
invariant-loop-colour l = l.apart ≡ list_all share_no_mover (colours_below l.ties l.colour)
