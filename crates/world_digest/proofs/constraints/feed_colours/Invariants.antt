use Rattle.std.proofs.Common.{◌≡◌}
use Rattle.graph_colours.specs.Colours.{ids_of}
use Rattle.world_digest.specs.ConstraintWords.{colours_words}
use Rattle.world_digest.specs.Sums.{absorbed_all}
use Rattle.world_digest.proofs.constraints.feed_colours.Given as goal

abbrev pub invariant-loop-colour : goal.invariant-loop-colour
invariant-loop-colour l = l.sums ≡ absorbed_all l.fn.sums (colours_words (ids_of l.colours.lists) l.colour)
