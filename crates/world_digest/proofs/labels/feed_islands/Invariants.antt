use Rattle.std.proofs.Common.{◌≡◌, drop, flat_map}
use Rattle.world_digest.specs.BodyWords.{label_words}
use Rattle.world_digest.specs.Sums.{absorbed_all, list_words, option_words}
use Rattle.world_digest.proofs.labels.feed_islands.Given as goal

abbrev pub invariant-loop-slot : goal.invariant-loop-slot
invariant-loop-slot l = absorbed_all l.sums (flat_map (option_words label_words) (drop l.slot l.islands.labels)) ≡ absorbed_all l.fn.sums (list_words (option_words label_words) l.islands.labels)
