use Rattle.std.proofs.Common.{◌≡◌, drop, flat_map}
use Rattle.world_digest.specs.Sums.{absorbed_all}
use Rattle.world_digest.proofs.words.feed_all.Given as goal

abbrev pub invariant-loop-item : goal.invariant-loop-item
invariant-loop-item g l = absorbed_all l.sums (flat_map g.T.Words.words (drop l.item-index l.items)) ≡ absorbed_all l.initial.sums (flat_map g.T.Words.words l.items)
