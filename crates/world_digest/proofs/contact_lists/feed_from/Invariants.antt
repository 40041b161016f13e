use Rattle.std.proofs.Common.{◌≡◌, flat_map}
use Rattle.contacts_base.specs.ShortLists.{counted_from}
use Rattle.world_digest.specs.ConstraintWords.{contact_words}
use Rattle.world_digest.specs.Sums.{absorbed_all}
use Rattle.world_digest.proofs.contact_lists.feed_from.Given as goal

abbrev pub invariant-loop-index : goal.invariant-loop-index
invariant-loop-index l = absorbed_all l.sums (flat_map contact_words (counted_from l.index l.short)) ≡ absorbed_all l.fn.sums (flat_map contact_words (counted_from l.place l.short))
