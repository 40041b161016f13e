use Rattle.std.proofs.Common.{◌≡◌, flat_map}
use Rattle.contacts_base.specs.Contacts.{number_of}
use Rattle.contacts_base.specs.Merge.{below_of, beyond_of}
use Rattle.contacts_base.specs.ShortLists.{counted_from}
use Rattle.world_digest.specs.ConstraintWords.{contact_words}
use Rattle.world_digest.specs.Sums.{absorbed_all}
use Rattle.world_digest.proofs.contact_lists.feed_below.Given as goal

abbrev pub invariant-loop-index : goal.invariant-loop-index
invariant-loop-index l = record {
  fed : absorbed_all l.sums (flat_map contact_words (below_of number_of l.entry (counted_from l.index l.short))) ≡ absorbed_all l.fn.sums (flat_map contact_words (below_of number_of l.entry (counted_from l.place l.short)));
  left : beyond_of number_of l.entry (counted_from l.index l.short) ≡ beyond_of number_of l.entry (counted_from l.place l.short);
}
