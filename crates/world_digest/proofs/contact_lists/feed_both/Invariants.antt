use Rattle.std.proofs.Common.{◌≡◌, ◌≤◌, drop, flat_map, length}
use Rattle.contacts_base.specs.Contacts.{number_of}
use Rattle.contacts_base.specs.Merge.{merged}
use Rattle.contacts_base.specs.ShortLists.{counted_from}
use Rattle.contacts_base.specs.Split.{contacts_in, counting}
use Rattle.world_digest.specs.ConstraintWords.{contact_words}
use Rattle.world_digest.specs.Sums.{absorbed_all}
use Rattle.world_digest.proofs.contact_lists.feed_both.Given as goal

abbrev pub invariant-loop-place : goal.invariant-loop-place
invariant-loop-place l = record {
  within : l.next ≤ length l.short.entries;
  told : absorbed_all l.sums (flat_map contact_words (merged number_of (counting (drop l.place l.contacts.over) (drop l.place l.contacts.long)) (counted_from l.next l.short))) ≡ absorbed_all l.fn.sums (flat_map contact_words (contacts_in l.contacts));
}
