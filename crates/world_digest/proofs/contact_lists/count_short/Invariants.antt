use Rattle.std.proofs.Common.{◌≡◌, ◌≤◌, ◌+◌, length}
use Rattle.contacts_base.specs.ShortLists.{counted_from, counted_in}
use Rattle.world_digest.proofs.contact_lists.count_short.Given as goal

abbrev pub invariant-loop-place : goal.invariant-loop-place
invariant-loop-place l = record {
  sum : l.count + length (counted_from l.place l.short) ≡ length (counted_in l.short);
  low : l.count ≤ l.place;
}
