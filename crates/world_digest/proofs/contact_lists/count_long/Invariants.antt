use Rattle.std.proofs.Common.{◌≡◌, ◌≤◌, ◌+◌, drop, length}
use Rattle.contacts_base.specs.Split.{counting}
use Rattle.world_digest.proofs.contact_lists.count_long.Given as goal

abbrev pub invariant-loop-place : goal.invariant-loop-place
invariant-loop-place l = record {
  sum : l.count + length (counting (drop l.place l.contacts.over) (drop l.place l.contacts.long)) ≡ length (counting l.contacts.over l.contacts.long);
  low : l.count ≤ l.place;
}
