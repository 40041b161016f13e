use Rattle.std.proofs.Common.{◌≡◌, ◌≤◌, ◌++◌, drop, length}
use Rattle.contacts_base.specs.Contacts.{number_of}
use Rattle.contacts_base.specs.Merge.{merged}
use Rattle.contacts_base.specs.ShortLists.{counted_from, counted_in}
use Rattle.contacts_base.specs.Split.{counting}
use Rattle.contacts_base.proofs.split.join.Given as goal

abbrev pub invariant-loop-place : goal.invariant-loop-place
invariant-loop-place l = record {
  within : l.next ≤ length l.short.entries;
  joined : (l.all.items ++ merged number_of (counting (drop l.place l.over) (drop l.place l.long)) (counted_from l.next l.short)) ≡ merged number_of (counting l.over l.long) (counted_in l.short);
}
