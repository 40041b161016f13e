use Rattle.std.proofs.Common.{◌≡◌, ◌++◌, drop}
use Rattle.contacts_base.specs.Contacts.{number_of}
use Rattle.contacts_base.specs.Merge.{below_of, beyond_of}
use Rattle.contacts_base.specs.Split.{counting}
use Rattle.contacts_base.proofs.counted.push_counting_below.Given as goal

abbrev pub invariant-loop-index : goal.invariant-loop-index
invariant-loop-index l = record {
  pushed : l.all.items ++ below_of number_of l.entry (counting (drop l.index l.over) (drop l.index l.more)) ≡ l.fn.all.items ++ below_of number_of l.entry (counting (drop l.place l.over) (drop l.place l.more));
  left : beyond_of number_of l.entry (counting (drop l.index l.over) (drop l.index l.more)) ≡ beyond_of number_of l.entry (counting (drop l.place l.over) (drop l.place l.more));
}
