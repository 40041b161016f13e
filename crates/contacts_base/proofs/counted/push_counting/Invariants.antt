use Rattle.std.proofs.Common.{◌≡◌, ◌++◌, drop}
use Rattle.contacts_base.specs.Split.{counting}
use Rattle.contacts_base.proofs.counted.push_counting.Given as goal

abbrev pub invariant-loop-index : goal.invariant-loop-index
invariant-loop-index l = l.all.items ++ counting (drop l.index l.over) (drop l.index l.more) ≡ l.fn.all.items ++ counting (drop l.place l.over) (drop l.place l.more)
