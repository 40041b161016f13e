use Rattle.std.proofs.Common.{◌≡◌, ◌++◌, drop}
use Rattle.contacts_base.specs.Merge.{below_of, beyond_of}
use Rattle.contacts_base.proofs.ascending.push_below.Given as goal

abbrev pub invariant-loop-index : goal.invariant-loop-index
invariant-loop-index g l = record {
  pushed : l.all.items ++ below_of g.T.Numbered.number l.item (drop l.index l.more) ≡ l.fn.all.items ++ below_of g.T.Numbered.number l.item (drop l.place l.more);
  left : beyond_of g.T.Numbered.number l.item (drop l.index l.more) ≡ beyond_of g.T.Numbered.number l.item (drop l.place l.more);
}
