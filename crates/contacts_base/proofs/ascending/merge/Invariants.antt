use Rattle.std.proofs.Common.{◌≡◌, ◌≤◌, ◌++◌, drop, length}
use Rattle.contacts_base.specs.Merge.{merged}
use Rattle.contacts_base.proofs.ascending.merge.Given as goal

abbrev pub invariant-loop-item : goal.invariant-loop-item
invariant-loop-item g l = record {
  within : l.place ≤ length l.second;
  merged : l.all.items ++ merged g.T.Numbered.number (drop l.item-index l.first) (drop l.place l.second) ≡ merged g.T.Numbered.number l.first l.second;
}
