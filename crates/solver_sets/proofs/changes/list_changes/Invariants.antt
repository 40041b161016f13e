use Rattle.std.proofs.Common.{◌≡◌, ◌≤◌, ◌++◌, drop, length}
use Rattle.solver_sets.specs.Merging.{merged}
use Rattle.solver_sets.proofs.changes.list_changes.Given as goal

abbrev pub invariant-loop-key : goal.invariant-loop-key
invariant-loop-key l = record {
  changes : l.changes.items ++ merged l.bodies (drop l.key-index l.begins) (drop l.place l.ends) ≡ merged l.bodies l.begins l.ends;
  within : l.place ≤ length l.ends;
}
