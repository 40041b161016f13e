use Rattle.std.proofs.Common.{◌≡◌, ◌++◌, drop}
use Rattle.solver_sets.specs.Merging.{ends_from, ends_until}
use Rattle.solver_sets.proofs.changes.push_ends_until.Given as goal

abbrev pub invariant-loop-place : goal.invariant-loop-place
invariant-loop-place l = record {
  changes : l.changes.items ++ ends_until l.bodies l.key (drop l.place l.ends) ≡ l.fn.changes.items ++ ends_until l.bodies l.key (drop l.from l.ends);
  left : ends_from l.key (drop l.place l.ends) ≡ ends_from l.key (drop l.from l.ends);
}
