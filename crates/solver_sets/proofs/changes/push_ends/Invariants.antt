use Rattle.std.proofs.Common.{◌≡◌, ◌++◌, drop}
use Rattle.solver_sets.specs.Merging.{all_ends}
use Rattle.solver_sets.proofs.changes.push_ends.Given as goal

abbrev pub invariant-loop-place : goal.invariant-loop-place
invariant-loop-place l = l.changes.items ++ all_ends l.bodies (drop l.place l.ends) ≡ l.fn.changes.items ++ all_ends l.bodies (drop l.from l.ends)
