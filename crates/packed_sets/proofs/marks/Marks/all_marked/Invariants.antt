use Rattle.std.proofs.Common.{◌≡◌, true, replicate}
use Rattle.packed_sets.proofs.marks.Marks.all_marked.Given as goal

abbrev pub invariant-loop : goal.invariant-loop
invariant-loop l = l.marks ≡ replicate l.counter true
