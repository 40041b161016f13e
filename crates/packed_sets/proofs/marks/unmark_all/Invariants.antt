use Rattle.std.proofs.Common.{drop}
use Rattle.packed_sets.proofs.MarkLaws.{AreLeft}
use Rattle.packed_sets.proofs.marks.unmark_all.Given as goal

abbrev pub invariant-loop-place : goal.invariant-loop-place
invariant-loop-place l = AreLeft l.fn.flags.items l.flags.items (drop l.place l.slots)
