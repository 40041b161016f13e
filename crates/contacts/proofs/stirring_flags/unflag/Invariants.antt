use Rattle.std.proofs.Common.{drop}
use Rattle.packed_sets.proofs.MarkLaws.{AreLeft}
use Rattle.contacts.proofs.stirring_flags.unflag.Given as goal

abbrev pub invariant-loop-place : goal.invariant-loop-place
invariant-loop-place l = AreLeft l.fn.flags.items l.flags.items (drop l.place l.flagged)
