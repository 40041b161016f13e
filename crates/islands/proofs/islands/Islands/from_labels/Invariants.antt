use Rattle.std.proofs.Common.{◌≡◌, length}
use Rattle.islands.proofs.GivenLaws.{AreFirst}
use Rattle.islands.proofs.islands.Islands.from_labels.Given as goal

abbrev pub invariant-loop-slot : goal.invariant-loop-slot
invariant-loop-slot l = record {
  first : AreFirst l.labels l.slot l.islands.labels;
  room : l.islands.room ≡ length l.labels;
}
