use Rattle.world_core.proofs.ClearedLaws.{AreFirstCleared}
use Rattle.world_core.proofs.sleep_test.clear_flags.Given as goal

abbrev pub invariant-loop-place : goal.invariant-loop-place
invariant-loop-place l = AreFirstCleared l.awake l.place l.flags.items
