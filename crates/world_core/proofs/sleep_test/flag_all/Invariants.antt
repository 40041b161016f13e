use Rattle.std.proofs.Common.{List, ℕ}
use Rattle.world_core.specs.Quiet.{HasFlagged, ShortTimersAgree}
use Rattle.world_core.proofs.sleep_test.flag_all.Given as goal

abbrev pub invariant-loop-place : goal.invariant-loop-place
invariant-loop-place l = (names timers : List ℕ) → ShortTimersAgree l.bodies timers → HasFlagged names l.islands.labels timers l.fn.flags.items → HasFlagged names l.islands.labels timers l.flags.items
