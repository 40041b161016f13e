use Rattle.std.proofs.Common.{List, ℕ}
use Rattle.world_core.specs.Quiet.{HasFlagged, KeepFlags}
use Rattle.world_core.proofs.kept_awake.flag_colour.Given as goal

abbrev pub invariant-loop-place : goal.invariant-loop-place
invariant-loop-place l = (names timers : List ℕ) → KeepFlags l.islands.labels l.bodies l.constraints.joints.joints l.constraints.contacts.contacts timers → HasFlagged names l.islands.labels timers l.fn.flags.items → HasFlagged names l.islands.labels timers l.flags.items
