use Rattle.std.proofs.Common.{List, ℕ}
use Rattle.world_core.specs.Quiet.{HasFlagged, KeepFlags}
use Rattle.world_core.proofs.kept_awake.flag_beside.Given as goal

abbrev pub invariant-loop-colour : goal.invariant-loop-colour
invariant-loop-colour l = (names timers : List ℕ) → KeepFlags l.islands.labels l.bodies l.constraints.joints.joints l.constraints.contacts.contacts timers → HasFlagged names l.islands.labels timers l.fn.flags.items → HasFlagged names l.islands.labels timers l.flags.items
