use Rattle.std.proofs.Common.{◌≡◌, drop, None}
use Rattle.sleep_wake.specs.Resting.{least_at}
use Rattle.sleep_wake.proofs.AwakeSlotsLaws.{longest_among}
use Rattle.sleep_wake.proofs.phase.longest_ready.Given as goal

abbrev pub invariant-loop-place : goal.invariant-loop-place
invariant-loop-place l = longest_among (least_at l.leasts) l.islands.labels l.best (drop l.place l.awake) ≡ longest_among (least_at l.leasts) l.islands.labels None l.awake
