use Rattle.std.proofs.Common.{◌≤◌, drop, length}
use Rattle.std.specs.Vec.{vec_capacity}
use Rattle.sleep_wake.proofs.AwakeSlotsLaws.{AreLeastOver}
use Rattle.sleep_wake.proofs.phase.list_leasts.Given as goal

abbrev pub invariant-loop-place : goal.invariant-loop-place
invariant-loop-place l = record {
  least : AreLeastOver l.islands.labels l.timers l.awake (drop l.place l.awake) l.leasts.items;
  long : length l.islands.labels ≤ length l.leasts.items;
  within : l.place ≤ length l.awake;
  capacity : vec_capacity l.fn.leasts ≤ vec_capacity l.leasts;
}

abbrev pub decreases-loop-place : goal.decreases-loop-place
decreases-loop-place l = l.place
