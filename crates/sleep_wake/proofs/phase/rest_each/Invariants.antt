use Rattle.std.proofs.Common.{◌≡◌, ◌<◌, drop}
use Rattle.std.specs.List.{AllPairs}
use Rattle.sleep_wake.specs.Resting.{least_at, all_rested}
use Rattle.sleep_wake.proofs.AwakeSlotsLaws.{ready_among}
use Rattle.sleep_wake.proofs.phase.rest_each.Given as goal

abbrev pub invariant-loop-place : goal.invariant-loop-place
invariant-loop-place l = record {
  rest : all_rested (ready_among (least_at l.leasts) l.islands.labels (drop l.place l.awake)) l.islands.labels ≡ all_rested (ready_among (least_at l.leasts) l.fn.islands.labels l.awake) l.fn.islands.labels;
  rising : AllPairs (λ slot later. slot < later) (drop l.place l.awake);
  room : l.islands.room ≡ l.fn.islands.room;
}
