use Rattle.std.proofs.Common.{◌≡◌, ◌≤◌, ◌++◌, drop, vec_len, vec_capacity}
use Rattle.sleep_wake.specs.SleepPhase.{edges_in}
use Rattle.sleep_wake.proofs.splits.list_edges.Given as goal

abbrev pub invariant-loop-place : goal.invariant-loop-place
invariant-loop-place g l = record {
  items : l.edges.items ++ edges_in l.islands.labels l.name (drop l.place l.ties) ≡ edges_in l.islands.labels l.name l.ties;
  len : vec_len l.edges ≤ l.place;
  capacity : vec_capacity l.fn.edges ≤ vec_capacity l.edges;
}
