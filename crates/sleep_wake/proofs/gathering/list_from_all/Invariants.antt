use Rattle.std.proofs.Common.{◌≡◌, ◌≤◌, ◌++◌, drop, vec_len, vec_capacity}
use Rattle.std.specs.Prelude.{filter}
use Rattle.sleep_wake.specs.Waking.{has_mover_of}
use Rattle.sleep_wake.proofs.gathering.list_from_all.Given as goal

abbrev pub invariant-loop-place : goal.invariant-loop-place
invariant-loop-place g l = record {
  items : l.list.items ++ filter (has_mover_of l.islands.labels l.name) (drop l.place l.ties) ≡ filter (has_mover_of l.islands.labels l.name) l.ties;
  len : vec_len l.list ≤ l.place;
  capacity : vec_capacity l.fn.list ≤ vec_capacity l.list;
}
