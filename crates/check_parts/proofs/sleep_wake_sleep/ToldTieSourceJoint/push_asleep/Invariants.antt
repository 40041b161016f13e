use Rattle.std.proofs.Common.{◌≤◌, drop, vec_capacity}
use Rattle.std.specs.Prelude.{filter}
use Rattle.sleep_wake.specs.Sleeping.{name_at}
use Rattle.sleep_wake.specs.Sources.{is_asleep_under}
use Rattle.check_parts.proofs.ToldLaws.{ArePicked}
use Rattle.check_parts.proofs.sleep_wake_sleep.ToldTieSourceJoint.push_asleep.Given as goal

abbrev pub invariant-loop-place : goal.invariant-loop-place
invariant-loop-place l = record {
  picked : ArePicked (is_asleep_under (name_at l.self.sets.acting.labels) l.name) (drop l.place l.self.ties.items) l.fn.list.items (filter (is_asleep_under (name_at l.self.sets.acting.labels) l.name) l.self.ties.items) l.list.items (vec_capacity l.fn.list);
  capacity : vec_capacity l.fn.list ≤ vec_capacity l.list;
}
