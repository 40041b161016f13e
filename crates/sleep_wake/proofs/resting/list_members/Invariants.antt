use Rattle.std.proofs.Common.{◌≡◌, ◌++◌, drop}
use Rattle.std.specs.Prelude.{filter}
use Rattle.sleep_wake.specs.Resting.{least_at, is_to_rest}
use Rattle.sleep_wake.proofs.resting.list_members.Given as goal

abbrev pub invariant-loop-place : goal.invariant-loop-place
invariant-loop-place g l = l.listed.items ++ filter (is_to_rest (least_at l.leasts) l.islands.labels) (drop l.place l.members) ≡ l.fn.listed.items ++ filter (is_to_rest (least_at l.leasts) l.islands.labels) l.members
