use Rattle.std.proofs.Common.{◌≡◌, ◌++◌, drop}
use Rattle.std.specs.List.{filter_map}
use Rattle.sleep_wake.specs.Sleeping.{name_at}
use Rattle.sleep_wake.proofs.names.list_names.Given as goal

abbrev pub invariant-loop-place : goal.invariant-loop-place
invariant-loop-place l = (l.names.items ++ filter_map (name_at l.islands.labels) (drop l.place l.slots)) ≡ filter_map (name_at l.islands.labels) l.slots
