use Rattle.std.proofs.Common.{◌≡◌, ◌++◌, drop}
use Rattle.std.specs.Prelude.{filter}
use Rattle.graph_colours.specs.Colours.{all_members}
use Rattle.sleep_wake.specs.Resting.{least_at, is_to_rest}
use Rattle.sleep_wake.proofs.resting.list_resting.Given as goal

abbrev pub invariant-loop-colour : goal.invariant-loop-colour
invariant-loop-colour g l = l.listed.items ++ filter (is_to_rest (least_at l.leasts) l.islands.labels) (all_members (drop l.colour l.colours.lists)) ≡ filter (is_to_rest (least_at l.leasts) l.islands.labels) (all_members l.colours.lists)
