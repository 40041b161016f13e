use Rattle.std.proofs.Common.{◌≡◌, ◌++◌, drop}
use Rattle.std.specs.List.{filter_map}
use Rattle.solver_sets.specs.Given.{joints_alone}
use Rattle.solver_sets.specs.Ties.{member_of}
use Rattle.solver_sets.proofs.given.list_colour.Given as goal

abbrev pub invariant-loop-id : goal.invariant-loop-id
invariant-loop-id l = l.members.items ++ filter_map (member_of l.bodies (joints_alone l.joints)) (drop l.id-index l.ids) ≡ filter_map (member_of l.bodies (joints_alone l.joints)) l.ids
