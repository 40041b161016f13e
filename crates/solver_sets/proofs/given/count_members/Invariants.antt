use Rattle.std.proofs.Common.{◌≡◌, ◌+◌, drop, length}
use Rattle.graph_colours.specs.Colours.{all_members}
use Rattle.graph_colours.specs.Given.{members_of as lists_of}
use Rattle.solver_sets.proofs.given.count_members.Given as goal

abbrev pub invariant-loop-members : goal.invariant-loop-members
invariant-loop-members l = l.count + length (all_members (lists_of (drop l.members-index l.lists))) ≡ length (all_members (lists_of l.lists))
