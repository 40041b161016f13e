use Rattle.std.proofs.Common.{◌≡◌, ◌++◌, drop, map}
use Rattle.graph_colours.specs.Given.{members_of as lists_of}
use Rattle.solver_sets.proofs.GivenLaws.{members_alone}
use Rattle.solver_sets.proofs.given.list_members.Given as goal

abbrev pub invariant-loop-colour : goal.invariant-loop-colour
invariant-loop-colour l = lists_of l.lists.items ++ map (members_alone l.plain.bodies l.plain.joints) (drop l.colour l.plain.colours) ≡ map (members_alone l.plain.bodies l.plain.joints) l.plain.colours
