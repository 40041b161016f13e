use Rattle.std.proofs.Common.{◌≡◌, ◌++◌, drop, map}
use Rattle.graph_colours.specs.declared.member.Member.{Member}
use Rattle.plain_world.specs.declared.constraint.Constraint.{Constraint}
use Rattle.world_core.proofs.colour_ids.list_ids.Given as goal

abbrev pub invariant-loop-member : goal.invariant-loop-member
invariant-loop-member l = l.ids.items ++ map (λ (m : Member Constraint). m.id) (drop l.member-index l.members) ≡ map (λ (m : Member Constraint). m.id) l.members
