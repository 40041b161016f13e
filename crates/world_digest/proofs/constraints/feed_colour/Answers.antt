use Rattle.std.proofs.Common.{◌∙◌}
use Rattle.plain_world.specs.declared.constraint.Constraint.{Constraint}
use Rattle.graph_colours.specs.Colours.{list_at}
use Rattle.graph_colours.specs.declared.member.Member.{Member}
use Rattle.world_digest.specs.ConstraintWords.{constraint_words}
use Rattle.world_digest.proofs.SumLaws.{fed_list}
use Rattle.world_digest.proofs.constraints.feed_colour.Goals as goal

pub returns-clause-fed : goal.returns-clause-fed
returns-clause-fed c =
    fed_list (λ (m : Member Constraint). constraint_words m.id) c.as_slice.result.now (list_at c.args.colours.now.lists c.args.colour) c.args.sums.now c.feed_all.new.sums (c.as_slice.ensures.value ∙ c.in_ok-members.ensures.value) c.feed_all.ensures
