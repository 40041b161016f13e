use Rattle.std.proofs.Common.{ap, ◌∙◌}
use Rattle.islands.specs.Labels.{Labels, merged, with_state}
use Rattle.islands.proofs.GivenLaws.{come, in_merged}
use Rattle.islands.proofs.islands.Islands.add_under.Goals as goal

pub put_state-requires : goal.put_state-requires
put_state-requires c = rw (c.merge.ensures.labels, c.add.ensures.labels) (in_merged c.args.self.now.labels c.args.slot c.args.label c.requires.named)

pub returns-clause-labels : goal.returns-clause-labels
returns-clause-labels c =
    let slot = c.args.slot in
    let label = c.args.label in
    c.put_state.ensures.labels
    ∙ ap (with_state label.name label.state) (c.merge.ensures.labels ∙ ap (λ (ls : Labels). merged ls label.name slot) c.add.ensures.labels)
    ∙ come c.args.self.now.labels slot label (record { partition = c.requires.partition; fresh = c.requires.fresh; there = c.requires.there; named = c.requires.named })
