use Rattle.std.proofs.Common.{◌∙◌, ap}
use Rattle.islands.specs.Labels.{Labels}
use Rattle.world_file.specs.Fitting.{are_whole}
use Rattle.world_file.specs.Lone.{apart_from, components_by, joined_by}
use Rattle.world_file.proofs.Alone.{same_joined, same_whole}
use Rattle.world_file.proofs.ComponentLaws.{merging_makes_components}
use Rattle.world_file.proofs.components.are_whole.Goals as goal

pub returns-clause-whole : goal.returns-clause-whole
returns-clause-whole c =
    c.are_all_whole.ensures
    ∙ ap (λ (l : Labels). are_whole l 0 c.args.memberships.now) c.join_all.ensures
    ∙ same_whole (joined_by c.args.ties.now c.in_ok-islands.islands.labels) (components_by c.args.memberships.now c.args.ties.now) 0 c.args.memberships.now
    (same_joined c.args.ties.now c.in_ok-islands.islands.labels (apart_from 0 c.args.memberships.now) c.in_ok-islands.ensures.alone)
    ∙ ap (λ (l : Labels). are_whole l 0 c.args.memberships.now) (merging_makes_components c.args.memberships.now c.args.ties.now)
