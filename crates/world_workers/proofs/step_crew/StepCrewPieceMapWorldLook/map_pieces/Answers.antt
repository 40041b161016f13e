use Rattle.std.proofs.Common.{◌++◌, map, ap, ◌∙◌}
use Rattle.contacts.specs.declared.survey_pieces.Survey.{Survey}
use Rattle.world_core_base.specs.Awake.{Bodies}
use Rattle.world_core_base.specs.JointTables.{Joints}
use Rattle.world_workers.specs.Tasks.{looked_by}
use Rattle.world_workers.proofs.step_crew.StepCrewPieceMapWorldLook.map_pieces.Goals as goal

pub returns-in-Ok-clause-answers : goal.returns-in-Ok-clause-answers
returns-in-Ok-clause-answers g c = λ e.
    c.map_looks-is_done.ensures e ∙ ap (λ (l : Survey Bodies Joints _ _). c.args.answers.now.items ++ map (looked_by l) c.args.pieces.now.items) c.in-Ok.ensures.ok
