use Rattle.std.proofs.Common.{sym, ap, ◌∙◌}
use Rattle.part_runs.proofs.ListLaws.{get_or-mapped}
use Rattle.part_solver.specs.declared.stages.Stage.{Stage}
use Rattle.part_solver.proofs.lent.sources_of.Goals as goal

pub returns-clause-members : goal.returns-clause-members
returns-clause-members c =
    let stages = c.args.lent.now.stages.items in
    let stage = c.stage_at-stage.result.now in
    rw c.as_slice-2.ensures.value (ap (λ (s : Stage). s.members.items) (rw c.as_slice.ensures.value at c.stage_at-stage.ensures) ∙ sym (get_or-mapped (λ (s : Stage). s.members.items) stages c.args.number stage _ c.requires))

pub returns-clause-slots : goal.returns-clause-slots
returns-clause-slots c =
    let stages = c.args.lent.now.stages.items in
    let stage = c.stage_at-stage.result.now in
    rw c.as_slice-3.ensures.value (ap (λ (s : Stage). s.slots.items) (rw c.as_slice.ensures.value at c.stage_at-stage.ensures) ∙ sym (get_or-mapped (λ (s : Stage). s.slots.items) stages c.args.number stage _ c.requires))
