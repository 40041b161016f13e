use Rattle.std.proofs.Common.{◌≤◌, ℕ, get_or, length, sym, subst, ap, ◌∙◌}
use Rattle.colour_solver.specs.RowVisits.{between}
use Rattle.part_solver.proofs.PassSteps.{stage_ascends, stage_at, stage_within}
use Rattle.part_solver.proofs.part_pass.moves_of.Goals as goal

pub moves_between-requires-clause-ascend : goal.moves_between-requires-clause-ascend
moves_between-requires-clause-ascend c =
    let ends = c.args.ends.now in
    let stage = c.args.stage in
    subst (λ (n : ℕ). n ≤ get_or ends stage 0) (sym c.start_of-start.ensures) (stage_ascends stage 0 ends (length c.args.moves.now) c.requires.ends c.requires.stage)

pub moves_between-requires-clause-end : goal.moves_between-requires-clause-end
moves_between-requires-clause-end c = stage_within c.args.stage 0 c.args.ends.now (length c.args.moves.now) c.requires.ends c.requires.stage

pub returns : goal.returns
returns c =
    let ends = c.args.ends.now in
    let stage = c.args.stage in
    c.moves_between.ensures ∙ ap (λ (n : ℕ). between n (get_or ends stage 0) c.args.moves.now) c.start_of-start.ensures ∙ sym (stage_at stage ends (length c.args.moves.now) c.args.moves.now c.requires.ends c.requires.stage)
