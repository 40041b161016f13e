use Rattle.std.proofs.Common.{ap, ◌∙◌}
use Rattle.sleep_wake.specs.Acting.{Acting}
use Rattle.sleep_wake.specs.SleepPhase.{ready_put_to_rest}
use Rattle.sleep_wake.proofs.AgreeLaws.{awake_after, phase_agrees}
use Rattle.sleep_wake.proofs.sets.Sets.sleep_phase.Goals as goal

pub rest_ready-requires-clause-awake : goal.rest_ready-requires-clause-awake
rest_ready-requires-clause-awake g c = awake_after g.C.ConstraintId.number c.args.self.now.acting c.flush.new.self.acting c.args.timers.now c.args.awake.now c.know_consistent.ensures (c.flush.ensures.acting ∙ c.split_ready.ensures.acting) c.requires.awake

pub returns-clause-acting : goal.returns-clause-acting
returns-clause-acting g c = λ all same.
    let n = g.C.ConstraintId.number in
    c.rest_ready.ensures.acting
    ∙ ap (λ (v : Acting g.row.C.Denot). ready_put_to_rest n c.args.timers.now v) (c.flush.ensures.acting ∙ c.split_ready.ensures.acting)
    ∙ phase_agrees n c.args.self.now.acting c.args.timers.now all c.know_consistent.ensures same
