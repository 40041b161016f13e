use Rattle.std.proofs.Common.{◌-◌, arith, sym}
use Rattle.part_solver.proofs.PassSteps.{start_next}
use Rattle.part_solver.proofs.part_pass.start_of.Goals as goal

pub returns : goal.returns
returns c = sym (start_next c.args.stage (c.args.stage - 1) 0 c.args.ends.now (omega (arith, c.if-stage-eq0.false)) c.requires)
