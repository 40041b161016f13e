use Rattle.part_solver.proofs.TickSteps.{gain_small}
use Rattle.part_solver.proofs.part_pass.add.Goals as goal

pub returns-clause-sum : goal.returns-clause-sum
returns-clause-sum c = λ j. record { x = c.plus.ensures.x j; y = c.plus.ensures.y j }

pub returns-clause-small : goal.returns-clause-small
returns-clause-small c = λ m n h k. gain_small m n c.args.one c.args.other c.plus.result c.plus.ensures.x c.plus.ensures.y h k
