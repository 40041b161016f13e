use Rattle.world_file.proofs.SumLaws.{eight_sum}
use Rattle.world_file.proofs.momentum.sum_of_two_x.Goals as goal

pub returns-clause-sum : goal.returns-clause-sum
returns-clause-sum c =
    eight_sum c.args.a.x c.args.b.x c.x_in_eighths.result.whole c.x_in_eighths.result.rest c.x_in_eighths-2.result.whole c.x_in_eighths-2.result.rest c.plus.result.whole c.plus.result.rest
    c.x_in_eighths.ensures.sum c.x_in_eighths-2.ensures.sum c.plus.ensures.whole c.plus.ensures.rest
