use Rattle.world_file.proofs.SumLaws.{eight_sum}
use Rattle.world_file.proofs.momentum.sum_of_two_y.Goals as goal

pub returns-clause-sum : goal.returns-clause-sum
returns-clause-sum c =
    eight_sum c.args.a.y c.args.b.y c.y_in_eighths.result.whole c.y_in_eighths.result.rest c.y_in_eighths-2.result.whole c.y_in_eighths-2.result.rest c.plus.result.whole c.plus.result.rest
    c.y_in_eighths.ensures.sum c.y_in_eighths-2.ensures.sum c.plus.ensures.whole c.plus.ensures.rest
