use Rattle.world_file.proofs.SumLaws.{six_sum}
use Rattle.world_file.proofs.momentum.sum_y.Goals as goal

pub returns-clause-sum : goal.returns-clause-sum
returns-clause-sum c =
    let t = c.args.totals.now in
    six_sum t.command.y t.gravity.y t.immovable.y t.clamp.y t.rest.y t.departed.y c.sum_of_two_y-first.result.whole c.sum_of_two_y-first.result.rest c.sum_of_two_y-second.result.whole c.sum_of_two_y-second.result.rest c.sum_of_two_y-third.result.whole c.sum_of_two_y-third.result.rest
    c.plus.result.whole c.plus.result.rest c.plus-2.result.whole c.plus-2.result.rest c.sum_of_two_y-first.ensures.sum c.sum_of_two_y-second.ensures.sum c.sum_of_two_y-third.ensures.sum c.plus.ensures.whole c.plus.ensures.rest c.plus-2.ensures.whole c.plus-2.ensures.rest
