use Rattle.world_file.proofs.SumLaws.{six_sum}
use Rattle.world_file.proofs.momentum.sum_x.Goals as goal

pub returns-clause-sum : goal.returns-clause-sum
returns-clause-sum c =
    let t = c.args.totals.now in
    six_sum t.command.x t.gravity.x t.immovable.x t.clamp.x t.rest.x t.departed.x c.sum_of_two_x-first.result.whole c.sum_of_two_x-first.result.rest c.sum_of_two_x-second.result.whole c.sum_of_two_x-second.result.rest c.sum_of_two_x-third.result.whole c.sum_of_two_x-third.result.rest
    c.plus.result.whole c.plus.result.rest c.plus-2.result.whole c.plus-2.result.rest c.sum_of_two_x-first.ensures.sum c.sum_of_two_x-second.ensures.sum c.sum_of_two_x-third.ensures.sum c.plus.ensures.whole c.plus.ensures.rest c.plus-2.ensures.whole c.plus-2.ensures.rest
