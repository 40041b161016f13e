use Rattle.colour_solver.specs.States.{as_vector}
use Rattle.colour_solver.proofs.SumLaws.{gain_room, sum_more, wide_more, wide_room}
use Rattle.colour_solver.proofs.passes.plus_more.Goals as goal

pub plus-requires-clause-first : goal.plus-requires-clause-first
plus-requires-clause-first c = wide_room c.args.sums.more.first c.requires.sums.more_first

pub plus-requires-clause-second : goal.plus-requires-clause-second
plus-requires-clause-second c = gain_room c.args.gains.first c.requires.first

pub plus-requires-2-clause-first : goal.plus-requires-2-clause-first
plus-requires-2-clause-first c = wide_room c.args.sums.more.second c.requires.sums.more_second

pub plus-requires-2-clause-second : goal.plus-requires-2-clause-second
plus-requires-2-clause-second c = gain_room c.args.gains.second c.requires.second

pub returns-clause-first : goal.returns-clause-first
returns-clause-first c = rw (c.plus.ensures.x, c.plus.ensures.y) (sum_more (as_vector c.args.sums.more.first) c.args.sums.little.first (as_vector c.args.gains.first))

pub returns-clause-second : goal.returns-clause-second
returns-clause-second c = rw (c.plus-2.ensures.x, c.plus-2.ensures.y) (sum_more (as_vector c.args.sums.more.second) c.args.sums.little.second (as_vector c.args.gains.second))

pub returns-clause-grown : goal.returns-clause-grown
returns-clause-grown c = λ k w.
    wide_more k c.args.sums c.args.gains.first c.args.gains.second c.plus.result c.plus-2.result w c.requires.first c.requires.second c.plus.ensures.x c.plus.ensures.y c.plus-2.ensures.x c.plus-2.ensures.y
