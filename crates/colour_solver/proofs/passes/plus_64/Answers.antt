use Rattle.colour_solver.specs.States.{as_vector}
use Rattle.colour_solver.proofs.SumLaws.{little_more, little_room, near_room}
use Rattle.colour_solver.proofs.VectorLaws.{plus_assoc}
use Rattle.colour_solver.proofs.passes.plus_64.Goals as goal

pub plus-requires-clause-first : goal.plus-requires-clause-first
plus-requires-clause-first c = little_room c.args.sums.little.first c.requires.sums.little_first

pub plus-requires-clause-second : goal.plus-requires-clause-second
plus-requires-clause-second c = near_room c.args.gains.first c.requires.first

pub plus-requires-2-clause-first : goal.plus-requires-2-clause-first
plus-requires-2-clause-first c = little_room c.args.sums.little.second c.requires.sums.little_second

pub plus-requires-2-clause-second : goal.plus-requires-2-clause-second
plus-requires-2-clause-second c = near_room c.args.gains.second c.requires.second

pub returns-clause-first : goal.returns-clause-first
returns-clause-first c = rw c.plus.ensures.value (plus_assoc (as_vector c.args.sums.more.first) c.args.sums.little.first c.args.gains.first)

pub returns-clause-second : goal.returns-clause-second
returns-clause-second c = rw c.plus-2.ensures.value (plus_assoc (as_vector c.args.sums.more.second) c.args.sums.little.second c.args.gains.second)

pub returns-clause-grown : goal.returns-clause-grown
returns-clause-grown c = λ k w. rw (c.plus.ensures.value, c.plus-2.ensures.value) (little_more k c.args.sums c.args.gains.first c.args.gains.second w c.requires.first c.requires.second)
