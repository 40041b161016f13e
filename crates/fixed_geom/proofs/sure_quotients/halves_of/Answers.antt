use Rattle.std.proofs.Common.{arith}
use Rattle.fixed_geom.proofs.Shifts.{lower_is, upper_is}
use Rattle.fixed_geom.proofs.Sizes.{passed_128}
use Rattle.fixed_geom.proofs.sure_quotients.halves_of.Goals as goal

pub returns-clause-upper : goal.returns-clause-upper
returns-clause-upper c = rw (passed_128 c.args.x (omega (arith, c.requires))) (upper_is c.args.x c.requires)

pub returns-clause-lower : goal.returns-clause-lower
returns-clause-lower c = rw (passed_128 c.args.x (omega (arith, c.requires))) (lower_is c.args.x c.requires)
