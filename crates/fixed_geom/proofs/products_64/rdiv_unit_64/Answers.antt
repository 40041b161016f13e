use Rattle.std.proofs.Common.{pos, ◌<ℤ◌, ◌≤ℤ◌, arith}
use Rattle.std.proofs.lemmas.Int.{ints}
use Rattle.fixed_geom.proofs.Shifts.{shift_down_64, shift_up_64}
use Rattle.fixed_geom.proofs.products_64.rdiv_unit_64.Goals as goal

pub returns-then-x-lt0-clause-value : goal.returns-then-x-lt0-clause-value
returns-then-x-lt0-clause-value c =
    let negative : c.args.x <ℤ pos 0 = grind (arith, ints) in
    shift_down_64 c.args.x negative c.requires

pub returns-else-x-lt0-clause-value : goal.returns-else-x-lt0-clause-value
returns-else-x-lt0-clause-value c =
    let nonnegative : pos 0 ≤ℤ c.args.x = grind (arith, ints) in
    shift_up_64 c.args.x nonnegative c.requires
