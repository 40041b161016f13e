use Rattle.std.proofs.Common.{◌^◌, pos, ◌*ℤ◌, ◌≤ℤ◌, arith}
use Rattle.std.proofs.lemmas.Int.{to_z-of_z, ints}
use Rattle.fixed_geom.proofs.QuotientLemmas.{rdiv-nonnegative}
use Rattle.fixed_geom.proofs.inverses.quotient_40.Goals as goal

pub returns : goal.returns
returns c =
    let nonnegative : pos 0 ≤ℤ (c.args.x *ℤ pos (2 ^ 40)) = grind (arith, ints) in
    let value = rdiv-nonnegative (c.args.x *ℤ pos (2 ^ 40)) c.args.k _ _ _ nonnegative (grind (arith, ints, to_z-of_z)) (grind (arith, ints, to_z-of_z)) c.quotient_40_of_sizes.ensures.value in
    omega (arith, ints, value)
