use Rattle.std.proofs.Common.{◌≡◌, ◌*◌, ◌^◌, pos, ◌*ℤ◌, ◌<ℤ◌, ◌≤ℤ◌, unsigned_abs, arith}
use Rattle.std.proofs.lemmas.Int.{to_z-of_z, ints}
use Rattle.fixed_geom.specs.Vectors.{unit_length}
use Rattle.fixed_geom.proofs.QuotientLemmas.{rdiv-negative, rdiv-nonnegative}
use Rattle.fixed_geom.proofs.quotients.share_by_guess.Goals as goal

pub returns-then-x-lt0-clause-value : goal.returns-then-x-lt0-clause-value
returns-then-x-lt0-clause-value c =
    let negative : (c.args.x *ℤ unit_length) <ℤ pos 0 = grind (arith, ints) in
    let size : c.unsigned_abs.result * 2 ^ 30 ≡ unsigned_abs (c.args.x *ℤ unit_length) = grind (arith, ints, to_z-of_z) in
    let value = rdiv-negative (c.args.x *ℤ unit_length) c.args.k _ _ _ negative size (grind (arith, ints, to_z-of_z)) c.share_of_sizes-size.ensures.value in
    omega (arith, ints, value)

pub returns-else-x-lt0-clause-value : goal.returns-else-x-lt0-clause-value
returns-else-x-lt0-clause-value c =
    let nonnegative : pos 0 ≤ℤ (c.args.x *ℤ unit_length) = grind (arith, ints) in
    let size : c.unsigned_abs.result * 2 ^ 30 ≡ unsigned_abs (c.args.x *ℤ unit_length) = grind (arith, ints, to_z-of_z) in
    let value = rdiv-nonnegative (c.args.x *ℤ unit_length) c.args.k _ _ _ nonnegative size (grind (arith, ints, to_z-of_z)) c.share_of_sizes-size.ensures.value in
    omega (arith, ints, value)
