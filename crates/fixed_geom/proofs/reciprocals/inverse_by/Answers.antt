use Rattle.std.proofs.Common.{pos, ◌^◌, arith, refl}
use Rattle.std.proofs.lemmas.Int.{to_z-of_z, ints}
use Rattle.fixed_geom.proofs.QuotientLemmas.{rdiv-nonnegative}
use Rattle.fixed_geom.proofs.reciprocals.inverse_by.Goals as goal

pub returns-clause-value : goal.returns-clause-value
returns-clause-value c =
    let value = rdiv-nonnegative (pos (2 ^ 40)) c.args.k (2 ^ 40) _ _ (omega (arith, ints)) refl (grind (arith, ints, to_z-of_z)) c.inverse_of_size_by.ensures.value in
    omega (arith, ints, value)
