use Rattle.std.proofs.Common.{◌^◌, pos, ◌<ℤ◌, arith, sym}
use Rattle.std.proofs.lemmas.Int.{to_z-of_z, ints}
use Rattle.std.specs.Int.{w128}
use mir.Val.{SFits}
use Rattle.fixed_geom.proofs.ReciprocalLemmas.{inverse_none}
use Rattle.momenta.proofs.inverse.inverse_reciprocal.Goals as goal

pub returns-else-inverse-lt-INVERSE_LIMIT_64 : goal.returns-else-inverse-lt-INVERSE_LIMIT_64
returns-else-inverse-lt-INVERSE_LIMIT_64 c =
    let inverse : SFits w128 c.args.inverse = c.ranges.inverse in
    let great : pos (2 ^ 54) <ℤ c.args.inverse = grind (arith, ints, to_z-of_z, c.if-inverse-lt-INVERSE_LIMIT_64.false) in
    sym (inverse_none c.args.inverse great)
