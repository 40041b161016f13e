use Rattle.std.proofs.Common.{◌∙◌, sym, refl, ◌^◌, pos, ◌≤ℤ◌, arith}
use Rattle.std.proofs.lemmas.Int.{to_z-of_z, ints}
use Rattle.std.specs.Int.{w64}
use mir.Val.{SFits}
use Rattle.fixed_geom.proofs.QuotientLemmas.{rdiv-nonnegative}
use Rattle.fixed_geom.proofs.ReciprocalLemmas.{inverse_is}
use Rattle.fixed_geom.proofs.reciprocals.over_inverse_reciprocal.Goals as goal

pub returns-then-inverse-le-MOST_INVERSE : goal.returns-then-inverse-le-MOST_INVERSE
returns-then-inverse-le-MOST_INVERSE c =
    let inverse : SFits w64 c.args.inverse = c.ranges.inverse in
    let result : SFits w64 c.over_inverse_reciprocal_of_size.result = record { sfits = c.over_inverse_reciprocal_of_size.type_inv } in
    let least : pos (2 ^ 20) ≤ℤ c.args.inverse = grind (arith, ints, to_z-of_z, c.if-inverse-ge-LEAST_INVERSE.true) in
    let most : c.args.inverse ≤ℤ pos (2 ^ 54) = grind (arith, ints, to_z-of_z, c.if-inverse-le-MOST_INVERSE.true) in
    let value = simp to_z-of_z at c.over_inverse_reciprocal_of_size.ensures in
    simp to_z-of_z (value ∙ rdiv-nonnegative (pos (2 ^ 82)) c.args.inverse (2 ^ 82) _ _ (omega (arith, ints)) refl (grind (arith, ints, to_z-of_z)) refl ∙ sym (inverse_is c.args.inverse least most))
