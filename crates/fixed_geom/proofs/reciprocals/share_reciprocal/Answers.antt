use Rattle.std.proofs.Common.{◌∙◌, sym, refl, ◌^◌, pos, ◌≤ℤ◌, arith}
use Rattle.std.proofs.lemmas.Int.{to_z-of_z, ints}
use Rattle.std.specs.Int.{w64}
use mir.Val.{SFits}
use Rattle.fixed_geom.proofs.QuotientLemmas.{rdiv-nonnegative}
use Rattle.fixed_geom.proofs.ReciprocalLemmas.{share_is}
use Rattle.fixed_geom.proofs.reciprocals.share_reciprocal.Goals as goal

pub returns-then-k-le-MOST_WHOLE : goal.returns-then-k-le-MOST_WHOLE
returns-then-k-le-MOST_WHOLE c =
    let k : SFits w64 c.args.k = c.ranges.k in
    let result : SFits w64 c.share_reciprocal_of_size.result = record { sfits = c.share_reciprocal_of_size.type_inv } in
    let least : pos (2 ^ 32) ≤ℤ c.args.k = grind (arith, ints, to_z-of_z, c.if-k-ge-LEAST_WHOLE.true) in
    let most : c.args.k ≤ℤ pos (2 ^ 57) = grind (arith, ints, to_z-of_z, c.if-k-le-MOST_WHOLE.true) in
    let value = simp to_z-of_z at c.share_reciprocal_of_size.ensures in
    simp to_z-of_z (value ∙ rdiv-nonnegative (pos (2 ^ 94)) c.args.k (2 ^ 94) _ _ (omega (arith, ints)) refl (grind (arith, ints, to_z-of_z)) refl ∙ sym (share_is c.args.k least most))
