use Rattle.std.proofs.Common.{◌≡◌, ◌∙◌, ap, ◌<◌, ◌^◌, pos, ◌*ℤ◌, ◌<ℤ◌, unsigned_abs, arith, rules}
use Rattle.std.proofs.lemmas.Int.{to_z-of_z, ints, fits_signed_from_abs}
use Rattle.std.specs.Int.{w64, w128}
use mir.Val.{SFits, of_z}
use Rattle.fixed_geom.proofs.ReciprocalLemmas.{quotient_sure, share_small}
use Rattle.fixed_geom.proofs.reciprocals.quotient_40_by.Goals as goal

pub sure_quotient-requires-clause-r : goal.sure_quotient-requires-clause-r
sure_quotient-requires-clause-r c =
    let r : SFits w64 c.args.reciprocal = c.ranges.reciprocal in
    simp to_z-of_z (share_small c.args.k c.args.reciprocal c.requires.reciprocal (λ e. c.if-reciprocal-eq0.false (ap (of_z w64) e)))

pub returns-in-Some : goal.returns-in-Some
returns-in-Some c =
    let x : SFits w64 c.args.x = c.ranges.x in
    let r : SFits w64 c.args.reciprocal = c.ranges.reciprocal in
    let q : SFits w64 c.in-Some.q = search rules in
    let f : SFits w128 c.from.result = record { sfits = c.from.type_inv } in
    let below : c.args.x <ℤ pos (2 ^ 48) = grind (arith, ints, to_z-of_z, c.if-x.false) in
    let few : unsigned_abs c.args.x < 2 ^ 48 = omega (arith, ints, below, c.requires.nonnegative) in
    let times : SFits w64 (pos 1024 *ℤ c.args.x) = fits_signed_from_abs w64 (pos 1024 *ℤ c.args.x) (omega (arith, ints, few)) in
    let from : c.from.result ≡ c.in-Some.q = simp to_z-of_z at c.from.ensures in
    simp to_z-of_z (from ∙ quotient_sure c.args.x c.args.k c.args.reciprocal c.in-Some.q c.requires.reciprocal (λ e. c.if-reciprocal-eq0.false (ap (of_z w64) e)) few (simp to_z-of_z at c.in-Some.ensures))
