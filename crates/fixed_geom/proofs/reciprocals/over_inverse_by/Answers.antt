use Rattle.std.proofs.Common.{ap, pos, ◌*ℤ◌, arith, rules}
use Rattle.std.proofs.lemmas.Int.{to_z-of_z, ints, fits_signed_from_abs}
use Rattle.std.specs.Int.{w64}
use mir.Val.{SFits, of_z}
use Rattle.fixed_geom.proofs.ReciprocalLemmas.{impulse_sure, impulse_within, inverse_small}
use Rattle.fixed_geom.proofs.reciprocals.over_inverse_by.Goals as goal

pub sure_quotient-requires-clause-r : goal.sure_quotient-requires-clause-r
sure_quotient-requires-clause-r c =
    let r : SFits w64 c.args.reciprocal = c.ranges.reciprocal in
    simp to_z-of_z (inverse_small c.args.inverse c.args.reciprocal c.requires.reciprocal (λ e. c.if-reciprocal-eq0.false (ap (of_z w64) e)))

pub returns-in-Some-clause-value : goal.returns-in-Some-clause-value
returns-in-Some-clause-value c =
    let x : SFits w64 c.args.x = c.ranges.x in
    let r : SFits w64 c.args.reciprocal = c.ranges.reciprocal in
    let q : SFits w64 c.in-Some.q = search rules in
    let times : SFits w64 (pos 4194304 *ℤ c.args.x) = fits_signed_from_abs w64 (pos 4194304 *ℤ c.args.x) (omega (arith, ints, c.requires.x)) in
    simp to_z-of_z (impulse_sure c.args.x c.args.inverse c.args.reciprocal c.in-Some.q c.requires.reciprocal (λ e. c.if-reciprocal-eq0.false (ap (of_z w64) e)) c.requires.x (simp to_z-of_z at c.in-Some.ensures))

pub returns-in-Some-clause-within : goal.returns-in-Some-clause-within
returns-in-Some-clause-within c = rw (returns-in-Some-clause-value c) (impulse_within c.args.x c.args.inverse c.requires.x c.requires.least)
