use Rattle.std.proofs.Common.{◌+ℤ◌, ◌^◌, ap, arith}
use Rattle.std.proofs.lemmas.Int.{to_z-of_z}
use Rattle.std.specs.Int.{w64}
use mir.Val.{SFits, of_z}
use Rattle.fixed_geom.proofs.Sizes.{sum_le}
use Rattle.momenta.proofs.Laws64.{turns_by}
use Rattle.momenta.proofs.Spins.{fits_64}
use Rattle.momenta.proofs.impulses_64.turned_by_64.Goals as goal

pub returns-else-reciprocal-eq0-clause-value : goal.returns-else-reciprocal-eq0-clause-value
returns-else-reciprocal-eq0-clause-value c =
    let l : SFits w64 c.args.l = c.ranges.l in
    let moment : SFits w64 c.args.moment = c.ranges.moment in
    let sum : SFits w64 (c.args.l +ℤ c.args.moment) = fits_64 _ (omega (arith, sum_le c.args.l c.args.moment (2 ^ 61) (2 ^ 61) c.requires.l c.requires.moment)) in
    simp to_z-of_z (turns_by c.args.inertia c.args.reciprocal c.args.l c.args.moment c.requires.reciprocal (λ e. c.if-reciprocal-eq0.false (ap (of_z w64) e)))
