use Rattle.std.proofs.Common.{◌≡◌, ◌∙◌, sym, ◌≤◌, ◌^◌, pos, ◌*ℤ◌, unsigned_abs, arith}
use Rattle.std.proofs.lemmas.Int.{to_z-of_z}
use Rattle.std.specs.Int.{w64, w128}
use mir.Val.{SFits}
use Rattle.fixed_geom.specs.Numbers.{rdiv}
use Rattle.fixed_geom.proofs.Sizes.{product_le}
use Rattle.momenta.proofs.Shares.{by_product, turning_nonnegative, turning_small, turning_some}
use Rattle.momenta.proofs.Spins.{fits_64}
use Rattle.momenta.proofs.inverse.share_of_inertia.Goals as goal

small : (c : goal.After-quotient_40_by) → unsigned_abs (c.args.lever *ℤ c.args.lever) ≤ 2 ^ 56
small c = product_le c.args.lever c.args.lever (2 ^ 28) (2 ^ 28) c.requires.lever c.requires.lever

pub returns-clause-value : goal.returns-clause-value
returns-clause-value c =
    let inertia : SFits w64 c.args.inertia = c.ranges.inertia in
    let lever : SFits w64 c.args.lever = c.ranges.lever in
    let square : SFits w64 (c.args.lever *ℤ c.args.lever) = fits_64 _ (omega (arith, small c)) in
    let quotient : SFits w128 c.quotient_40_by.result = record { sfits = c.quotient_40_by.type_inv } in
    let value : c.quotient_40_by.result ≡ rdiv (c.args.lever *ℤ c.args.lever *ℤ pos (2 ^ 40)) c.args.inertia = simp to_z-of_z at c.quotient_40_by.ensures in
    simp to_z-of_z (value ∙ by_product c.args.inertia c.args.lever ∙ sym (turning_some c.args.inertia c.args.lever c.requires.inertia))

pub returns-clause-nonnegative : goal.returns-clause-nonnegative
returns-clause-nonnegative c = rw (returns-clause-value c) (turning_nonnegative c.args.inertia c.args.lever c.requires.inertia)

pub returns-clause-within : goal.returns-clause-within
returns-clause-within c = rw (returns-clause-value c) (turning_small c.args.inertia c.args.lever c.requires.inertia c.requires.lever)
