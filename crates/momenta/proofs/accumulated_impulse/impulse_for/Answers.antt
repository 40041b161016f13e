use Rattle.std.proofs.Common.{◌≤◌, ◌+◌, ◌*◌, ◌^◌, pos, ◌*ℤ◌, unsigned_abs, arith}
use Rattle.std.proofs.lemmas.Int.{to_z-of_z, ints}
use Rattle.std.specs.Int.{w128}
use mir.Val.{SFits}
use Rattle.fixed_geom.proofs.Sizes.{product_le}
use Rattle.momenta.proofs.Spins.{fits_128}
use Rattle.momenta.proofs.accumulated_impulse.impulse_for.Goals as goal

pub returns-clause-value : goal.returns-clause-value
returns-clause-value c =
    let change : SFits w128 c.args.change = c.ranges.change in
    let inverse : SFits w128 c.args.inverse = c.ranges.inverse in
    let whole : SFits w128 (c.args.change *ℤ pos (2 ^ 40)) = fits_128 _ (omega (arith, ints, c.requires.change)) in
    let quotient : SFits w128 c.rdiv.result = record { sfits = c.rdiv.type_inv } in
    simp to_z-of_z (simp to_z-of_z at c.rdiv.ensures.value)

pub returns-clause-within : goal.returns-clause-within
returns-clause-within c =
    let change : SFits w128 c.args.change = c.ranges.change in
    let inverse : SFits w128 c.args.inverse = c.ranges.inverse in
    let whole : SFits w128 (c.args.change *ℤ pos (2 ^ 40)) = fits_128 _ (omega (arith, ints, c.requires.change)) in
    let quotient : SFits w128 c.rdiv.result = record { sfits = c.rdiv.type_inv } in
    let size : unsigned_abs (c.args.change *ℤ pos (2 ^ 40)) ≤ (2 ^ 63 + 2 ^ 29) * 2 ^ 40 = product_le c.args.change (pos (2 ^ 40)) (2 ^ 63 + 2 ^ 29) (2 ^ 40) c.requires.change (omega arith) in
    let some : 2 ^ 20 ≤ unsigned_abs c.args.inverse = omega (arith, ints, c.requires.low) in
    simp to_z-of_z (c.rdiv.ensures.within (2 ^ 84) (simp to_z-of_z (omega (arith, size, some))))
