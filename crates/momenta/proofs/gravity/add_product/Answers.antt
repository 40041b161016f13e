use Rattle.std.proofs.Common.{ℕ, ℤ, ◌+◌, ◌+ℤ◌, ◌-ℤ◌, ◌*ℤ◌, ◌^◌, ◌≤◌, unsigned_abs, arith}
use Rattle.std.proofs.lemmas.Int.{ints, to_z-of_z}
use Rattle.std.specs.Int.{w64}
use mir.Val.{SFits}
use Rattle.fixed_geom.proofs.Sizes.{passed_64, product_le, sum_le}
use Rattle.momenta.proofs.Spins.{fits_64}
use Rattle.momenta.proofs.gravity.add_product.Goals as goal

pull_size : (mass g : ℤ) → unsigned_abs mass ≤ 2 ^ 20 → unsigned_abs g ≤ 2 ^ 16 → unsigned_abs (mass *ℤ g) ≤ 2 ^ 36
pull_size mass g h k = product_le mass g (2 ^ 20) (2 ^ 16) h k

pulled_size : (p mass g : ℤ) → unsigned_abs p ≤ 2 ^ 60 → unsigned_abs mass ≤ 2 ^ 20 → unsigned_abs g ≤ 2 ^ 16 → unsigned_abs (p +ℤ mass *ℤ g) ≤ 2 ^ 60 + 2 ^ 36
pulled_size p mass g l h k = sum_le p (mass *ℤ g) (2 ^ 60) (2 ^ 36) l (pull_size mass g h k)

pub returns-clause-value : goal.returns-clause-value
returns-clause-value c =
    let p : SFits w64 c.args.p = c.ranges.p in
    let m : SFits w64 c.args.mass = c.ranges.mass in
    let g : SFits w64 c.args.g = c.ranges.g in
    let pull : SFits w64 (c.args.mass *ℤ c.args.g) = fits_64 _ (omega (arith, pull_size c.args.mass c.args.g c.requires.mass c.requires.g)) in
    simp to_z-of_z (passed_64 _ (omega (arith, pulled_size c.args.p c.args.mass c.args.g c.requires.p c.requires.mass c.requires.g)))

pub returns-clause-small : goal.returns-clause-small
returns-clause-small c = rw (returns-clause-value c) (omega (arith, pulled_size c.args.p c.args.mass c.args.g c.requires.p c.requires.mass c.requires.g))

pulled_by : (p d : ℤ) (k : ℕ) → unsigned_abs d ≤ k → unsigned_abs ((p +ℤ d) -ℤ p) ≤ k
pulled_by p d k h = omega (arith, ints)

pub returns-clause-near : goal.returns-clause-near
returns-clause-near c = rw (returns-clause-value c) (pulled_by c.args.p (c.args.mass *ℤ c.args.g) (2 ^ 36) (pull_size c.args.mass c.args.g c.requires.mass c.requires.g))
