use Rattle.std.proofs.Common.{◌^◌, unsigned_abs, arith}
use Rattle.std.proofs.lemmas.Int.{to_z-of_z}
use Rattle.std.proofs.lemmas.Nat.{mul-le}
use Rattle.std.specs.Int.{w64}
use mir.Val.{SFits}
use Rattle.dillmonth.proofs.motions.lacking_spin.Goals as goal

pub scaled-requires : goal.scaled-requires
scaled-requires c =
    let spin : SFits w64 c.args.spin = c.ranges.spin in
    let inertia : SFits w64 c.args.inertia = c.ranges.inertia in
    simp to_z-of_z (omega (arith, mul-le (unsigned_abs c.args.spin) (unsigned_abs c.args.inertia) (2 ^ 28) (2 ^ 60) c.requires.spin c.requires.inertia))
