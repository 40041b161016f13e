use Rattle.std.proofs.Common.{◌^◌, ◌+◌, unsigned_abs, arith}
use Rattle.std.proofs.lemmas.Int.{to_z-of_z}
use Rattle.std.proofs.lemmas.Nat.{mul-le}
use Rattle.std.specs.Int.{w64}
use mir.Val.{SFits}
use Rattle.dillmonth.proofs.targets.by_square.Goals as goal

pub scaled-requires : goal.scaled-requires
scaled-requires c =
    let spin : SFits w64 c.args.spin = c.ranges.spin in
    simp to_z-of_z (omega (arith, mul-le (unsigned_abs c.args.spin) (unsigned_abs c.args.spin) (2 ^ 28) (2 ^ 28) c.requires.spin c.requires.spin))

pub scaled-requires-2 : goal.scaled-requires-2
scaled-requires-2 c =
    let spin : SFits w64 c.args.spin = c.ranges.spin in
    let missed : SFits w64 c.args.missed = c.ranges.missed in
    let square : SFits w64 c.scaled.result = record { sfits = c.scaled.type_inv } in
    let small = c.scaled.ensures.within (2 ^ 26) (simp to_z-of_z (omega (arith, mul-le (unsigned_abs c.args.spin) (unsigned_abs c.args.spin) (2 ^ 28) (2 ^ 28) c.requires.spin c.requires.spin))) in
    simp to_z-of_z (omega (arith, mul-le (unsigned_abs c.args.missed) (unsigned_abs c.scaled.result) (2 ^ 28 + 1) (2 ^ 26) c.requires.missed small))
