use Rattle.std.proofs.Common.{◌^◌, unsigned_abs, arith}
use Rattle.std.proofs.lemmas.Int.{to_z-of_z}
use Rattle.std.proofs.lemmas.Nat.{mul-le}
use Rattle.std.specs.Int.{w64}
use mir.Val.{SFits}
use Rattle.momenta.proofs.line.component_along.Goals as goal

pub scaled-requires : goal.scaled-requires
scaled-requires c =
    let size : SFits w64 c.args.size = c.ranges.size in
    let part : SFits w64 c.args.part = c.ranges.part in
    simp to_z-of_z (omega (arith, mul-le (unsigned_abs c.args.size) (unsigned_abs c.args.part) (2 ^ 44) (2 ^ 30) c.requires.size c.requires.part))

pub returns-clause-within : goal.returns-clause-within
returns-clause-within c =
    let size : SFits w64 c.args.size = c.ranges.size in
    let part : SFits w64 c.args.part = c.ranges.part in
    let result : SFits w64 c.scaled.result = record { sfits = c.scaled.type_inv } in
    simp to_z-of_z (c.scaled.ensures.within (2 ^ 44) (simp to_z-of_z (mul-le (unsigned_abs c.args.size) (unsigned_abs c.args.part) (2 ^ 44) (2 ^ 30) c.requires.size c.requires.part)))
