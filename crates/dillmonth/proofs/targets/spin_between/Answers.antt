use Rattle.std.proofs.Common.{arith}
use Rattle.std.proofs.lemmas.Int.{to_z-of_z}
use Rattle.std.specs.Int.{w128}
use mir.Val.{SFits}
use Rattle.dillmonth.proofs.targets.spin_between.Goals as goal

pub spin_of-requires-clause-across : goal.spin_of-requires-clause-across
spin_of-requires-clause-across c =
    let x : SFits w128 c.cross.result = record { sfits = c.cross.type_inv } in
    simp to_z-of_z (omega (arith, c.cross.ensures.size 2147483648 2147483648 c.requires.from c.requires.to))
