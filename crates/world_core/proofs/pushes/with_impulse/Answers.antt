use Rattle.std.proofs.Common.{◌^◌, arith}
use Rattle.std.proofs.lemmas.Int.{to_z-of_z}
use Rattle.std.specs.Int.{w128}
use mir.Val.{SFits}
use Rattle.world_core.proofs.pushes.with_impulse.Goals as goal

pub turned_by-requires-clause-moment : goal.turned_by-requires-clause-moment
turned_by-requires-clause-moment c =
    let moment : SFits w128 c.cross.result = record { sfits = c.cross.type_inv } in
    let small = c.cross.ensures.size (2 ^ 26) (2 ^ 40) c.requires.offset c.requires.by in
    simp to_z-of_z (omega (arith, small))
