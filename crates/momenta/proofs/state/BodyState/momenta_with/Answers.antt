use Rattle.std.proofs.Common.{◌^◌, arith}
use Rattle.std.proofs.lemmas.Int.{to_z-of_z}
use Rattle.std.specs.Int.{w128}
use mir.Val.{SFits}
use Rattle.momenta.proofs.state.BodyState.momenta_with.Goals as goal

pub turned_by-requires-clause-moment : goal.turned_by-requires-clause-moment
turned_by-requires-clause-moment c =
    let moment : SFits w128 c.cross.result = record { sfits = c.cross.type_inv } in
    simp to_z-of_z (omega (arith, c.cross.ensures.size (2 ^ 27) (2 ^ 45) c.requires.offset c.requires.impulse))
