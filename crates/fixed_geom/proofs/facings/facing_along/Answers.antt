use Rattle.std.proofs.Common.{rules}
use Rattle.std.proofs.lemmas.Int.{to_z-of_z}
use Rattle.std.specs.Int.{w64}
use mir.Val.{SFits}
use Rattle.fixed_geom.proofs.FacingLemmas.{facing_along_is}
use Rattle.fixed_geom.proofs.facings.facing_along.Goals as goal

pub returns-clause-facing : goal.returns-clause-facing
returns-clause-facing c =
    let x : SFits w64 c.unit-direction.result.x = search rules in
    let y : SFits w64 c.unit-direction.result.y = search rules in
    simp to_z-of_z (rw c.unit-direction.ensures.value (facing_along_is c.args.d c.requires.long))
