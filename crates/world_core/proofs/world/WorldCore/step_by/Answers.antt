use Rattle.std.proofs.Common.{rules}
use Rattle.std.specs.Int.{w64}
use Rattle.std.proofs.lemmas.Int.{to_z-of_z}
use mir.Val.{SFits}
use Rattle.world_core.proofs.world.WorldCore.step_by.Goals as goal

pub returns : goal.returns
returns g c =
    let fits : SFits w64 c.args.ticks = search rules in
    simp to_z-of_z at c.apply_by.ensures
