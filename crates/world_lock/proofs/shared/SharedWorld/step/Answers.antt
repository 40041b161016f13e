use Rattle.std.proofs.Common.{rules}
use Rattle.std.specs.Int.{w64}
use Rattle.std.proofs.lemmas.Int.{to_z-of_z}
use mir.Val.{SFits}
use Rattle.world_lock.proofs.shared.SharedWorld.step.Goals as goal

pub returns : goal.returns
returns g c =
    let fits : SFits w64 c.args.ticks = search rules in
    simp to_z-of_z at c.step.ensures.told
