use Rattle.std.proofs.Common.{rules}
use Rattle.std.specs.Int.{w64}
use Rattle.std.proofs.lemmas.Int.{to_z-of_z}
use mir.Val.{SFits}
use Rattle.world_workers.proofs.steps.step_apart.Goals as goal

pub returns : goal.returns
returns g c =
    let fits : SFits w64 c.args.ticks = search rules in
    let known = simp to_z-of_z at c.step_scoped-made.ensures in
    rw c.replace-2.ensures.after (rw c.replace.ensures.value at known)
