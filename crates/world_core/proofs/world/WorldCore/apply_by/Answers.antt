use Rattle.std.proofs.Common.{◌≡◌, ◌<◌, ◌^◌, true, arith, rules}
use Rattle.std.specs.Prelude.{nat_lt}
use Rattle.std.specs.Int.{w64}
use Rattle.std.proofs.lemmas.Int.{to_z-of_z}
use Rattle.std.proofs.lemmas.Grind.{common_steps}
use mir.Val.{SFits}
use Rattle.world_core.proofs.world.WorldCore.apply_by.Goals as goal

pub returns-in-Step : goal.returns-in-Step
returns-in-Step g c =
    let fits : SFits w64 c.in-Step.ticks = search rules in
    let few : c.args.self.now.plain.calls < 2 ^ 40 = rw (← c.self.view_is) c.if-self-ge-MAX_CALLS.false in
    let accepted : nat_lt c.args.self.now.plain.calls (2 ^ 40) ≡ true = grind (arith, common_steps) in
    rw (c.in-Step.is, accepted) (simp to_z-of_z at c.step.ensures)
