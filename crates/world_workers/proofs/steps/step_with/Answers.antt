use Rattle.std.proofs.Common.{◌≡◌, ◌^◌, true, false, sym, ◌∙◌, rules}
use Rattle.std.specs.Prelude.{◌&&◌, nat_le}
use Rattle.std.specs.Int.{w64}
use Rattle.std.proofs.lemmas.Int.{to_z-of_z}
use mir.Val.{SFits}
use Rattle.world_rules.specs.Apply.{apply}
use Rattle.world_rules.specs.declared.command.Command.TheVariants.{Step}
use Rattle.world_workers.proofs.WorkerLaws.{due_in_range, widened}
use Rattle.world_workers.proofs.steps.step_with.Goals as goal

pub returns-then-is_for_one : goal.returns-then-is_for_one
returns-then-is_for_one g c =
    let fits : SFits w64 c.args.ticks = search rules in
    let known = simp to_z-of_z at c.step_one.ensures in
    let range : (nat_le 1 c.args.workers && nat_le c.args.workers 64) ≡ true = sym c.are_workers.ensures ∙ c.if-not-are_workers.false in
    let worn : nat_le (2 ^ 40) c.args.world.now.plain.calls ≡ false = sym c.is_worn_out.ensures ∙ c.if-is_worn_out.false in
    rw (due_in_range c.args.workers c.args.world.now.plain c.args.ticks range worn)
    (widened (apply c.args.world.now.plain (Step c.args.ticks)) c.args.world.now c.step_one.result c.step_one.new.self known)

pub returns-in-Ok : goal.returns-in-Ok
returns-in-Ok g c =
    let fits : SFits w64 c.args.ticks = search rules in
    let known = simp to_z-of_z at c.step_apart.ensures in
    let range : (nat_le 1 c.args.workers && nat_le c.args.workers 64) ≡ true = sym c.are_workers.ensures ∙ c.if-not-are_workers.false in
    let worn : nat_le (2 ^ 40) c.args.world.now.plain.calls ≡ false = sym c.is_worn_out.ensures ∙ c.if-is_worn_out.false in
    rw (due_in_range c.args.workers c.args.world.now.plain c.args.ticks range worn) known
