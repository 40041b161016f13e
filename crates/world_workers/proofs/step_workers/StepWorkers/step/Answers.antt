use Rattle.std.proofs.Common.{◌≡◌, ◌<◌, ◌^◌, true, false, pos, sym, ◌∙◌, arith, rules}
use Rattle.std.specs.Prelude.{nat_le}
use Rattle.std.specs.Int.{w64}
use Rattle.std.proofs.lemmas.Bool.Decides.{nat_tests}
use Rattle.std.proofs.lemmas.Int.{to_z-of_z}
use mir.Val.{SFits}
use Rattle.crew.specs.Refusals.{are_workers}
use Rattle.shapes.specs.Shapes.{is_between}
use Rattle.world_rules.specs.Apply.{apply}
use Rattle.world_rules.specs.declared.command.Command.TheVariants.{Step}
use Rattle.world_workers.proofs.WorkerLaws.{due_in_range, wanted, widened}
use Rattle.world_workers.proofs.step_workers.StepWorkers.step.Goals as goal

pub returns-then-is_for_one-clause-answer : goal.returns-then-is_for_one-clause-answer
returns-then-is_for_one-clause-answer g c =
    let fits : SFits w64 c.args.ticks = search rules in
    let known = simp to_z-of_z at c.step_one.ensures in
    let range : are_workers c.args.self.now ≡ true = rw (← c.self.view_is) (sym c.are_workers.ensures ∙ c.if-not-are_workers.false) in
    let worn : nat_le (2 ^ 40) c.args.world.now.plain.calls ≡ false = sym c.is_worn_out.ensures ∙ c.if-is_worn_out.false in
    rw (due_in_range c.args.self.now c.args.world.now.plain c.args.ticks range worn)
    (widened (apply c.args.world.now.plain (Step c.args.ticks)) c.args.world.now c.step_one.result c.step_one.new.self known)

pub returns-in-Err-clause-answer : goal.returns-in-Err-clause-answer
returns-in-Err-clause-answer g c =
    let range : are_workers c.args.self.now ≡ true = rw (← c.self.view_is) (sym c.are_workers.ensures ∙ c.if-not-are_workers.false) in
    let worn : nat_le (2 ^ 40) c.args.world.now.plain.calls ≡ false = sym c.is_worn_out.ensures ∙ c.if-is_worn_out.false in
    let calls : c.args.world.now.plain.calls < 2 ^ 40 = grind (arith, nat_tests) in
    let fits : SFits w64 c.args.ticks = search rules in
    let counted = simp to_z-of_z at c.is_tick_count.ensures in
    let ticks : is_between (pos 1) (pos 8) c.args.ticks ≡ true = sym counted ∙ c.if-not-is_tick_count.false in
    rw (due_in_range c.args.self.now c.args.world.now.plain c.args.ticks range worn)
    (wanted c.args.world.now c.args.ticks c.args.self.now c.in-Err.refused calls ticks range c.in-Err.ensures.refused)

pub returns-in-Ok-clause-answer : goal.returns-in-Ok-clause-answer
returns-in-Ok-clause-answer g c =
    let fits : SFits w64 c.args.ticks = search rules in
    let known = simp to_z-of_z at c.step_by-answer.ensures in
    let range : are_workers c.args.self.now ≡ true = rw (← c.self.view_is) (sym c.are_workers.ensures ∙ c.if-not-are_workers.false) in
    let worn : nat_le (2 ^ 40) c.args.world.now.plain.calls ≡ false = sym c.is_worn_out.ensures ∙ c.if-is_worn_out.false in
    rw (due_in_range c.args.self.now c.args.world.now.plain c.args.ticks range worn)
    (widened (apply c.args.world.now.plain (Step c.args.ticks)) c.args.world.now c.step_by-answer.result c.step_by-answer.new.self known)
