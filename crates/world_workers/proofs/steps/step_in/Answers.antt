use Rattle.std.proofs.Common.{rules}
use Rattle.std.specs.Int.{w64}
use Rattle.std.proofs.lemmas.Int.{to_z-of_z}
use mir.Val.{SFits}
use Rattle.world_rules.specs.Apply.{apply}
use Rattle.world_rules.specs.declared.command.Command.TheVariants.{Step}
use Rattle.world_workers.proofs.WorkerLaws.{wanted, widened}
use Rattle.world_workers.proofs.steps.step_in.Goals as goal

pub returns-in-Err : goal.returns-in-Err
returns-in-Err g c = wanted c.args.task.world c.args.task.ticks c.args.workers c.in-Err.refused c.requires.calls c.requires.ticks c.requires.workers c.in-Err.ensures

pub returns-in-Ok : goal.returns-in-Ok
returns-in-Ok g c =
    let fits : SFits w64 c.args.task.ticks = search rules in
    let known = simp to_z-of_z at c.step_by-answer.ensures in
    widened (apply c.args.task.world.plain (Step c.args.task.ticks)) c.args.task.world c.step_by-answer.result c.step_by-answer.new.self known
