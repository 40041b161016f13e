use Rattle.part_solver.proofs.PassSteps.{known_pass}
use Rattle.std.proofs.Common.{length}
use Rattle.part_solver.proofs.part_pass.know_pass.Goals as goal

pub returns : goal.returns
returns c =
    known_pass c.args.step.now (length c.args.ports.now.outs) c.args.turn.number c.args.turn.tick c.args.phase c.requires.part.number c.know.ensures.can c.requires.part.homes c.passes_by_parts.ensures c.visits_are_fair.ensures c.ticks_are_reached.ensures c.stands_are_reached.ensures
    c.mail_is_sent.ensures c.requires.due
