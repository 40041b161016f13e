use Rattle.std.proofs.Common.{◌≡◌, ◌*◌, ◌^◌, length}
use Rattle.colour_solver.specs.Ticks.{AreSums}
use Rattle.colour_solver.specs.declared.phase.Phase.TheVariants.{Warm}
use Rattle.part_runs.specs.Runs.{stand_of, ticks_stand, ticks_sums}
use Rattle.part_solver.specs.Mail.{ArePosted}
use Rattle.part_solver.specs.Running.{IsStanding, mail_before, sums_of}
use Rattle.part_solver.proofs.run.run.Given as goal

abbrev pub invariant-loop-tick : goal.invariant-loop-tick
invariant-loop-tick g l = record {
  standing : IsStanding l.step l.number (ticks_stand l.tick l.step.gravity (stand_of l.step)) l.lists;
  posted : ArePosted l.step (length l.fn.ports.outs) l.number (mail_before l.step l.tick Warm) l.ports;
  sums : sums_of l.outcome.sums ≡ ticks_sums l.step l.number l.tick;
  small : AreSums (l.tick * 2 ^ 86) l.outcome.sums;
}
