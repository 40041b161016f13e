use Rattle.std.proofs.Common.{◌≡◌, ◌*◌, ◌^◌, length}
use Rattle.fixed_geom.specs.Vectors.{plus}
use Rattle.momenta.specs.Gains.{IsGain}
use Rattle.colour_solver.specs.States.{as_vector}
use Rattle.part_runs.specs.Runs.{pass_given}
use Rattle.part_runs.specs.Stages.{given_from}
use Rattle.part_solver.specs.Mail.{ArePosted}
use Rattle.part_solver.specs.Running.{IsBefore, mail_at, stand_at, visits}
use Rattle.part_solver.proofs.part_pass.pass_all.Given as goal

abbrev pub invariant-loop-index : goal.invariant-loop-index
invariant-loop-index g l = record {
  before : IsBefore l.step l.turn.number (visits l.phase) (stand_at l.step l.turn.tick l.phase) l.index l.lists;
  posted : ArePosted l.step (length l.fn.ports.outs) l.turn.number (mail_at l.step l.turn.tick l.phase l.index) l.ports;
  given : plus (as_vector l.given) (given_from l.step l.turn.number (visits l.phase) (stand_at l.step l.turn.tick l.phase) l.index) ≡ pass_given l.step l.turn.number (visits l.phase) (stand_at l.step l.turn.tick l.phase);
  small : IsGain (l.index * 2 ^ 78) l.given;
}
