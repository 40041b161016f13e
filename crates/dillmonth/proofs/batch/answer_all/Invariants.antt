use Rattle.std.proofs.Common.{◌-◌, ◌≤◌, length, take}
use Rattle.dillmonth.specs.Batch.{Ran}
use Rattle.dillmonth.proofs.batch.answer_all.Given as goal

abbrev pub invariant-loop-at : goal.invariant-loop-at
invariant-loop-at l = record {
  within : l.at ≤ length l.commands;
  ran : Ran l.shapes (take l.at l.commands) (take l.at l.answers) l.fn.desk l.desk;
}

abbrev pub decreases-loop-at : goal.decreases-loop-at
decreases-loop-at l = length l.commands - l.at
