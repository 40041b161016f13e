use Rattle.std.proofs.Common.{◌≤◌, length}
use Rattle.body_handles.specs.declared.slot_table.TheConstants.{MAX_SLOTS}
use Rattle.colour_solver.specs.Sums.{AreSumsOf, first_sum, second_sum}
use Rattle.colour_solver.proofs.AwakeLaws.{HasWalked}
use Rattle.colour_solver.proofs.passes.pass_two.Given as goal

abbrev pub invariant-loop-place : goal.invariant-loop-place
invariant-loop-place g l = record {
  walked : HasWalked (g.A.Change.after l.first) (g.B.Change.after l.second) (g.B.Change.gives l.second) l.fn.states.items l.awake l.place l.states.items (first_sum l.sums) (second_sum l.sums);
  few : length l.awake ≤ MAX_SLOTS;
  small : AreSumsOf l.place l.sums;
}
