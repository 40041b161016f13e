use Rattle.std.proofs.Common.{◌≡◌, ℕ, ◌*◌, ◌^◌, length, map}
use Rattle.fixed_geom.specs.Vectors.{plus}
use Rattle.colour_solver.specs.States.{AreAllStates, AreSameBeside, HaveCourses, total}
use Rattle.colour_solver.specs.Colour.{AreColours}
use Rattle.colour_solver.specs.ColourRows.{all_rows}
use Rattle.colour_solver.specs.ConstraintVisits.{AreRowsBelow}
use Rattle.colour_solver.specs.Ticks.{AreSums, added, run_of, start, ticks}
use Rattle.colour_solver.proofs.ticks.run_ticks.Given as goal

abbrev pub invariant-loop-index : goal.invariant-loop-index
invariant-loop-index g l = record {
  run : run_of l.states.items (all_rows (g.P.Passes.rows l.rows)) l.sums ≡ ticks l.index l.gravity (start l.fn.states.items (all_rows (g.P.Passes.rows l.fn.rows)));
  all_states : AreAllStates l.states.items;
  all_rows : AreRowsBelow (length l.states.items) (all_rows (g.P.Passes.rows l.rows));
  colours : map length (g.P.Passes.rows l.rows).colours ≡ map length (g.P.Passes.rows l.fn.rows).colours;
  apart : AreColours l.states.items (g.P.Passes.rows l.rows);
  fits : (n : ℕ) → g.P.Passes.fits l.fn.rows n → g.P.Passes.fits l.rows n;
  long : length l.states.items ≡ length l.fn.states.items;
  same : AreSameBeside l.fn.states.items l.states.items;
  courses : HaveCourses l.states.items;
  small : AreSums (l.index * (3 * 2 ^ 78)) l.sums;
  momentum : total l.states.items ≡ plus (total l.fn.states.items) (added l.sums);
}
