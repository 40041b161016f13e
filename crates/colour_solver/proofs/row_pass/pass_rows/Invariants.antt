use Rattle.std.proofs.Common.{◌≡◌, ◌≤◌, ◌^◌, length, take, drop}
use Rattle.momenta.specs.Gains.{IsGain}
use Rattle.colour_solver.specs.States.{as_vector}
use Rattle.colour_solver.specs.RowVisits.{AreRowsOn, IsPassed, between}
use Rattle.colour_solver.proofs.row_pass.pass_rows.Given as goal

abbrev pub invariant-loop-index : goal.invariant-loop-index
invariant-loop-index g l =
    let all = l.fn.rows.items in
    record {
      passed : IsPassed g.R.Row.slots g.R.Row.is_row (g.T.Visit.visit l.visit) l.fn.states.items (between l.start l.index all) l.states.items (between l.start l.index l.rows.items) (as_vector l.given);
      before : take l.start l.rows.items ≡ take l.start all;
      behind : drop l.index l.rows.items ≡ drop l.index all;
      as_many : length l.rows.items ≡ length all;
      all_rows : AreRowsOn g.R.Row.slots g.R.Row.is_row (length l.states.items) l.rows.items;
      small : IsGain (2 ^ 78) l.given;
      low : l.start ≤ l.index;
      high : l.index ≤ l.end;
    }
