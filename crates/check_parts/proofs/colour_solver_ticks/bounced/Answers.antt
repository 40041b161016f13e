use Rattle.std.proofs.Common.{ℕ, sym, subst}
use Rattle.colour_solver.specs.ColourRows.{all_rows}
use Rattle.colour_solver.specs.ConstraintVisits.{AreRowsBelow}
use Rattle.check_parts.proofs.RowLaws.{one_colour}
use Rattle.check_parts.proofs.colour_solver_ticks.bounced.Goals as goal

pub run_step-sums-requires-clause-rows : goal.run_step-sums-requires-clause-rows
run_step-sums-requires-clause-rows c = subst (λ (n : ℕ). AreRowsBelow n (all_rows c.in_ok-rows.rows)) (sym c.in_ok-states.ensures.long) c.in_ok-rows.ensures.rows

pub run_step-sums-requires-clause-apart : goal.run_step-sums-requires-clause-apart
run_step-sums-requires-clause-apart c = one_colour _ _ _ c.in_ok-rows.ensures.colours
