use Rattle.check_parts.proofs.RowLaws.{no_colours}
use Rattle.check_parts.proofs.colour_solver_ticks.fallen.Goals as goal

pub run_step-sums-requires-clause-apart : goal.run_step-sums-requires-clause-apart
run_step-sums-requires-clause-apart c = no_colours _ _ c.no_rows-rows.ensures.colours
