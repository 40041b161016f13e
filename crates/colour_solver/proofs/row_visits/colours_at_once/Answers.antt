use Rattle.colour_solver.proofs.ColourLaw.{colour_law}
use Rattle.colour_solver.proofs.row_visits.colours_at_once.Goals as goal

pub returns : goal.returns
returns g c = colour_law g.R.Row.slots
