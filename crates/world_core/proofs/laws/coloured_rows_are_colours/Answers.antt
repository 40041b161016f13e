use Rattle.world_core.proofs.RowColourLaws.{coloured_rows}
use Rattle.world_core.proofs.laws.coloured_rows_are_colours.Goals as goal

pub returns : goal.returns
returns c = coloured_rows
