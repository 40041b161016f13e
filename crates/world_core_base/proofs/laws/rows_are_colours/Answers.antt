use Rattle.world_core_base.proofs.RowColourLaws.{colour_rows_apart}
use Rattle.world_core_base.proofs.laws.rows_are_colours.Goals as goal

pub returns : goal.returns
returns c = colour_rows_apart
