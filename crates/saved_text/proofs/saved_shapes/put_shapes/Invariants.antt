use Rattle.std.proofs.Common.{drop}
use Rattle.world_file_base.specs.SavedShapes.{shapes_of}
use Rattle.saved_text.specs.Tokens.{ItemsLeft}
use Rattle.saved_text.proofs.saved_shapes.put_shapes.Given as goal

abbrev pub invariant-loop-place : goal.invariant-loop-place
invariant-loop-place l = ItemsLeft (shapes_of (drop l.place l.defs) (drop l.place l.fats)) (shapes_of l.defs l.fats) l.fn.out l.out
