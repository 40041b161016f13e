use Rattle.std.proofs.Common.{◌≡◌, ◌++◌, drop, map}
use Rattle.serde_json.specs.View.{view}
use Rattle.world_file_base.specs.SavedShapes.{shapes_of}
use Rattle.world_file_base.proofs.writing_bodies.shapes_value.Given as goal

abbrev pub invariant-loop-place : goal.invariant-loop-place
invariant-loop-place l = map view l.items.items ++ shapes_of (drop l.place l.defs) (drop l.place l.fats) ≡ shapes_of l.defs l.fats
