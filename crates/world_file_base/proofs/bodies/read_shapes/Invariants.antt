use Rattle.std.proofs.Common.{◌≡◌, ◌++◌, drop}
use Rattle.serde_json.specs.View.{items_view}
use Rattle.world_file_base.specs.SavedShapes.{defs_in, fats_in}
use Rattle.world_file_base.specs.AskedShapes.{shapes_asks}
use Rattle.world_file_base.proofs.bodies.read_shapes.Given as goal

abbrev pub invariant-loop-item : goal.invariant-loop-item
invariant-loop-item l = record {
  defs : l.saved.shapes ++ defs_in (items_view (drop l.item-index l.items)) ≡ defs_in (items_view l.items);
  fats : l.saved.fats ++ fats_in (items_view (drop l.item-index l.items)) ≡ fats_in (items_view l.items);
  asked : shapes_asks (items_view (drop l.item-index l.items)) l.reader ≡ shapes_asks (items_view l.items) l.fn.reader;
}
