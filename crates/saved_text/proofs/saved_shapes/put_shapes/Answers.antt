use Rattle.std.proofs.Common.{drop, arith}
use Rattle.world_file_base.specs.SavedShapes.{shapes_of}
use Rattle.saved_text.proofs.Adding.{list_added, list_begun, wrote}
use Rattle.saved_text.proofs.Ends.{shapes_end}
use Rattle.saved_text.proofs.saved_shapes.put_shapes.Goals as goal

pub loop-place-init : goal.loop-place-init
loop-place-init c = list_begun (shapes_of c.args.defs.now c.args.fats.now) _ _ (wrote _ _ _ _ c.in_ok-begin_array.ensures)

pub returns : goal.returns
returns c =
    let k = c.loop-place.place in
    let defs = c.args.defs.now in
    let fats = c.args.fats.now in
    record {
      text = list_added (shapes_of (drop k defs) (drop k fats)) (shapes_of defs fats) _ _ _
          (shapes_end defs fats c.lesser-place-end.result k c.lesser-place-end.ensures.one (omega arith)) c.loop-place.invariant (wrote _ _ _ _ c.in_ok-end_array.ensures);
    }
