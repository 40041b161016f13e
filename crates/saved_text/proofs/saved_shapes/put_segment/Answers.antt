use Rattle.world_file_base.specs.SavedShapes.{shape_of}
use Rattle.saved_text.proofs.Objects.{segment_object}
use Rattle.saved_text.proofs.saved_shapes.put_segment.Goals as goal

pub returns : goal.returns
returns c = record { text = λ is. c.put_object.ensures.text (shape_of c.args.def.now c.args.fat) (segment_object c.args.def.now c.args.fat c.args.first c.args.second is) }
