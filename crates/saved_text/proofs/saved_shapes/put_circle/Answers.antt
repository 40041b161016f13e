use Rattle.world_file_base.specs.SavedShapes.{shape_of}
use Rattle.saved_text.proofs.Objects.{circle_object}
use Rattle.saved_text.proofs.saved_shapes.put_circle.Goals as goal

pub returns : goal.returns
returns c = record { text = λ is. c.put_object.ensures.text (shape_of c.args.def.now c.args.fat) (circle_object c.args.def.now c.args.fat c.args.center c.args.radius.now is) }
