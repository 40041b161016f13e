use Rattle.loaded_text.proofs.ShapeLaws.{ShapesSoFar}
use Rattle.loaded_text.proofs.saved_shapes.add_shapes.Given as goal

abbrev pub invariant-loop-place : goal.invariant-loop-place
invariant-loop-place l = ShapesSoFar l.place l.fn.loaded l.loaded l.initial.text.rest.now l.text.rest.now
