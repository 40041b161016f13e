-- Trusted: The shapes that a frame shows: those of its bodies, in the order of their slots.
use Rattle.std.specs.Prelude.{ℕ, List, [], ◌∷◌, ◌++◌, Option, Some, None, option_map, slice_get}
use Rattle.shapes.specs.declared.shape.ShapeDef.{ShapeDef}
use Rattle.shape_rays.specs.declared.hits.PosedShape.{PosedShape}
use Rattle.world_core.specs.declared.frame.FrameBody.{FrameBody}
use Rattle.world_queries.specs.Posed.{named, shapes_from}

-- the shape of a body that is shown, by its index
abbrev pub framed_shape : FrameBody → ℕ → Option PosedShape
framed_shape b index = option_map (λ (d : ShapeDef). named (record { slot = b.handle.slot; index = index }) (d.shape, b.pose)) (slice_get b.shapes index)

-- its shapes, in order
abbrev pub framed_at : Option FrameBody → List PosedShape
framed_at None = []
framed_at (Some b) = shapes_from b.handle.slot b.pose 0 b.shapes

-- those of all bodies
abbrev pub framed_shapes : List (Option FrameBody) → List PosedShape
framed_shapes [] = []
framed_shapes (o ∷ bodies) = framed_at o ++ framed_shapes bodies
