-- Trusted: The shapes of a world that can be seen: those of its enabled bodies, ascending.
use Rattle.std.specs.Prelude.{ℕ, suc, cond, List, [], ◌∷◌, ◌++◌, Option, Some, None}
use Rattle.contacts_base.specs.declared.key.ShapeId.{ShapeId}
use Rattle.plain_world.specs.declared.body.Body.{Body}
use Rattle.plain_world.specs.Bodies.{pose_of}
use Rattle.shape_rays.specs.declared.hits.PosedShape.{PosedShape}
use Rattle.shapes.specs.declared.pose.Pose.{Pose}
use Rattle.shapes.specs.declared.shape.Shape.{Shape}
use Rattle.shapes.specs.declared.shape.ShapeDef.{ShapeDef}

-- a shape and the pose of its body, under its name
abbrev pub named : ShapeId → Shape × Pose → PosedShape
named id found = record { id = id; shape = found.0; pose = found.1 }

-- the shapes of a body with this pose, from the one at `index` on
abbrev pub shapes_from : ℕ → Pose → ℕ → List ShapeDef → List PosedShape
shapes_from slot pose index [] = []
shapes_from slot pose index (d ∷ defs) = named (record { slot = slot; index = index }) (d.shape, pose) ∷ shapes_from slot pose (suc index) defs

-- those of the body in a slot: none of a disabled body
abbrev pub shapes_at : ℕ → Option Body → List PosedShape
shapes_at slot None = []
shapes_at slot (Some b) = cond b.enabled (shapes_from slot (pose_of b) 0 b.shapes) []

-- where the list of bodies begins with this slot
abbrev pub posed_from : ℕ → List (Option Body) → List PosedShape
posed_from slot [] = []
posed_from slot (o ∷ bodies) = shapes_at slot o ++ posed_from (suc slot) bodies

-- those of all enabled bodies, ascending by name
abbrev pub posed_shapes : List (Option Body) → List PosedShape
posed_shapes bodies = posed_from 0 bodies
