-- What queries read of a world: shapes and poses as those of bodies are.
use Rattle.std.proofs.Common.{◌≡◌, ℕ, ◌<◌, Bool, true, false, cond, All, List, length, Option, None, Some, IfSome, refl, subst}
use Rattle.std.proofs.lemmas.Option.{slice_get_within, get_or_from_slice_get}
use Rattle.std.specs.Prelude.{option_map, slice_get}
use Rattle.std.specs.Option.{option_flatten}
use Rattle.plain_world.specs.Bodies.{AreBodies, IsBody, pose_of}
use Rattle.plain_world.specs.Placement.{shape_in}
use Rattle.plain_world.specs.declared.body.Body.{Body}
use Rattle.shapes.specs.Poses.{IsPose}
use Rattle.shapes.specs.Shapes.{IsShape, IsShapeDef}
use Rattle.shapes.specs.declared.pose.Pose.{Pose}
use Rattle.shapes.specs.declared.shape.Shape.{Shape}
use Rattle.shapes.specs.declared.shape.ShapeDef.{ShapeDef}

-- a shape that a body may have, and a pose, if there are any
pub record IsSeen (o : Option (Shape × Pose)) : Type 0 where
  pub shape : IfSome o (λ f. IsShape f.0)
  pub pose : IfSome o (λ f. IsPose f.1)

none_seen : IsSeen None
none_seen = record { shape = tt; pose = tt }

item_seen : (defs : List ShapeDef) (pose : Pose) (i : ℕ) (o : Option ShapeDef) → slice_get defs i ≡ o → All IsShapeDef defs → IsPose pose → IsSeen (option_map (λ (d : ShapeDef). (d.shape, pose)) o)
item_seen defs pose i None e forms p = none_seen
item_seen defs pose i (Some d) e forms p =
    let inside : i < length defs = slice_get_within defs i d e in
    record {
      shape = (subst IsShapeDef (get_or_from_slice_get defs i d d e) (forms i d inside)).shape;
      pose = p;
    }

enabled_seen : (t : Bool) (o : Option (Shape × Pose)) → IsSeen o → IsSeen (cond t o None)
enabled_seen true o h = h
enabled_seen false o h = none_seen

body_seen : (b : Body) (i : ℕ) → IsBody b → IsSeen (shape_in (Some b) i)
body_seen b i h =
    enabled_seen b.enabled (option_map (λ (d : ShapeDef). (d.shape, pose_of b)) (slice_get b.shapes i))
    (item_seen b.shapes (pose_of b) i (slice_get b.shapes i) refl h.forms (record { x = h.motion.x; rot = h.motion.facing }))

slot_seen : (bodies : List (Option Body)) (slot i : ℕ) (o : Option (Option Body)) → slice_get bodies slot ≡ o → AreBodies bodies → IsSeen (shape_in (option_flatten o) i)
slot_seen bodies slot i None e h = none_seen
slot_seen bodies slot i (Some None) e h = none_seen
slot_seen bodies slot i (Some (Some b)) e h = body_seen b i (h slot b e)

pub shape_seen : (bodies : List (Option Body)) (slot i : ℕ) → AreBodies bodies → IsSeen (shape_in (option_flatten (slice_get bodies slot)) i)
shape_seen bodies slot i h = slot_seen bodies slot i (slice_get bodies slot) refl h

-- what holds of the value that a function gives holds of what it was given
pub some_before : {A B : Type 0} (f : A → B) (P : B → Type 0) (o : Option A) → IfSome (option_map f o) P → IfSome o (λ a. P (f a))
some_before f P None h = tt
some_before f P (Some a) h = h
