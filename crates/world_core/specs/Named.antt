-- Inner forms of the code; no public contract rests on them. The shape with a name, read from the bodies.
use Rattle.std.specs.Prelude.{◌≡◌, ◌≤◌, length, ℕ, zero, suc, Bool, cond, List, [], ◌∷◌, Option, Some, None}
use Rattle.fixed_geom.specs.declared.boxes.Box2.{Box2}
use Rattle.shapes.specs.declared.pose.Pose.{Pose}
use Rattle.shapes.specs.declared.shape.ShapeDef.{ShapeDef}
use Rattle.contacts_base.specs.declared.key.ShapeId.{ShapeId}
use Rattle.contacts_base.specs.declared.near.Proxy.{Proxy}
use Rattle.plain_world.specs.declared.body.Body.{Body}
use Rattle.body_handles.specs.declared.slot_table.TheConstants.{MAX_SLOTS}
use Rattle.plain_world.specs.Bodies.{AreBodies, pose_of, stirs}
use Rattle.plain_world.specs.Kinds.{is_dynamic}

abbrev pub proxy_of : ShapeId → Bool → Bool → Pose → ShapeDef → Box2 → Proxy
proxy_of id dynamic stirs pose d fat = record { id = id; fat = fat; filter = d.filter; dynamic = dynamic; stirs = stirs; surface = record { friction = d.friction; restitution = d.restitution }; shape = d.shape; pose = pose }

-- the shape at the place k of those of one body
abbrev pub shape_at : ShapeId → Bool → Bool → Pose → ℕ → List ShapeDef → List Box2 → Option Proxy
shape_at id dynamic stirs pose k [] fats = None
shape_at id dynamic stirs pose k (d ∷ defs) [] = None
shape_at id dynamic stirs pose zero (d ∷ defs) (fat ∷ fats) = Some (proxy_of id dynamic stirs pose d fat)
shape_at id dynamic stirs pose (suc k) (d ∷ defs) (fat ∷ fats) = shape_at id dynamic stirs pose k defs fats

-- the shape with the name, if its body is this one
abbrev pub shape_of : ShapeId → Body → Option Proxy
shape_of id b = cond b.enabled (shape_at id (is_dynamic b.kind) (stirs b) (pose_of b) id.index b.shapes b.fats) None

abbrev pub shape_in : ShapeId → Option Body → Option Proxy
shape_in id None = None
shape_in id (Some b) = shape_of id b

-- bodies whose shapes are read, with nothing put off in the lists of those that are awake and that are carried along
pub record AreShown (bodies : List (Option Body)) (pending : ℕ) : Type 0 where
  pub flushed : pending ≡ 0
  pub few : length bodies ≤ MAX_SLOTS
  pub all : AreBodies bodies
