-- Trusted: Bodies: which are movers, where each stands, and what may be made.
use Rattle.std.specs.Prelude.{◌≡◌, ℕ, ◌^◌, Bool, true, false, ◌&&◌, ◌||◌, cond, All, List, Option, Some, None, pos, slice_get}
use Rattle.std.specs.Option.{is_none, option_map_or, option_or}
use Rattle.std.specs.Ordering.{int_eq}
use Rattle.fixed_geom.specs.Vectors.{IsWithin, is_within}
use Rattle.fixed_geom.specs.Facings.{IsFacing, is_facing}
use Rattle.fixed_geom.specs.Refusals.{refused_unless}
use Rattle.fixed_geom.specs.declared.vectors.Vec2.{Vec2}
use Rattle.fixed_geom.specs.declared.facings.Rot.{Rot}
use Rattle.fixed_geom.specs.declared.refusal.Refusal.{Refusal}
use Rattle.fixed_geom.specs.declared.refusal.Refusal.TheVariants.{OutOfRange}
use Rattle.momenta.specs.Motions.{IsMass, IsMotion}
use Rattle.momenta.specs.declared.mass.MassData.{MassData}
use Rattle.momenta.specs.declared.motion.Motion.{Motion}
use Rattle.plain_world.specs.declared.kind.Kind.{Kind}
use Rattle.plain_world.specs.declared.kind.Kind.TheVariants.{Static, Kinematic, Dynamic}
use Rattle.plain_world.specs.Kinds.{IsCourseOf, carried_by, course_of, is_course_allowed, is_dynamic, is_kinematic, is_moving, is_static}
use Rattle.plain_world.specs.declared.body.SetName.{SetName}
use Rattle.plain_world.specs.declared.body.SetName.TheVariants as sets
use Rattle.plain_world.specs.declared.body.Body.{Body}
use Rattle.plain_world.specs.declared.body.BodyDef.{BodyDef}
use Rattle.plain_world.specs.declared.body.BodyView.{BodyView}
use Rattle.shapes.specs.Shapes.{is_between, shapes_refusal, IsShapeDef}
use Rattle.shapes.specs.declared.pose.Pose.{Pose}
use Rattle.plain_world.specs.Fats.{AreFatBoxes, fat_boxes}
use Rattle.plain_world.specs.Slots.{body_at}

-- ---- where a body stands

-- a mover: an enabled dynamic body
abbrev pub is_mover : Body → Bool
is_mover b = cond b.enabled (is_dynamic b.kind) false

abbrev pub is_mover_in : Option Body → Bool
is_mover_in body = option_map_or is_mover body false

abbrev pub moves : List (Option Body) → ℕ → Bool
moves bodies slot = is_mover_in (body_at bodies slot)

-- a mover that is awake: what the collide, the colours and the solver take
abbrev pub is_awake : Body → Bool
is_awake b = cond (is_mover b) (is_none b.asleep) false

-- a body that is carried along with a course of its own: an enabled kinematic one
abbrev pub is_carried : Body → Bool
is_carried b = cond b.enabled (is_kinematic b.kind) false

abbrev pub can_move : Body → Bool
can_move b = is_awake b || is_carried b

-- a body that the contacts with it are evaluated for: an awake mover, or one that is carried along and moves
abbrev pub stirs : Body → Bool
stirs b = is_awake b || cond (is_carried b) (is_moving (carried_by b.kind)) false

abbrev pub set_of : Kind → Option ℕ → SetName
set_of Static asleep = sets.Static
set_of (Kinematic course) asleep = sets.Awake
set_of Dynamic asleep = option_map_or (λ name. sets.Sleeping name) asleep sets.Awake

abbrev pub standing_of : Body → SetName
standing_of b = cond b.enabled (set_of b.kind b.asleep) sets.Disabled

-- where its shapes are in the world
abbrev pub pose_of : Body → Pose
pose_of b = record { x = b.motion.x; rot = b.motion.rot }

-- what can be seen of a body
abbrev pub view_of : Body → BodyView
view_of b = record { at = b.motion.x; facing = b.motion.rot; p = b.motion.p; l = b.motion.l; course = course_of b.kind; set = standing_of b }

-- ---- a body that is made

abbrev pub is_no_mass : MassData → Bool
is_no_mass m = int_eq m.mass (pos 0) && int_eq m.inertia (pos 0)

abbrev pub is_mass_allowed : Kind → MassData → Bool
is_mass_allowed Static m = is_no_mass m
is_mass_allowed (Kinematic course) m = is_no_mass m
is_mass_allowed Dynamic m = is_between (pos 1) (pos (2 ^ 20)) m.mass && is_between (pos 0) (pos (2 ^ 60)) m.inertia

-- why a body can't be made: first its shapes, of which segments are for static bodies alone, then its numbers
unfoldable pub def_refusal : BodyDef → Option Refusal
def_refusal d =
    option_or (shapes_refusal (is_static d.kind) d.shapes) (
    refused_unless (is_mass_allowed d.kind d.mass) OutOfRange (
    refused_unless (is_course_allowed d.kind) OutOfRange (
    refused_unless (is_within (2 ^ 36) d.x) OutOfRange (
    refused_unless (is_facing d.rot) OutOfRange (
    None)))))

abbrev pub at_rest : Vec2 → Rot → Motion
at_rest x rot = record { p = record { x = pos 0; y = pos 0 }; l = pos 0; x = x; rot = rot }

-- the body: at rest, enabled, awake if it is a mover, its timer 0
abbrev pub made : BodyDef → Body
made d = record { kind = d.kind; mass = d.mass; motion = at_rest d.x d.rot; shapes = d.shapes; fats = fat_boxes d.shapes (record { x = d.x; rot = d.rot }); timer = 0; enabled = true; asleep = None }

abbrev pub IsMassOf : Kind → MassData → Type 0
IsMassOf Static m = (m.mass ≡ pos 0) × (m.inertia ≡ pos 0)
IsMassOf (Kinematic course) m = (m.mass ≡ pos 0) × (m.inertia ≡ pos 0)
IsMassOf Dynamic m = IsMass m

-- nothing keeps the body from being made
pub record IsAllowed (d : BodyDef) : Type 0 where
  pub shapes : shapes_refusal (is_static d.kind) d.shapes ≡ None
  pub forms : All IsShapeDef d.shapes
  pub mass : IsMassOf d.kind d.mass
  pub course : IsCourseOf d.kind
  pub place : IsWithin (2 ^ 36) d.x
  pub facing : IsFacing d.rot

-- ---- a body as it stands between calls

pub record IsAtRest (s : Motion) : Type 0 where
  pub x : s.p.x ≡ pos 0
  pub y : s.p.y ≡ pos 0
  pub l : s.l ≡ pos 0

pub record IsBody (b : Body) : Type 0 where
  pub mass : IsMassOf b.kind b.mass
  pub motion : IsMotion b.mass b.motion
  pub rest : is_awake b ≡ false → IsAtRest b.motion
  pub asleep : is_mover b ≡ false → b.asleep ≡ None
  pub course : IsCourseOf b.kind
  pub halted : b.enabled ≡ false → is_moving (carried_by b.kind) ≡ false
  pub shapes : shapes_refusal (is_static b.kind) b.shapes ≡ None
  pub forms : All IsShapeDef b.shapes
  pub fats : AreFatBoxes (pose_of b) b.shapes b.fats

abbrev pub AreBodies : List (Option Body) → Type 0
AreBodies bodies = (slot : ℕ) (b : Body) → slice_get bodies slot ≡ Some (Some b) → IsBody b
