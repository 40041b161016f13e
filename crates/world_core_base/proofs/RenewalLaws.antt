-- Fat boxes made anew change nothing else of a body.
use Rattle.std.proofs.Common.{◌≡◌, ℕ, zero, suc, List, [], ◌∷◌, length, Option, Some, None, Bool, true, false, cond, ◌||◌, refl, ap, ap₂, arith, is_some, subst}
use Rattle.std.specs.Prelude.{option_map}
use Rattle.fixed_geom.specs.Vectors.{plus}
use Rattle.plain_world.specs.declared.body.Body.{Body}
use Rattle.plain_world.specs.Bodies.{can_move, is_awake, is_carried, pose_of, IsBody, AreBodies}
use Rattle.plain_world.specs.Momentum.{momentum, momentum_in}
use Rattle.plain_world.specs.Fats.{renewed_boxes}
use Rattle.plain_world.proofs.BoxLemmas.{renewed_are}
use Rattle.world_core_base.proofs.GatherLaws.{AreMovedBodies, IsMovedBody}
use Rattle.world_core_base.specs.Renewal.{with_renewed, renewed_bodies}
use Rattle.plain_world.specs.Slots.{body_at, shapes_in}
use Rattle.plain_world.specs.InSlots.{HaveSameSlots}

renewed_body : (b : Body) → IsMovedBody b → IsBody (record b { fats = renewed_boxes (pose_of b) b.shapes b.fats })
renewed_body b is = record {
  mass = is.mass;
  motion = is.motion;
  rest = is.rest;
  asleep = is.asleep;
  course = is.course;
  halted = is.halted;
  shapes = is.shapes;
  forms = is.forms;
  fats = renewed_are is.before (pose_of b) b.shapes b.fats is.forms (record { x = is.motion.x; rot = is.motion.facing }) is.fats;
}

kept_if : (m c : Bool) (b : Body) → is_awake b ≡ m → is_carried b ≡ c → IsMovedBody b → IsBody (cond (m || c) (record b { fats = renewed_boxes (pose_of b) b.shapes b.fats }) b)
kept_if true c b e f is = renewed_body b is
kept_if false true b e f is = renewed_body b is
kept_if false false b e f is = record { mass = is.mass; motion = is.motion; rest = is.rest; asleep = is.asleep; course = is.course; halted = is.halted; shapes = is.shapes; forms = is.forms; fats = is.still e f }

is_body : (b : Body) → IsMovedBody b → IsBody (with_renewed b)
is_body b is = kept_if (is_awake b) (is_carried b) b refl refl is

entry_body : (o : Option Body) (b : Body) → ((a : Body) → o ≡ Some a → IsMovedBody a) → option_map with_renewed o ≡ Some b → IsBody b
entry_body None b is e = cc
entry_body (Some a) b is e = let same : with_renewed a ≡ b = cc in subst IsBody same (is_body a (is a refl))

-- the bodies that the ticks have moved, once their fat boxes are made anew
pub bodies-renewed : (bodies : List (Option Body)) → AreMovedBodies bodies → AreBodies (renewed_bodies bodies)
bodies-renewed [] all slot b e = cc
bodies-renewed (o ∷ os) all zero b e = entry_body o b (λ a f. all zero a (ap Some f)) (cc)
bodies-renewed (o ∷ os) all (suc slot) b e = bodies-renewed os (λ k c f. all (suc k) c f) slot b e

same_length : (bodies : List (Option Body)) → length (renewed_bodies bodies) ≡ length bodies
same_length [] = refl
same_length (o ∷ os) = let rest = same_length os in omega (arith, rest)

same_presence : (o : Option Body) → is_some (option_map with_renewed o) ≡ is_some o
same_presence None = refl
same_presence (Some b) = refl

same_taken : (bodies : List (Option Body)) (slot : ℕ) → is_some (body_at (renewed_bodies bodies) slot) ≡ is_some (body_at bodies slot)
same_taken [] slot = refl
same_taken (o ∷ os) zero = same_presence o
same_taken (o ∷ os) (suc slot) = same_taken os slot

shapes_if : (m : Bool) (b : Body) → shapes_in (Some (cond m (record b { fats = renewed_boxes (pose_of b) b.shapes b.fats }) b)) ≡ shapes_in (Some b)
shapes_if true b = refl
shapes_if false b = refl

same_shapes : (o : Option Body) → shapes_in (option_map with_renewed o) ≡ shapes_in o
same_shapes None = refl
same_shapes (Some b) = shapes_if (can_move b) b

shapes-renewed : (bodies : List (Option Body)) (slot : ℕ) → shapes_in (body_at (renewed_bodies bodies) slot) ≡ shapes_in (body_at bodies slot)
shapes-renewed [] slot = refl
shapes-renewed (o ∷ os) zero = same_shapes o
shapes-renewed (o ∷ os) (suc slot) = shapes-renewed os slot

pub slots-renewed : (bodies : List (Option Body)) → HaveSameSlots bodies (renewed_bodies bodies)
slots-renewed bodies = record { slots = same_length bodies; taken = same_taken bodies; shapes = shapes-renewed bodies }

momentum_if : (m : Bool) (b : Body) → momentum_in (Some (cond m (record b { fats = renewed_boxes (pose_of b) b.shapes b.fats }) b)) ≡ momentum_in (Some b)
momentum_if true b = refl
momentum_if false b = refl

momentum_same : (o : Option Body) → momentum_in (option_map with_renewed o) ≡ momentum_in o
momentum_same None = refl
momentum_same (Some b) = momentum_if (can_move b) b

pub momentum-renewed : (bodies : List (Option Body)) → momentum (renewed_bodies bodies) ≡ momentum bodies
momentum-renewed [] = refl
momentum-renewed (o ∷ os) = ap₂ plus (momentum_same o) (momentum-renewed os)
