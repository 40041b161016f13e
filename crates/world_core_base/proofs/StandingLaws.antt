-- A body that is told, timed or moved stays in its slot with its shapes, enabled or not as it was, and a mover or none.
use Rattle.std.proofs.Common.{◌≡◌, ℕ, zero, suc, ◌+◌, Bool, true, false, cond, List, [], ◌∷◌, length, map, Option, Some, None, is_some, refl, ◌∙◌}
use Rattle.std.specs.Prelude.{option_map}
use Rattle.momenta.specs.declared.state.BodyState.{BodyState}
use Rattle.islands.specs.Labels.{Labels, label_at, sleeping_name}
use Rattle.islands.specs.declared.label.Label.{Label}
use Rattle.plain_world.specs.declared.body.Body.{Body}
use Rattle.plain_world.specs.Bodies.{can_move, is_awake, is_carried, is_mover, is_mover_in, pose_of}
use Rattle.plain_world.specs.Fats.{renewed_boxes}
use Rattle.plain_world.specs.Sleep.{is_slow, roused, timed, timed_bodies, told, told_body, told_by, told_from}
use Rattle.plain_world.specs.Slots.{body_at, shapes_in}
use Rattle.plain_world.specs.InSlots.{HaveSameSlots}
use Rattle.world_core_base.specs.Carried.{carried_to}
use Rattle.world_core_base.specs.Gather.{with_motion, with_motions}
use Rattle.world_core_base.specs.Renewal.{renewed_bodies, with_renewed}
use Rattle.world_core_base.specs.Standing.{HaveSameStanding, is_enabled_in}
use Rattle.world_core_base.proofs.GatherLaws.{mover_moved}
use Rattle.world_core_base.proofs.TellLaws.{length-told}
use Rattle.world_core_base.proofs.TimeLaws.{length-timed}

-- ---- one body, one slot, and all

-- b is what such a change makes of a
record IsAlike (a b : Body) : Type 0 where
  enabled : b.enabled ≡ a.enabled
  mover : is_mover b ≡ is_mover a
  shapes : b.shapes ≡ a.shapes

record AreAlikeIn (o p : Option Body) : Type 0 where
  taken : is_some p ≡ is_some o
  shapes : shapes_in p ≡ shapes_in o
  enabled : is_enabled_in p ≡ is_enabled_in o
  mover : is_mover_in p ≡ is_mover_in o

abbrev AreAlike : List (Option Body) → List (Option Body) → Type 0
AreAlike old new = (slot : ℕ) → AreAlikeIn (body_at old slot) (body_at new slot)

same_in : (o : Option Body) → AreAlikeIn o o
same_in o = record { taken = refl; shapes = refl; enabled = refl; mover = refl }

alike_in : (f : Body → Body) → ((b : Body) → IsAlike b (f b)) → (o : Option Body) → AreAlikeIn o (option_map f o)
alike_in f alike None = same_in None
alike_in f alike (Some b) = let h : IsAlike b (f b) = alike b in record { taken = refl; shapes = λ j. cond (h.enabled j) (length (h.shapes j)) 0; enabled = h.enabled; mover = h.mover }

same_slots : (old new : List (Option Body)) → length new ≡ length old → AreAlike old new → HaveSameSlots old new
same_slots old new long alike = record { slots = long; taken = λ slot. (alike slot).taken; shapes = λ slot. (alike slot).shapes }

same_standing : (old new : List (Option Body)) → AreAlike old new → HaveSameStanding old new
same_standing old new alike = record { enabled = λ slot. (alike slot).enabled; movers = λ slot. (alike slot).mover }

all_mapped : (f : Body → Body) → ((b : Body) → IsAlike b (f b)) → (bodies : List (Option Body)) → AreAlike bodies (map (option_map f) bodies)
all_mapped f alike [] slot = same_in None
all_mapped f alike (o ∷ os) zero = alike_in f alike o
all_mapped f alike (o ∷ os) (suc slot) = all_mapped f alike os slot

-- ---- bodies that are told

told_mover : (o : Option ℕ) (b : Body) → IsAlike b (told_by o b)
told_mover (Some name) b = record { enabled = refl; mover = refl; shapes = refl }
told_mover None b = by (is_some b.asleep)
  where
    by : (t : Bool) → IsAlike b (cond t (roused b) b)
    by true = record { enabled = refl; mover = refl; shapes = refl }
    by false = record { enabled = refl; mover = refl; shapes = refl }

told_alike : (label : Option Label) (b : Body) → IsAlike b (told_body label b)
told_alike label b = by (is_mover b)
  where
    by : (t : Bool) → IsAlike b (cond t (told_by (sleeping_name label) b) b)
    by true = told_mover (sleeping_name label) b
    by false = record { enabled = refl; mover = refl; shapes = refl }

all_told : (labels : Labels) (n : ℕ) (bodies : List (Option Body)) → AreAlike bodies (told_from n labels bodies)
all_told labels n [] slot = same_in None
all_told labels n (o ∷ os) zero = alike_in (told_body (label_at labels n)) (told_alike (label_at labels n)) o
all_told labels n (o ∷ os) (suc slot) = all_told labels (suc n) os slot

told_whole : (labels : Labels) (bodies : List (Option Body)) → AreAlike bodies (told labels bodies)
unfolding told
told_whole labels bodies = all_told labels 0 bodies

pub slots-told : (labels : Labels) (bodies : List (Option Body)) → HaveSameSlots bodies (told labels bodies)
slots-told labels bodies = same_slots bodies (told labels bodies) (length-told labels bodies) (told_whole labels bodies)

pub standing-told : (labels : Labels) (bodies : List (Option Body)) → HaveSameStanding bodies (told labels bodies)
standing-told labels bodies = same_standing bodies (told labels bodies) (told_whole labels bodies)

-- ---- bodies that are timed

timed_alike : (ticks : ℕ) (b : Body) → IsAlike b (timed ticks b)
timed_alike ticks b = by (is_awake b) (cond (is_slow b.mass b.motion) (b.timer + ticks) 0)
  where
    by : (t : Bool) (n : ℕ) → IsAlike b (cond t (record b { timer = n }) b)
    by true n = record { enabled = refl; mover = refl; shapes = refl }
    by false n = record { enabled = refl; mover = refl; shapes = refl }

pub slots-timed : (ticks : ℕ) (bodies : List (Option Body)) → HaveSameSlots bodies (timed_bodies ticks bodies)
slots-timed ticks bodies = same_slots bodies (timed_bodies ticks bodies) (length-timed ticks bodies) (all_mapped (timed ticks) (timed_alike ticks) bodies)

pub standing-timed : (ticks : ℕ) (bodies : List (Option Body)) → HaveSameStanding bodies (timed_bodies ticks bodies)
standing-timed ticks bodies = same_standing bodies (timed_bodies ticks bodies) (all_mapped (timed ticks) (timed_alike ticks) bodies)

-- ---- bodies that the ticks have moved

moved_alike : (s : BodyState) (b : Body) → IsAlike b (with_motion s b)
moved_alike s b = record { enabled = same_enabled (is_awake b) (is_carried b); mover = mover_moved s b; shapes = same_shapes (is_awake b) (is_carried b) }
  where
    same_enabled : (m c : Bool) → (cond m (record b { motion = s.motion }) (cond c (carried_to s.motion b) b)).enabled ≡ b.enabled
    same_enabled true c = refl
    same_enabled false true = refl
    same_enabled false false = refl

    same_shapes : (m c : Bool) → (cond m (record b { motion = s.motion }) (cond c (carried_to s.motion b) b)).shapes ≡ b.shapes
    same_shapes true c = refl
    same_shapes false true = refl
    same_shapes false false = refl

all_moved : (bodies : List (Option Body)) (states : List BodyState) → AreAlike bodies (with_motions bodies states)
all_moved [] states slot = same_in None
all_moved (o ∷ os) [] slot = same_in (body_at (o ∷ os) slot)
all_moved (o ∷ os) (s ∷ ss) zero = alike_in (with_motion s) (moved_alike s) o
all_moved (o ∷ os) (s ∷ ss) (suc slot) = all_moved os ss slot

renewed_alike : (b : Body) → IsAlike b (with_renewed b)
renewed_alike b = by (can_move b)
  where
    by : (t : Bool) → IsAlike b (cond t (record b { fats = renewed_boxes (pose_of b) b.shapes b.fats }) b)
    by true = record { enabled = refl; mover = refl; shapes = refl }
    by false = record { enabled = refl; mover = refl; shapes = refl }

pub standing-moved : (bodies : List (Option Body)) (states : List BodyState) → HaveSameStanding bodies (with_motions bodies states)
standing-moved bodies states = same_standing bodies (with_motions bodies states) (all_moved bodies states)

pub standing-renewed : (bodies : List (Option Body)) → HaveSameStanding bodies (renewed_bodies bodies)
standing-renewed bodies = same_standing bodies (renewed_bodies bodies) (all_mapped with_renewed renewed_alike bodies)

-- once their fat boxes are made anew
pub standing-both : (bodies : List (Option Body)) (states : List BodyState) → HaveSameStanding bodies (renewed_bodies (with_motions bodies states))
standing-both bodies states =
    let first : HaveSameStanding bodies (with_motions bodies states) = standing-moved bodies states in
    let second : HaveSameStanding (with_motions bodies states) (renewed_bodies (with_motions bodies states)) = standing-renewed (with_motions bodies states) in
    record { enabled = λ slot. second.enabled slot ∙ first.enabled slot; movers = λ slot. second.movers slot ∙ first.movers slot }
