-- The ends of joints by body: the set of a body has the ids of the ends that stand at it, 2 s for the first end of the
-- joint in the slot s, and 2 s + 1 for its second.
use Rattle.std.specs.Prelude.{◌≡◌, ℕ, ◌+◌, ◌*◌, ◌/◌, ◌^◌, ◌<◌, ◌≤◌, ◌==◌, cond, List, map, length, Option, Some, None, IfSome, count_by, option_map}
use Rattle.packed_sets.specs.Packs.{Packs, capacity_at, list_at}
use Rattle.plain_world.specs.declared.joint.BodyJoint.{BodyJoint}
use Rattle.plain_world.specs.Joints.{joint_at}
use Rattle.world_core_base.specs.declared.joint_ends.Ends.{Ends}

abbrev pub ends_of : BodyJoint → Ends
ends_of j = record { a = j.a; b = j.b }

-- joints with the ends that others have
abbrev pub KeepEnds : List (Option BodyJoint) → List (Option BodyJoint) → Type 0
KeepEnds old new = (slot : ℕ) → option_map ends_of (joint_at new slot) ≡ option_map ends_of (joint_at old slot)

abbrev pub first_of : Option BodyJoint → Option ℕ
first_of None = None
first_of (Some j) = Some j.a

abbrev pub second_of : Option BodyJoint → Option ℕ
second_of None = None
second_of (Some j) = Some j.b

-- slots of 32 bits
pub record IsSmall (e : Ends) : Type 0 where
  pub first : e.a < 2 ^ 32
  pub second : e.b < 2 ^ 32

-- how often an end, if there is one, stands at the body
abbrev pub stands_at : ℕ → Option ℕ → ℕ
stands_at body None = 0
stands_at body (Some other) = cond (other == body) 1 0

-- how often an id is in the set of a body
abbrev pub times_in : List (List ℕ) → ℕ → ℕ → ℕ
times_in sets body id = count_by (λ m. m == id) (list_at sets body)

-- the sets have the ends of the joints, each once, and no other id; the bodies are in slots of 32 bits
pub record AreEnds (joints : List (Option BodyJoint)) (sets : List (List ℕ)) : Type 0 where
  pub first : (body slot : ℕ) → times_in sets body (2 * slot) ≡ stands_at body (first_of (joint_at joints slot))
  pub second : (body slot : ℕ) → times_in sets body (2 * slot + 1) ≡ stands_at body (second_of (joint_at joints slot))
  pub small : (slot : ℕ) → IfSome (option_map ends_of (joint_at joints slot)) IsSmall

-- those of the joint in one slot are put in, where none were
pub record AreNoted (old new : List (List ℕ)) (slot : ℕ) (ends : Ends) : Type 0 where
  pub first : (body k : ℕ) → times_in new body (2 * k) ≡ cond (k == slot) (stands_at body (Some ends.a)) (times_in old body (2 * k))
  pub second : (body k : ℕ) → times_in new body (2 * k + 1) ≡ cond (k == slot) (stands_at body (Some ends.b)) (times_in old body (2 * k + 1))
  pub small : IsSmall ends

-- the slots of the joints with these ends
abbrev pub halves : List ℕ → List ℕ
halves ids = map (λ id. id / 2) ids

-- the set of the body has room for two ends
pub record HasRoomAt (body : ℕ) (sets : Packs ℕ) : Type 0 where
  pub there : body < length sets.sets
  pub space : length (list_at sets.sets body) + 2 ≤ capacity_at sets.capacities body

-- the sets have room for the ends of a joint in a slot
pub record HasRoomFor (ends : Ends) (slot : ℕ) (sets : Packs ℕ) : Type 0 where
  pub first : HasRoomAt ends.a sets
  pub second : HasRoomAt ends.b sets
  pub ids : 2 * slot + 2 ≤ sets.ids
