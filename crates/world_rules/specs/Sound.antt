-- Trusted: What each world keeps: what it promises, and how its lists and numbers are formed.
use Rattle.std.specs.Prelude.{◌≡◌, ℕ, ◌+◌, ◌*◌, ◌<◌, ◌≤◌, ◌^◌, true, false, List, length, Option, Some, All, is_some, unsigned_abs}
use Rattle.fixed_geom.specs.Vectors.{IsWithin}
use Rattle.impulse_ledger.specs.declared.entry.Cause.{Cause}
use Rattle.impulse_ledger.specs.Sums.{Book, total, total_of}
use Rattle.body_handles.specs.SlotEntries.{IsSlotEntry}
use Rattle.contacts_base.specs.declared.contact.ContactEntry.{ContactEntry}
use Rattle.contacts_base.specs.Contacts.{AreKeysRising}
use Rattle.plain_world.specs.Constraints.{constraint_number}
use Rattle.graph_colours.specs.Colours.{ids_of}
use Rattle.plain_world.specs.declared.body.Body.{Body}
use Rattle.plain_world.specs.Bodies.{AreBodies, IsAtRest, is_awake}
use Rattle.plain_world.specs.Momentum.{momentum}
use Rattle.plain_world.specs.Formed.{AreFiltered, HasPoints, mixed_of, shape_with_id}
use Rattle.plain_world.specs.Joints.{AreJoints}
use Rattle.plain_world.specs.Slots.{AreMatched, body_at, shapes_in}
use Rattle.sleep_wake.specs.Acting.{IsConsistent}
use Rattle.solver_sets.specs.Ties.{IsKeyWithin, members_of}
use Rattle.solver_sets.specs.Tied.{AreTied}
use Rattle.islands.specs.Labels.{Labels, label_at, sleeping_name}
use Rattle.world_core_base.specs.ContactBodies.{AreContactsOf}
use Rattle.world_rules.specs.Sets.{acting_of}
use Rattle.world_rules.specs.World.{World, book_of, joints_in_slots}

-- no cause's total is beyond n
pub record AreSmall (n : ℕ) (b : Book) : Type 0 where
  pub x : (cause : Cause) → unsigned_abs (total_of cause b).x ≤ n
  pub y : (cause : Cause) → unsigned_abs (total_of cause b).y ≤ n

-- Its shapes are those of two bodies that are there, the lesser slot's first. Its surface is what those of both mix to.
pub record HasBodies (bodies : List (Option Body)) (e : ContactEntry) : Type 0 where
  pub first : is_some (body_at bodies e.key.first.slot) ≡ true
  pub second : is_some (body_at bodies e.key.second.slot) ≡ true
  pub first_shape : e.key.first.index < shapes_in (body_at bodies e.key.first.slot)
  pub second_shape : e.key.second.index < shapes_in (body_at bodies e.key.second.slot)
  pub order : e.key.first.slot < e.key.second.slot
  pub surface : e.surface ≡ mixed_of (shape_with_id bodies e.key.first) (shape_with_id bodies e.key.second)
  pub named : IsKeyWithin e.key
  pub points : HasPoints e.contact

-- ---- what a world promises

abbrev pub AreAtRest : List (Option Body) → Type 0
AreAtRest bodies = (slot : ℕ) (b : Body) → body_at bodies slot ≡ Some b → is_awake b ≡ false → IsAtRest b.motion

-- a body sleeps just if the island of its mover does, under its name
abbrev pub AreTold : List (Option Body) → Labels → Type 0
AreTold bodies labels = (slot : ℕ) (b : Body) → body_at bodies slot ≡ Some b → b.asleep ≡ sleeping_name (label_at labels slot)

-- Islands and colours are those of its constraints. The movers' momentum is the ledger's total.
pub record KeepsPromises (w : World) : Type 0 where
  pub consistent : IsConsistent constraint_number (acting_of w.plain)
  pub tied : AreTied w.plain.bodies w.plain.islands
  pub told : AreTold w.plain.bodies w.plain.islands
  pub total_x : (momentum w.plain.bodies).x ≡ (total (book_of w)).x
  pub total_y : (momentum w.plain.bodies).y ≡ (total (book_of w)).y
  pub rest : AreAtRest w.plain.bodies

-- ---- what its lists and numbers keep

-- a mover has been slow for no longer than the steps so far can have lasted
abbrev pub AreTimers : ℕ → List (Option Body) → Type 0
AreTimers steps bodies = (slot : ℕ) (b : Body) → body_at bodies slot ≡ Some b → b.timer ≤ 8 * steps

-- There are bodies and joints just in the slots that are taken. Joints and contacts are of bodies that are there. All
-- numbers are within their limits. Each constraint with a colour has movers. All sums have room.
pub record IsWellFormed (w : World) : Type 0 where
  pub matched : AreMatched w.plain.slot_entries w.plain.bodies
  pub slot_entries : All IsSlotEntry w.plain.slot_entries
  pub bodies : AreBodies w.plain.bodies
  pub filters : AreFiltered w.plain.bodies
  pub timers : AreTimers w.plain.steps w.plain.bodies
  pub joint_slots : AreMatched w.plain.joint_entries w.plain.joints
  pub joint_entries : All IsSlotEntry w.plain.joint_entries
  pub joints : AreJoints w.plain.bodies w.plain.joints
  pub contacts : AreKeysRising w.plain.contacts
  pub pairs : AreContactsOf w.plain.bodies w.plain.contacts
  pub there : All (HasBodies w.plain.bodies) w.plain.contacts
  pub labels : length w.plain.islands ≡ length w.plain.bodies
  pub moved : ids_of (members_of w.plain.bodies (joints_in_slots w.plain) w.plain.colours) ≡ w.plain.colours
  pub causes : AreSmall (2 ^ 126 + w.plain.calls * 2 ^ 83) (book_of w)
  pub gravity : IsWithin (2 ^ 16) w.plain.gravity
  pub steps : w.plain.steps ≤ w.plain.calls
  pub calls : w.plain.calls ≤ 2 ^ 40

pub record IsSound (w : World) : Type 0 where
  pub promises : KeepsPromises w
  pub formed : IsWellFormed w

-- there is room in the numbers for the entries of one more call
pub record IsRoomy (b : Book) : Type 0 where
  pub x : unsigned_abs (total b).x ≤ 2 ^ 100
  pub y : unsigned_abs (total b).y ≤ 2 ^ 100
  pub causes : AreSmall (2 ^ 126 + 2 ^ 123) b
