-- Bodies at the front of a text, and their slots.
use Rattle.std.specs.Prelude.{◌≡◌, ℕ, ◌≤◌, ◌^◌, ◌-◌, ◌++◌, ◌∷◌, Bool, true, List, [], Option, Some, None, IfSome, codes, nat_le, unsigned_abs}
use Rattle.std.specs.List.{list_all}
use Rattle.body_handles.specs.declared.slot_table.TheConstants.{MAX_SLOTS}
use Rattle.fixed_geom.specs.Facings.{IsFacing}
use Rattle.fixed_geom.specs.Vectors.{IsWithin}
use Rattle.fixed_geom.specs.declared.limits.TheConstants.{MAX_POSITION}
use Rattle.momenta.specs.declared.limits.TheConstants.{MAX_ANGULAR_MOMENTUM, MAX_MOMENTUM}
use Rattle.plain_world.specs.Kinds.{IsCourseOf}
use Rattle.plain_world.specs.declared.body.Body.{Body}
use Rattle.plain_world.specs.declared.kind.Kind.{Kind}
use Rattle.plain_world.specs.declared.kind.Kind.TheVariants.{Static, Kinematic, Dynamic}
use Rattle.loaded_text.specs.Leads.{IsSigned}
use Rattle.saved_text.specs.Leaves.{facing_of}
use Rattle.serde_json.specs.Data.{Data, boolean, depth, string}
use Rattle.serde_json.specs.Events.{items_len}
use Rattle.serde_json.specs.View.{items_of}
use Rattle.world_file_base.specs.Asks.{no_asks}
use Rattle.world_file_base.specs.SavedBodies.{body_in, kind_name, membership_in, sleeping_under}
use Rattle.world_file_base.specs.AskedBodies.{body_asks}
use Rattle.world_file_base.specs.SavedSlots.{bodies_in, body_key, memberships_in, slot_entry_in, slot_entries_in, slot_body, slot_membership}
use Rattle.world_file_base.specs.AskedSlots.{bodies_asks, body_slot_asks}
use Rattle.world_file_base.specs.Written.{Member, decimal_of, integer, list_data, natural_or_null, vector_of}
use Rattle.world_file_base.specs.declared.saved.Membership.{Membership}
use Rattle.world_file_base.specs.declared.saved.SavedBodies.{SavedBodies}
use Rattle.loaded_text.specs.Stands.{Stands}
use Rattle.loaded_text.specs.declared.bodies.LoadedBody.{LoadedBody}
use Rattle.loaded_text.specs.declared.body_members.Front.{Front}
use Rattle.loaded_text.specs.declared.body_members.Last.{Last}
use Rattle.loaded_text.specs.declared.body_slots.BodySlot.{BodySlot}
use Rattle.loaded_text.specs.declared.saved_shapes.LoadedShapes.{LoadedShapes}

-- ---- the members of a body

-- those before the shapes, of a body whose kind has this name
abbrev pub front_named : Front → List ℕ → List Member
front_named f name =
    (codes "asleep", boolean f.asleep)
    ∷ (codes "at", vector_of f.at)
    ∷ (codes "enabled", boolean f.enabled)
    ∷ (codes "facing", facing_of f.facing)
    ∷ (codes "inertia", integer f.inertia)
    ∷ (codes "island", natural_or_null f.island)
    ∷ (codes "kind", string name)
    ∷ (codes "l", decimal_of f.l)
    ∷ (codes "loose", boolean f.loose)
    ∷ (codes "mass", integer f.mass)
    ∷ (codes "p", vector_of f.p)
    ∷ []

abbrev pub front_members : Front → List Member
front_members f = front_named f (kind_name f.kind)

pub record IsFront (f : Front) : Type 0 where
  pub at : IsWithin (unsigned_abs MAX_POSITION) f.at
  pub facing : IsFacing f.facing
  pub inertia : IsSigned f.inertia
  pub island : IfSome f.island (λ n. n ≤ 2 ^ 32 - 1)
  pub l : unsigned_abs f.l ≤ unsigned_abs MAX_ANGULAR_MOMENTUM
  pub mass : IsSigned f.mass
  pub p : IsWithin (unsigned_abs MAX_MOMENTUM) f.p

abbrev pub IsStill : Kind → Type 0
IsStill Static = Unit {0}
IsStill (Kinematic course) = ⊥
IsStill Dynamic = Unit {0}

-- a kinematic kind, with a course that it may have
abbrev pub IsCarried : Kind → Type 0
IsCarried Static = ⊥
IsCarried (Kinematic course) = IsCourseOf (Kinematic course)
IsCarried Dynamic = ⊥

-- ---- a body

abbrev pub membership_of : Front → Membership
membership_of f = record { island = f.island; loose = f.loose; asleep = f.asleep }

-- what is made of a body's members
abbrev pub made : Front → LoadedShapes → Last → LoadedBody
made f s last = record {
  body = record {
    motion = record { p = f.p; l = f.l; x = f.at; rot = f.facing };
    mass = record { mass = f.mass; inertia = f.inertia };
    kind = last.kind;
    enabled = f.enabled;
    asleep = sleeping_under (membership_of f);
    timer = last.timer;
    fats = s.fats;
    shapes = s.shapes;
  };
  membership = membership_of f;
}

-- a value that is read as this body, and breaks nothing, in a world in which one may be slow for as long
pub record BodyHolds (lead : List ℕ) (b : Body) (m : Membership) (text rest : List ℕ) : Type 0 where
  pub value : Data
  pub stands : Stands lead value text rest
  pub shallow : depth value ≤ 5
  pub membership : membership_in value ≡ m
  pub body : (most : ℕ) → b.timer ≤ most → body_in most value ≡ b
  pub asks : (most : ℕ) → b.timer ≤ most → body_asks most value no_asks ≡ no_asks

-- ---- slots

abbrev pub is_timed : ℕ → Option Body → Bool
is_timed most None = true
is_timed most (Some b) = nat_le b.timer most

abbrev pub are_timed : ℕ → List (Option Body) → Bool
are_timed most bodies = list_all (is_timed most) bodies

pub record BodySlotHolds (s : BodySlot) (text rest : List ℕ) : Type 0 where
  pub value : Data
  pub stands : Stands [] value text rest
  pub shallow : depth value ≤ 6
  pub entry : slot_entry_in body_key value ≡ s.entry
  pub membership : slot_membership value ≡ s.membership
  pub body : (most : ℕ) → is_timed most s.body ≡ true → slot_body most value ≡ s.body
  pub asks : (most : ℕ) → is_timed most s.body ≡ true → body_slot_asks most value no_asks ≡ no_asks

-- what a list of slots adds to those that were read before
pub record BodiesHold (lead : List ℕ) (old new : SavedBodies) (text rest : List ℕ) : Type 0 where
  pub items : List Data
  pub added : List (Option Body)
  pub stands : Stands lead (list_data items) text rest
  pub shallow : depth (list_data items) ≤ 7
  pub few : items_len (items_of items) ≤ MAX_SLOTS
  pub slot_entries : new.slot_entries.items ≡ old.slot_entries.items ++ slot_entries_in body_key (items_of items)
  pub bodies : new.bodies.items ≡ old.bodies.items ++ added
  pub memberships : new.memberships.items ≡ old.memberships.items ++ memberships_in (items_of items)
  pub timed : (most : ℕ) → are_timed most added ≡ true → bodies_in most (items_of items) ≡ added
  pub asks : (most : ℕ) → are_timed most added ≡ true → bodies_asks most (items_of items) no_asks ≡ no_asks
