-- Trusted: Saved joints.
use Rattle.std.specs.Prelude.{ℕ, Bool, List, [], ◌∷◌, Option, Some, None, codes, pos, neg_ℤ, slice_get, unsigned_abs}
use Rattle.serde_json.specs.Data.{Data, boolean}
use Rattle.serde_json.specs.Find.{get}
use Rattle.body_handles.specs.declared.handle.Handle.{Handle}
use Rattle.body_handles.specs.declared.slot_table.SlotEntry.{SlotEntry}
use Rattle.joint_rows.specs.declared.joint.Joint.{Joint}
use Rattle.joint_rows.specs.declared.limits.TheConstants.{MAX_ANCHOR, MAX_JOINT_IMPULSE, MAX_JOINT_LENGTH}
use Rattle.plain_world.specs.declared.joint.BodyJoint.{BodyJoint}
use Rattle.world_file_base.specs.Reading.{signed_in, truth_in, vector_within}
use Rattle.world_file_base.specs.Texts.{handle_in}
use Rattle.world_file_base.specs.Written.{Member, id_of, integer, natural_or_null, object_of, vector_of}
use Rattle.world_file_base.specs.Versions.{colour_in}
use Rattle.world_file_base.specs.declared.saved.SavedJoint.{SavedJoint}
use Rattle.world_file_base.specs.declared.version.Version.{Version}

-- ---- how it is read

unfoldable pub joint_in : Version → Data → SavedJoint
joint_in version d = record {
  a = handle_in (get (codes "a") d);
  b = handle_in (get (codes "b") d);
  joint = record {
    a = (handle_in (get (codes "a") d)).slot;
    b = (handle_in (get (codes "b") d)).slot;
    collide = truth_in (get (codes "collide") d);
    joint = record {
      from = vector_within (unsigned_abs MAX_ANCHOR) (get (codes "from") d);
      to = vector_within (unsigned_abs MAX_ANCHOR) (get (codes "to") d);
      length = signed_in (pos 0) MAX_JOINT_LENGTH (get (codes "length") d);
      impulse = signed_in (neg_ℤ MAX_JOINT_IMPULSE) MAX_JOINT_IMPULSE (get (codes "impulse") d);
    };
  };
  colour = colour_in version (get (codes "colour") d);
}

-- ---- how it is written

-- the generation of what is in a slot
abbrev pub generation_there : Option SlotEntry → ℕ
generation_there None = 0
generation_there (Some place) = place.generation

-- the handle of the body in a slot
abbrev pub handle_at : List SlotEntry → ℕ → Handle
handle_at slot_entries slot = record { slot = slot; generation = generation_there (slice_get slot_entries slot) }

-- the id of the body in a slot
abbrev pub id_at : List SlotEntry → ℕ → Data
id_at slot_entries slot = id_of (handle_at slot_entries slot)

-- the members of a joint between bodies of these handles
abbrev pub joint_members : Handle → Handle → Bool → Option ℕ → Joint → List Member
joint_members a b collide colour j =
    (codes "a", id_of a)
    ∷ (codes "b", id_of b)
    ∷ (codes "collide", boolean collide)
    ∷ (codes "colour", natural_or_null colour)
    ∷ (codes "from", vector_of j.from)
    ∷ (codes "impulse", integer j.impulse)
    ∷ (codes "length", integer j.length)
    ∷ (codes "to", vector_of j.to)
    ∷ []

-- a joint of bodies in these slots, with its colour if it acts
unfoldable pub joint_data : List SlotEntry → BodyJoint → Option ℕ → Data
joint_data slot_entries j colour = object_of (joint_members (handle_at slot_entries j.a) (handle_at slot_entries j.b) j.collide colour j.joint)
