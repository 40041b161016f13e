-- Trusted: Saved worlds: the value of a world, and the world of a value.
use Rattle.std.specs.Prelude.{ℕ, suc, ◌+◌, List, [], ◌∷◌, map, Option, Some, None, codes, Result, Ok, Err}
use Rattle.serde_json.specs.Data.{Data}
use Rattle.plain_world.specs.declared.constraint.Constraint.{Constraint}
use Rattle.plain_world.specs.declared.constraint.Constraint.TheVariants.{Joint, Contact}
use Rattle.contacts_base.specs.declared.contact.ContactEntry.{ContactEntry}
use Rattle.body_handles.specs.declared.slot_table.SlotEntry.{SlotEntry}
use Rattle.fixed_geom.specs.declared.vectors.Vec2.{Vec2}
use Rattle.graph_colours.specs.declared.limits.TheConstants.{COLOURS}
use Rattle.impulse_ledger.specs.declared.totals.Totals.{Totals}
use Rattle.plain_world.specs.Plain.{Plain, colour_of}
use Rattle.world_file_base.specs.Written.{Member, natural, object_of, vector_of}
use Rattle.world_file_base.specs.declared.clause.Clause.{Clause}
use Rattle.world_file_base.specs.SavedContacts.{contacts_data}
use Rattle.world_file_base.specs.SavedSlots.{bodies_data, joints_data}
use Rattle.world_file_base.specs.SavedTotals.{totals_data}
use Rattle.world_file.specs.Clauses.{first_broken}
use Rattle.world_file.specs.Fitting.{entry_read, ids_below, joint_kept, label_of, ties_read}
use Rattle.world_file.specs.Saved.{Saved, saved_in}

-- ---- the value of a world

-- the colour of each contact
abbrev pub contact_colours : List (List Constraint) → List ContactEntry → List (Option ℕ)
contact_colours colours contacts = map (λ (e : ContactEntry). colour_of (Contact e.key) colours) contacts

-- the colour of each joint, from this slot on
abbrev pub joint_colours : List (List Constraint) → ℕ → List SlotEntry → List (Option ℕ)
joint_colours colours slot [] = []
joint_colours colours slot (place ∷ slot_entries) = colour_of (Joint (record { slot = slot; generation = place.generation })) colours ∷ joint_colours colours (suc slot) slot_entries

-- the number of the version that is written
abbrev pub written_version : ℕ
written_version = 2

-- the members of a world with these bodies, contacts and joints
abbrev pub world_members : Data → ℕ → Data → Vec2 → Data → Totals → ℕ → List Member
world_members bodies calls contacts gravity joints totals steps =
    (codes "bodies", bodies)
    ∷ (codes "call", natural calls)
    ∷ (codes "contacts", contacts)
    ∷ (codes "gravity", vector_of gravity)
    ∷ (codes "joints", joints)
    ∷ (codes "ledger", totals_data totals)
    ∷ (codes "step", natural steps)
    ∷ (codes "version", natural written_version)
    ∷ []

-- a world with the totals of its ledger
unfoldable pub value_of : Plain → Totals → Data
value_of p t = object_of (world_members
    (bodies_data p.slot_entries p.bodies p.islands)
    p.calls
    (contacts_data p.contacts (contact_colours p.colours p.contacts))
    p.gravity
    (joints_data p.slot_entries p.joint_entries p.joints (joint_colours p.colours 0 p.joint_entries))
    t
    p.steps)

-- ---- the world of a value

-- the world of what was read
abbrev pub plain_of : Saved → Plain
plain_of s = record {
  slot_entries = s.slot_entries;
  bodies = s.bodies;
  joint_entries = s.joint_entries;
  joints = map joint_kept s.joints;
  contacts = map (entry_read s.bodies) s.contacts;
  islands = map label_of s.memberships;
  colours = ids_below (ties_read s) (COLOURS + 1);
  gravity = s.gravity;
  steps = s.steps;
  calls = s.calls;
}

abbrev pub read_unless : Option Clause → Saved → Result (Plain × Totals) Clause
read_unless None s = Ok (plain_of s, s.totals)
read_unless (Some clause) s = Err clause

-- a world and the totals of its ledger, or the first clause that the value breaks
unfoldable pub read_of : Data → Result (Plain × Totals) Clause
read_of d = read_unless (first_broken d) (saved_in d)
