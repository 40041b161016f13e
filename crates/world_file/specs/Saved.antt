-- Trusted: What the value of a saved world says, part by part.
use Rattle.std.specs.Prelude.{ℕ, ◌*◌, ◌==◌, ◌^◌, cond, List, Option, Some, None, codes, unwrap_or, ℤ, pos, negsuc, unsigned_abs}
use Rattle.serde_json.specs.Data.{Data}
use Rattle.serde_json.specs.Find.{get}
use Rattle.body_handles.specs.declared.slot_table.SlotEntry.{SlotEntry}
use Rattle.fixed_geom.specs.declared.vectors.Vec2.{Vec2}
use Rattle.impulse_ledger.specs.declared.totals.Totals.{Totals}
use Rattle.momenta.specs.declared.limits.TheConstants.{MAX_GRAVITY}
use Rattle.plain_world.specs.declared.body.Body.{Body}
use Rattle.world_file_base.specs.Reading.{items_in, unsigned_in, vector_within, whole_in}
use Rattle.world_file_base.specs.SavedContacts.{contacts_in}
use Rattle.world_file_base.specs.SavedSlots.{bodies_in, body_key, joint_key, joints_in, memberships_in, slot_entries_in}
use Rattle.world_file_base.specs.SavedTotals.{totals_read}
use Rattle.world_file_base.specs.declared.saved.Membership.{Membership}
use Rattle.world_file_base.specs.declared.saved.SavedContact.{SavedContact}
use Rattle.world_file_base.specs.declared.saved.SavedJoint.{SavedJoint}
use Rattle.world_file_base.specs.declared.version.Version.{Version}
use Rattle.world_file_base.specs.declared.version.Version.TheVariants.{First, Second}

pub record Saved : Type 0 where
  pub slot_entries : List SlotEntry
  pub bodies : List (Option Body)
  pub memberships : List Membership
  pub joint_entries : List SlotEntry
  pub joints : List (Option SavedJoint)
  pub contacts : List SavedContact
  pub totals : Totals
  pub gravity : Vec2
  pub steps : ℕ
  pub calls : ℕ

abbrev pub version_of_natural : ℕ → Option Version
version_of_natural n = cond (n == 1) (Some First) (cond (n == 2) (Some Second) None)

abbrev pub version_of : ℤ → Option Version
version_of (pos n) = version_of_natural n
version_of (negsuc n) = None

abbrev pub version_in : Data → Version
version_in d = unwrap_or (version_of (whole_in (get (codes "version") d))) Second

-- how many calls a world accepts at most
abbrev pub most_calls : ℕ
most_calls = 2 ^ 40

-- how many ticks a step has at most
abbrev pub most_ticks : ℕ
most_ticks = 8

abbrev pub calls_in : Data → ℕ
calls_in d = unsigned_in most_calls (get (codes "call") d)

abbrev pub steps_in : Data → ℕ
steps_in d = unsigned_in (calls_in d) (get (codes "step") d)

-- for how many ticks a body was slow at most
abbrev pub slow_ticks : Data → ℕ
slow_ticks d = steps_in d * most_ticks

abbrev pub saved_in : Data → Saved
saved_in d = record {
  slot_entries = slot_entries_in body_key (items_in (get (codes "bodies") d));
  bodies = bodies_in (slow_ticks d) (items_in (get (codes "bodies") d));
  memberships = memberships_in (items_in (get (codes "bodies") d));
  joint_entries = slot_entries_in joint_key (items_in (get (codes "joints") d));
  joints = joints_in (version_in d) (items_in (get (codes "joints") d));
  contacts = contacts_in (version_in d) (items_in (get (codes "contacts") d));
  totals = totals_read (get (codes "ledger") d);
  gravity = vector_within (unsigned_abs MAX_GRAVITY) (get (codes "gravity") d);
  steps = steps_in d;
  calls = calls_in d;
}
