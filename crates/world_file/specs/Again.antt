-- What is written of a world, part by part.
use Rattle.std.specs.Prelude.{ℕ, suc, ◌+◌, List, [], ◌∷◌, map, Option, Some, None, option_map}
use Rattle.body_handles.specs.declared.slot_table.SlotEntry.{SlotEntry}
use Rattle.plain_world.specs.declared.constraint.Constraint.{Constraint}
use Rattle.plain_world.specs.declared.constraint.Constraint.TheVariants.{Joint, Contact}
use Rattle.contacts_base.specs.Evaluate.{touches}
use Rattle.contacts_base.specs.declared.contact.ContactEntry.{ContactEntry}
use Rattle.contacts_base.specs.declared.contact.ContactPoint.{ContactPoint}
use Rattle.impulse_ledger.specs.declared.totals.Totals.{Totals}
use Rattle.islands.specs.Labels.{is_asleep, is_loose}
use Rattle.islands.specs.declared.label.Label.{Label}
use Rattle.plain_world.specs.Plain.{Plain, colour_of}
use Rattle.plain_world.specs.declared.joint.BodyJoint.{BodyJoint}
use Rattle.world_file_base.specs.SavedJoints.{handle_at}
use Rattle.world_file_base.specs.SavedSlots.{no_membership}
use Rattle.world_file_base.specs.declared.saved.Membership.{Membership}
use Rattle.world_file_base.specs.declared.saved.SavedContact.{SavedContact}
use Rattle.world_file_base.specs.declared.saved.SavedJoint.{SavedJoint}
use Rattle.world_file.specs.Saved.{Saved}

-- what the label of a mover says of its island
abbrev pub membership_of : Option Label → Membership
membership_of None = no_membership
membership_of (Some l) = record { island = Some l.name; loose = is_loose l.state; asleep = is_asleep l.state }

abbrev pub saved_joint : List SlotEntry → Option ℕ → BodyJoint → SavedJoint
saved_joint slot_entries colour j = record { a = handle_at slot_entries j.a; b = handle_at slot_entries j.b; joint = j; colour = colour }

-- those of the slots from this one on
abbrev pub saved_joints : List SlotEntry → List (List Constraint) → ℕ → List SlotEntry → List (Option BodyJoint) → List (Option SavedJoint)
saved_joints slot_entries colours slot [] joints = []
saved_joints slot_entries colours slot (p ∷ ps) [] = []
saved_joints slot_entries colours slot (p ∷ ps) (o ∷ joints) =
    option_map (saved_joint slot_entries (colour_of (Joint (record { slot = slot; generation = p.generation })) colours)) o ∷ saved_joints slot_entries colours (suc slot) ps joints

abbrev pub count_of : Option ContactPoint → ℕ
count_of None = 0
count_of (Some p) = 1

abbrev pub saved_contact : List (List Constraint) → ContactEntry → SavedContact
saved_contact colours e = record {
  key = e.key;
  touching = touches e.contact;
  colour = colour_of (Contact e.key) colours;
  contact = e.contact;
  points = count_of e.contact.first + count_of e.contact.second;
}

-- what is written of a world with these totals
abbrev pub saved_of : Plain → Totals → Saved
saved_of p t = record {
  slot_entries = p.slot_entries;
  bodies = p.bodies;
  memberships = map membership_of p.islands;
  joint_entries = p.joint_entries;
  joints = saved_joints p.slot_entries p.colours 0 p.joint_entries p.joints;
  contacts = map (saved_contact p.colours) p.contacts;
  totals = t;
  gravity = p.gravity;
  steps = p.steps;
  calls = p.calls;
}
