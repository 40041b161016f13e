-- What is read as it is kept.
use Rattle.std.specs.Prelude.{[], ◌∷◌, codes, is_some}
use Rattle.serde_json.specs.Data.{Data}
use Rattle.serde_json.specs.Find.{get}
use Rattle.world_file_base.specs.Asks.{Ask, all_asked, asked}
use Rattle.world_file_base.specs.Reading.{has_keys, whole_in}
use Rattle.world_file_base.specs.AskedValues.{whole_asks}
use Rattle.world_file_base.specs.declared.clause.Clause.TheVariants.{Form}
use Rattle.world_file.specs.Saved.{Saved, version_of}
use Rattle.world_file.specs.declared.saved_world.Saved as kept

-- the lists of what was read
abbrev pub parts_of : kept.Saved → Saved
parts_of s = record {
  slot_entries = s.bodies.slot_entries.items;
  bodies = s.bodies.bodies.items;
  memberships = s.bodies.memberships.items;
  joint_entries = s.joints.slot_entries.items;
  joints = s.joints.joints.items;
  contacts = s.contacts.items;
  totals = s.totals;
  gravity = s.gravity;
  steps = s.steps;
  calls = s.calls;
}

-- what is asked of the keys of a saved world and of its version
abbrev pub version_asks : Data → Ask
version_asks d = all_asked (
    asked (has_keys 8 d) Form
    ∷ whole_asks (get (codes "version") d)
    ∷ asked (is_some (version_of (whole_in (get (codes "version") d)))) Form
    ∷ [])
