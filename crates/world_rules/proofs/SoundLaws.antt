-- A sound world, part by part: what each command's law keeps, and what follows from it.
use Rattle.std.proofs.Common.{◌≡◌, ◌+◌, ◌*◌, ◌^◌, ◌≤◌, All, length}
use Rattle.fixed_geom.specs.Vectors.{IsWithin}
use Rattle.impulse_ledger.specs.Sums.{total}
use Rattle.contacts_base.specs.Contacts.{AreKeysRising}
use Rattle.plain_world.specs.Constraints.{constraint_number}
use Rattle.graph_colours.specs.Colours.{ids_of}
use Rattle.body_handles.specs.SlotEntries.{IsSlotEntry}
use Rattle.plain_world.specs.Bodies.{AreBodies}
use Rattle.plain_world.specs.Momentum.{momentum}
use Rattle.plain_world.specs.Formed.{AreFiltered}
use Rattle.plain_world.specs.Joints.{AreJoints}
use Rattle.plain_world.specs.Slots.{AreMatched}
use Rattle.sleep_wake.specs.Acting.{IsConsistent}
use Rattle.solver_sets.specs.Tied.{AreTied}
use Rattle.solver_sets.specs.Ties.{members_of}
use Rattle.world_core_base.specs.ContactBodies.{AreContactsOf}
use Rattle.world_rules.specs.Sets.{acting_of}
use Rattle.world_rules.specs.Sound.{AreSmall, AreTimers, AreTold, HasBodies, IsSound}
use Rattle.world_rules.specs.World.{World, book_of, joints_in_slots}
use Rattle.world_rules.proofs.SlotLemmas.{body_at-in}

-- the parts from which the others follow
pub record IsKept (w : World) : Type 0 where
  pub total_x : (momentum w.plain.bodies).x ≡ (total (book_of w)).x
  pub total_y : (momentum w.plain.bodies).y ≡ (total (book_of w)).y
  pub causes : AreSmall (2 ^ 126 + w.plain.calls * 2 ^ 83) (book_of w)
  pub bodies : AreBodies w.plain.bodies
  pub filters : AreFiltered w.plain.bodies
  pub timers : AreTimers w.plain.steps w.plain.bodies
  pub matched : AreMatched w.plain.slot_entries w.plain.bodies
  pub slot_entries : All IsSlotEntry w.plain.slot_entries
  pub joint_slots : AreMatched w.plain.joint_entries w.plain.joints
  pub joint_entries : All IsSlotEntry w.plain.joint_entries
  pub joints : AreJoints w.plain.bodies w.plain.joints
  pub contacts : AreKeysRising w.plain.contacts
  pub pairs : AreContactsOf w.plain.bodies w.plain.contacts
  pub there : All (HasBodies w.plain.bodies) w.plain.contacts
  pub consistent : IsConsistent constraint_number (acting_of w.plain)
  pub tied : AreTied w.plain.bodies w.plain.islands
  pub told : AreTold w.plain.bodies w.plain.islands
  pub labels : length w.plain.islands ≡ length w.plain.bodies
  pub moved : ids_of (members_of w.plain.bodies (joints_in_slots w.plain) w.plain.colours) ≡ w.plain.colours
  pub gravity : IsWithin (2 ^ 16) w.plain.gravity
  pub steps : w.plain.steps ≤ w.plain.calls
  pub calls : w.plain.calls ≤ 2 ^ 40

pub kept_sound : (w : World) → IsSound w → IsKept w
kept_sound w s = record {
  total_x = s.promises.total_x;
  total_y = s.promises.total_y;
  causes = s.formed.causes;
  bodies = s.formed.bodies;
  filters = s.formed.filters;
  timers = s.formed.timers;
  matched = s.formed.matched;
  slot_entries = s.formed.slot_entries;
  joint_slots = s.formed.joint_slots;
  joint_entries = s.formed.joint_entries;
  joints = s.formed.joints;
  contacts = s.formed.contacts;
  pairs = s.formed.pairs;
  there = s.formed.there;
  consistent = s.promises.consistent;
  tied = s.promises.tied;
  told = s.promises.told;
  labels = s.formed.labels;
  moved = s.formed.moved;
  gravity = s.formed.gravity;
  steps = s.formed.steps;
  calls = s.formed.calls;
}

pub sound_kept : (w : World) → IsKept w → IsSound w
sound_kept w k = record {
  promises = record {
    consistent = k.consistent;
    tied = k.tied;
    told = k.told;
    total_x = k.total_x;
    total_y = k.total_y;
    rest = λ slot b there still. (k.bodies slot b (body_at-in w.plain.bodies slot b there)).rest still;
  };
  formed = record {
    matched = k.matched;
    slot_entries = k.slot_entries;
    bodies = k.bodies;
    filters = k.filters;
    timers = k.timers;
    joint_slots = k.joint_slots;
    joint_entries = k.joint_entries;
    joints = k.joints;
    contacts = k.contacts;
    pairs = k.pairs;
    there = k.there;
    labels = k.labels;
    moved = k.moved;
    causes = k.causes;
    gravity = k.gravity;
    steps = k.steps;
    calls = k.calls;
  };
}
