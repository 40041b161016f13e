-- What is known of a value that breaks no clause: its parts are within their limits, and fit together.
use Rattle.std.proofs.Common.{◌≡◌, ℕ, ◌*◌, ◌^◌, ◌≤◌, true, length, Option, codes, unsigned_abs, subst, arith, None, Some, cond, false, not, refl, Bool, ◌&&◌}
use Rattle.std.specs.List.{list_all}
use Rattle.serde_json.specs.Data.{Data}
use Rattle.serde_json.specs.Find.{get}
use Rattle.body_handles.specs.declared.slot_table.TheConstants.{MAX_SLOTS}
use Rattle.contacts_base.proofs.Members.{Each}
use Rattle.fixed_geom.specs.Vectors.{IsWithin}
use Rattle.impulse_ledger.specs.Totals.{total_in}
use Rattle.impulse_ledger.specs.declared.entry.Cause.{Cause}
use Rattle.impulse_ledger.specs.declared.entry.Cause.TheVariants as causes
use Rattle.impulse_ledger.specs.declared.limits.TheConstants.{MAX_TOTAL}
use Rattle.impulse_ledger.specs.declared.totals.Total.{Total}
use Rattle.momenta.specs.declared.limits.TheConstants.{MAX_GRAVITY}
use Rattle.world_file_base.specs.Reading.{first_in, items_in, second_item}
use Rattle.world_file_base.specs.declared.clause.Clause.TheVariants.{Colours, FatBoxes, Form, Generations, Islands, Limits, Links, Memberships, Momentum, References}
use Rattle.world_file_base.specs.SavedTotals as saved_totals
use Rattle.world_file_base.specs.SavedTotals.{cause_in, totals_read}
use Rattle.sleep_wake.specs.Acting.{links_of}
use Rattle.world_file.specs.Fitting.{are_named_well, are_whole, colours_keep, components_of, is_tie_kept, members_among, momentum_keeps, references_keep, ties_read}
use Rattle.world_file.specs.Saved.{Saved, calls_in, most_calls, saved_in, slow_ticks, steps_in, version_in}
use Rattle.world_file.proofs.ReadContacts.{IsSavedContact, contacts_are}
use Rattle.world_file.proofs.ReadSlots.{AreBodySlots, AreSavedSlots, bodies_long, body_slots_are, few_slots, joint_slots_are, joints_long}
use Rattle.world_file.proofs.Tests.{both_true, decimal_small, unsigned_small, vector_small}
use Rattle.world_file_base.specs.declared.clause.Clause.{Clause}
use Rattle.world_file.specs.SavedForms.{all_items}
use Rattle.world_file.specs.SavedLimits.{are_few_slots, is_body_within, is_contact_within, is_in_limits, is_joint_within, is_slot_within}
use Rattle.world_file.specs.Clauses.{are_memberships_right, first_broken, has_generation, have_colours, have_generations, is_boxed, is_rested, keep_together, keeps}
use Rattle.world_file_base.specs.SavedSlots.{body_key, joint_key}

-- ---- the totals

pub record IsSmallTotal (t : Total) : Type 0 where
  pub x : unsigned_abs t.x ≤ 2 ^ 126
  pub y : unsigned_abs t.y ≤ 2 ^ 126

small_total : (v : Option Data) → IsSmallTotal (saved_totals.total_read v)
small_total v = record { x = decimal_small MAX_TOTAL (first_in v); y = decimal_small MAX_TOTAL (second_item v) }

small_totals : (v : Option Data) (cause : Cause) → IsSmallTotal (total_in cause (totals_read v))
small_totals v causes.Command = small_total (cause_in (codes "command") v)
small_totals v causes.Gravity = small_total (cause_in (codes "gravity") v)
small_totals v causes.Immovable = small_total (cause_in (codes "immovable") v)
small_totals v causes.Clamp = small_total (cause_in (codes "clamp") v)
small_totals v causes.Rest = small_total (cause_in (codes "rest") v)
small_totals v causes.Departed = small_total (cause_in (codes "departed") v)

-- ---- the parts

-- each part is within its limits
pub record HasParts (s : Saved) : Type 0 where
  pub bodies : AreBodySlots (8 * s.steps) s.slot_entries s.bodies s.memberships
  pub few_bodies : length s.bodies ≤ MAX_SLOTS
  pub joints : AreSavedSlots s.joint_entries s.joints
  pub few_joints : length s.joints ≤ MAX_SLOTS
  pub contacts : Each IsSavedContact s.contacts
  pub totals : (cause : Cause) → IsSmallTotal (total_in cause s.totals)
  pub gravity : IsWithin (2 ^ 16) s.gravity
  pub steps : s.steps ≤ s.calls
  pub calls : s.calls ≤ 2 ^ 40

slow_is : (d : Data) → slow_ticks d ≡ 8 * steps_in d
slow_is d = omega arith

-- of a value that keeps the clauses of single parts
pub record KeepsParts (d : Data) : Type 0 where
  pub limits : is_in_limits d ≡ true
  pub generations : have_generations d ≡ true
  pub boxed : list_all is_boxed (saved_in d).bodies ≡ true
  pub right : are_memberships_right (saved_in d).bodies (saved_in d).memberships ≡ true
  pub rested : list_all is_rested (saved_in d).bodies ≡ true

-- what the limits say of lists
record HasListsWithin (d : Data) : Type 0 where
  few_bodies : are_few_slots (version_in d) (get (codes "bodies") d) ≡ true
  bodies : all_items (is_slot_within body_key (is_body_within (slow_ticks d))) (items_in (get (codes "bodies") d)) ≡ true
  few_joints : are_few_slots (version_in d) (get (codes "joints") d) ≡ true
  contacts : all_items is_contact_within (items_in (get (codes "contacts") d)) ≡ true

lists_within : (d : Data) → is_in_limits d ≡ true → HasListsWithin d
unfolding is_in_limits
lists_within d h =
    let bodies : Bool = all_items (is_slot_within body_key (is_body_within (slow_ticks d))) (items_in (get (codes "bodies") d)) in
    let few_joints : Bool = are_few_slots (version_in d) (get (codes "joints") d) in
    let joints : Bool = all_items (is_slot_within joint_key is_joint_within) (items_in (get (codes "joints") d)) in
    let contacts = both_true (_ && joints) (all_items is_contact_within (items_in (get (codes "contacts") d))) h in
    let before_joints = both_true (_ && few_joints) joints contacts.0 in
    let before_few = both_true (_ && bodies) few_joints before_joints.0 in
    let before_bodies = both_true (_ && are_few_slots (version_in d) (get (codes "bodies") d)) bodies before_few.0 in
    record { few_bodies = (both_true _ (are_few_slots (version_in d) (get (codes "bodies") d)) before_bodies.0).1; bodies = before_bodies.1; few_joints = before_few.1; contacts = contacts.1 }

generations_are : (d : Data) → have_generations d ≡ true → (all_items (has_generation body_key) (items_in (get (codes "bodies") d)) ≡ true) × (all_items (has_generation joint_key) (items_in (get (codes "joints") d)) ≡ true)
unfolding have_generations
generations_are d h = both_true (all_items (has_generation body_key) (items_in (get (codes "bodies") d))) (all_items (has_generation joint_key) (items_in (get (codes "joints") d))) h

pub parts_are : (d : Data) → KeepsParts d → HasParts (saved_in d)
parts_are d h =
    let lists = lists_within d h.limits in
    let generations = generations_are d h.generations in
    let bodies = body_slots_are (slow_ticks d) (items_in (get (codes "bodies") d)) (record { within = lists.bodies; generations = generations.0; boxed = h.boxed; right = h.right; rested = h.rested }) in
    let some = bodies_long (slow_ticks d) (items_in (get (codes "bodies") d)) in
    let ties = joints_long (version_in d) (items_in (get (codes "joints") d)) in
    let few = few_slots (version_in d) (get (codes "bodies") d) lists.few_bodies in
    let fewer = few_slots (version_in d) (get (codes "joints") d) lists.few_joints in
    record {
      bodies = subst (λ (n : ℕ). AreBodySlots n (saved_in d).slot_entries (saved_in d).bodies (saved_in d).memberships) (slow_is d) bodies;
      few_bodies = omega (arith, few, some);
      joints = joint_slots_are (version_in d) (items_in (get (codes "joints") d)) generations.1;
      few_joints = omega (arith, fewer, ties);
      contacts = contacts_are (version_in d) (items_in (get (codes "contacts") d)) lists.contacts;
      totals = small_totals (get (codes "ledger") d);
      gravity = vector_small (unsigned_abs MAX_GRAVITY) (get (codes "gravity") d);
      steps = unsigned_small (calls_in d) (get (codes "step") d);
      calls = unsigned_small most_calls (get (codes "call") d);
    }

-- ---- the whole

-- the parts fit together
pub record AreFitting (s : Saved) : Type 0 where
  pub references : references_keep s ≡ true
  pub named : are_named_well s.memberships 0 s.memberships ≡ true
  pub links : list_all (is_tie_kept s.memberships) (ties_read s) ≡ true
  pub whole : are_whole (components_of s.memberships (links_of (members_among (ties_read s)))) 0 s.memberships ≡ true
  pub colours : colours_keep s ≡ true
  pub momentum : momentum_keeps s ≡ true

-- ---- a value that breaks no clause

pub record IsUnbroken (d : Data) : Type 0 where
  pub parts : HasParts (saved_in d)
  pub fitting : AreFitting (saved_in d)

none_first : (c : Clause) (t : Bool) (o : Option Clause) → cond (not t) (Some c) o ≡ None → (t ≡ true) × (o ≡ None)
none_first c true o h = (refl, h)
none_first c false o h = cc

pub unbroken_is : (d : Data) → first_broken d ≡ None → IsUnbroken d
unfolding first_broken
unbroken_is d h =
    let s : Saved = saved_in d in
    let form = none_first Form (keeps Form d) _ h in
    let limits = none_first Limits (keeps Limits d) _ form.1 in
    let generations = none_first Generations (keeps Generations d) _ limits.1 in
    let references = none_first References (keeps References d) _ generations.1 in
    let boxes = none_first FatBoxes (keeps FatBoxes d) _ references.1 in
    let memberships = none_first Memberships (keeps Memberships d) _ boxes.1 in
    let links = none_first Links (keeps Links d) _ memberships.1 in
    let islands = none_first Islands (keeps Islands d) _ links.1 in
    let colours = none_first Colours (keeps Colours d) _ islands.1 in
    let momentum = none_first Momentum (keeps Momentum d) _ colours.1 in
    let named = both_true (are_memberships_right s.bodies s.memberships) (keep_together Memberships s) memberships.0 in
    let whole = both_true (list_all is_rested s.bodies) (keep_together Islands s) islands.0 in
    record {
      parts = parts_are d (record { limits = limits.0; generations = generations.0; boxed = boxes.0; right = named.0; rested = whole.0 });
      fitting = record { references = references.0; named = named.1; links = links.0; whole = whole.1; colours = (both_true (have_colours d) (keep_together Colours s) colours.0).1; momentum = momentum.0 };
    }
