-- What is known of the slots of bodies and of joints that keep each clause by themselves.
use Rattle.std.proofs.Common.{◌≡◌, ℕ, zero, suc, ◌<◌, ◌≤◌, Bool, true, false, not, cond, nat_le, nat_lt, List, [], ◌∷◌, length, Option, Some, None, is_some, option_and_then, option_map, unwrap_or, codes, ℤ, pos, negsuc, All, inl, inr, refl, sym, ap, ◌∙◌, arith}
use Rattle.std.proofs.lemmas.Bool.{false≢true}
use Rattle.serde_json.specs.Data.{Data, Items, no_items, item}
use Rattle.serde_json.specs.Events.{items_len}
use Rattle.serde_json.specs.Find.{get}
use Rattle.body_handles.specs.SlotEntries.{IsSlotEntry}
use Rattle.body_handles.specs.declared.slot_table.SlotEntry.{SlotEntry}
use Rattle.body_handles.specs.declared.slot_table.TheConstants.{MAX_SLOTS, WORN_OUT}
use Rattle.contacts_base.proofs.Members.{Each, all_from_each}
use Rattle.plain_world.specs.Slots.{AreMatched, body_at, is_taken, item_at}
use Rattle.plain_world.specs.declared.body.Body.{Body}
use Rattle.world_file_base.specs.Reading.{items_in, whole_in}
use Rattle.world_file_base.specs.SavedBodies.{body_in}
use Rattle.world_file_base.specs.SavedJoints.{joint_in}
use Rattle.world_file_base.specs.SavedSlots.{bodies_in, body_key, generation_in, generation_of_number, generation_of_value, is_in_time, joint_key, joints_in, membership_or_none, memberships_in, no_membership, positive, slot_body, slot_entries_in, slot_entry_in, slot_membership}
use Rattle.world_file_base.specs.Versions.{most_slots}
use Rattle.world_file_base.specs.declared.saved.Membership.{Membership}
use Rattle.world_file_base.specs.declared.saved.SavedJoint.{SavedJoint}
use Rattle.world_file_base.specs.declared.version.Version.{Version}
use Rattle.world_file_base.specs.declared.version.Version.TheVariants.{First, Second}
use Rattle.world_file.specs.Fitting.{membership_at}
use Rattle.world_file.proofs.ReadBodies.{IsSavedBody, body_kept}
use Rattle.world_file.proofs.ReadContacts.{IsSavedJoint, joint_is}
use Rattle.world_file.proofs.Tests.{at_most, below, both_true, either_true, not_true}
use Rattle.world_file.specs.SavedForms.{all_items, if_there}
use Rattle.world_file.specs.SavedLimits.{are_few_slots, is_body_within, is_slot_within}
use Rattle.world_file.specs.Clauses.{are_memberships_right, has_generation, is_boxed, is_membership_right, is_rested}
use Rattle.std.specs.List.{list_all}

-- ---- a slot entry

record IsGeneration (n : ℕ) : Type 0 where
  positive : 1 ≤ n
  bounded : n ≤ WORN_OUT

first_generation : IsGeneration 1
first_generation = record { positive = omega arith; bounded = omega arith }

positive_or : (n : ℕ) (t : Bool) → nat_lt 0 n ≡ t → n ≤ WORN_OUT → IsGeneration (unwrap_or (cond t (Some n) None) 1)
positive_or n true e h = let low = below 0 n e in record { positive = omega (arith, low); bounded = h }
positive_or n false e h = first_generation

natural_or : (n : ℕ) (t : Bool) → nat_le n WORN_OUT ≡ t → IsGeneration (unwrap_or (option_and_then positive (cond t (Some n) None)) 1)
natural_or n true e = positive_or n (nat_lt 0 n) refl (at_most n WORN_OUT e)
natural_or n false e = first_generation

generation_by : (z : ℤ) → IsGeneration (unwrap_or (generation_of_number z) 1)
generation_by (pos n) = natural_or n (nat_le n WORN_OUT) refl
generation_by (negsuc n) = first_generation

generation_is : (v : Option Data) → IsGeneration (generation_in v)
generation_is v = generation_by (whole_in v)

in_time : (p : SlotEntry) → is_in_time p ≡ true → p.live ≡ true → p.generation < WORN_OUT
in_time p h e = elim (either_true (not p.live) (nat_lt p.generation WORN_OUT) h) [
  | inl free ↦ absurd (false≢true (sym (not_true p.live free) ∙ e))
  | inr low ↦ below p.generation WORN_OUT low
]

slot_entry_is : (key : List ℕ) (d : Data) → is_in_time (slot_entry_in key d) ≡ true → IsSlotEntry (slot_entry_in key d)
unfolding slot_entry_in
slot_entry_is key d h =
    let g = generation_is (get (codes "generation") d) in
    record { positive = g.positive; bounded = g.bounded; takes_back = in_time (slot_entry_in key d) h }

live_is : (key : List ℕ) (d : Data) → (slot_entry_in key d).live ≡ is_some (get key d)
unfolding slot_entry_in
live_is key d = refl

-- where its generation is right
entry_kept : (key : List ℕ) (d : Data) → has_generation key d ≡ true → IsSlotEntry (slot_entry_in key d)
entry_kept key d h = slot_entry_is key d (both_true (is_some (generation_of_value (get (codes "generation") d))) (is_in_time (slot_entry_in key d)) h).1

slots_small : (v : Version) → most_slots v ≤ MAX_SLOTS
slots_small First = omega arith
slots_small Second = omega arith

pub few_slots : (v : Version) (value : Option Data) → are_few_slots v value ≡ true → items_len (items_in value) ≤ MAX_SLOTS
few_slots v value h =
    let few = at_most (items_len (items_in value)) (most_slots v) h in
    let all = slots_small v in
    omega (arith, few, all)

-- ---- slots of bodies

abbrev pub OnBody : ℕ → Option Body → Membership → Type 0
OnBody most None m = m ≡ no_membership
OnBody most (Some b) m = IsSavedBody most b m

pub record IsBodySlot (most : ℕ) (p : SlotEntry) (o : Option Body) (m : Membership) : Type 0 where
  pub slot_entry : IsSlotEntry p
  pub live : p.live ≡ is_some o
  pub body : OnBody most o m

-- three lists, slot by slot
abbrev pub AreBodySlots : ℕ → List SlotEntry → List (Option Body) → List Membership → Type 0
AreBodySlots most [] [] [] = Unit {0}
AreBodySlots most [] [] (m ∷ ms) = ⊥
AreBodySlots most [] (o ∷ os) ms = ⊥
AreBodySlots most (p ∷ ps) [] ms = ⊥
AreBodySlots most (p ∷ ps) (o ∷ os) [] = ⊥
AreBodySlots most (p ∷ ps) (o ∷ os) (m ∷ ms) = IsBodySlot most p o m × AreBodySlots most ps os ms

item_kept : (most : ℕ) (o : Option Data) → if_there (is_body_within most) o ≡ true → is_boxed (option_map (body_in most) o) ≡ true → is_membership_right (option_map (body_in most) o) (membership_or_none o) ≡ true → is_rested (option_map (body_in most) o) ≡ true
    → OnBody most (option_map (body_in most) o) (membership_or_none o)
item_kept most None within boxed right rested = refl
item_kept most (Some d) within boxed right rested = body_kept most d within boxed right rested

some_map : {X Y : Type 0} (f : X → Y) (o : Option X) → is_some o ≡ is_some (option_map f o)
some_map f None = refl
some_map f (Some x) = refl

-- what slots of bodies keep by themselves
pub record KeepSlots (most : ℕ) (ds : Items) : Type 0 where
  pub within : all_items (is_slot_within body_key (is_body_within most)) ds ≡ true
  pub generations : all_items (has_generation body_key) ds ≡ true
  pub boxed : list_all is_boxed (bodies_in most ds) ≡ true
  pub right : are_memberships_right (bodies_in most ds) (memberships_in ds) ≡ true
  pub rested : list_all is_rested (bodies_in most ds) ≡ true

pub body_slots_are : (most : ℕ) (ds : Items) → KeepSlots most ds → AreBodySlots most (slot_entries_in body_key ds) (bodies_in most ds) (memberships_in ds)
body_slots_are most no_items h = tt
body_slots_are most (item d ds) h =
    let within = both_true (is_slot_within body_key (is_body_within most) d) (all_items (is_slot_within body_key (is_body_within most)) ds) h.within in
    let generations = both_true (has_generation body_key d) (all_items (has_generation body_key) ds) h.generations in
    let boxed = both_true (is_boxed (slot_body most d)) (list_all is_boxed (bodies_in most ds)) h.boxed in
    let right = both_true (is_membership_right (slot_body most d) (slot_membership d)) (are_memberships_right (bodies_in most ds) (memberships_in ds)) h.right in
    let rested = both_true (is_rested (slot_body most d)) (list_all is_rested (bodies_in most ds)) h.rested in (
      record { slot_entry = entry_kept body_key d generations.0; live = live_is body_key d ∙ some_map (body_in most) (get body_key d); body = item_kept most (get body_key d) within.0 boxed.0 right.0 rested.0 },
      body_slots_are most ds (record { within = within.1; generations = generations.1; boxed = boxed.1; right = right.1; rested = rested.1 }),
    )

pub bodies_long : (most : ℕ) (ds : Items) → length (bodies_in most ds) ≡ items_len ds
bodies_long most no_items = refl
bodies_long most (item d ds) = ap (λ n. suc n) (bodies_long most ds)

-- ---- what the slots tell

-- the body of a slot and what it says of its island, beyond the lists too
pub slot_is : (most : ℕ) (ps : List SlotEntry) (os : List (Option Body)) (ms : List Membership) → AreBodySlots most ps os ms → (slot : ℕ) → OnBody most (body_at os slot) (membership_at ms slot)
slot_is most [] [] [] are slot = refl
slot_is most [] [] (m ∷ ms) are slot = absurd are
slot_is most [] (o ∷ os) ms are slot = absurd are
slot_is most (p ∷ ps) [] ms are slot = absurd are
slot_is most (p ∷ ps) (o ∷ os) [] are slot = absurd are
slot_is most (p ∷ ps) (o ∷ os) (m ∷ ms) are zero = are.0.body
slot_is most (p ∷ ps) (o ∷ os) (m ∷ ms) are (suc slot) = slot_is most ps os ms are.1 slot

taken_is : (most : ℕ) (ps : List SlotEntry) (os : List (Option Body)) (ms : List Membership) → AreBodySlots most ps os ms → (slot : ℕ) → is_some (item_at os slot) ≡ is_taken ps slot
taken_is most [] [] [] are slot = refl
taken_is most [] [] (m ∷ ms) are slot = absurd are
taken_is most [] (o ∷ os) ms are slot = absurd are
taken_is most (p ∷ ps) [] ms are slot = absurd are
taken_is most (p ∷ ps) (o ∷ os) [] are slot = absurd are
taken_is most (p ∷ ps) (o ∷ os) (m ∷ ms) are zero = sym are.0.live
taken_is most (p ∷ ps) (o ∷ os) (m ∷ ms) are (suc slot) = taken_is most ps os ms are.1 slot

as_long : (most : ℕ) (ps : List SlotEntry) (os : List (Option Body)) (ms : List Membership) → AreBodySlots most ps os ms → length ps ≡ length os
as_long most [] [] [] are = refl
as_long most [] [] (m ∷ ms) are = absurd are
as_long most [] (o ∷ os) ms are = absurd are
as_long most (p ∷ ps) [] ms are = absurd are
as_long most (p ∷ ps) (o ∷ os) [] are = absurd are
as_long most (p ∷ ps) (o ∷ os) (m ∷ ms) are = ap (λ n. suc n) (as_long most ps os ms are.1)

pub bodies_matched : (most : ℕ) (ps : List SlotEntry) (os : List (Option Body)) (ms : List Membership) → AreBodySlots most ps os ms → length os ≤ MAX_SLOTS → AreMatched ps os
bodies_matched most ps os ms are few = record { slots = as_long most ps os ms are; few = few; taken = taken_is most ps os ms are }

-- ---- slots of joints

abbrev pub OnJoint : Option SavedJoint → Type 0
OnJoint None = Unit {0}
OnJoint (Some j) = IsSavedJoint j

pub record IsJointSlot (p : SlotEntry) (o : Option SavedJoint) : Type 0 where
  pub slot_entry : IsSlotEntry p
  pub live : p.live ≡ is_some o
  pub joint : OnJoint o

abbrev pub AreSavedSlots : List SlotEntry → List (Option SavedJoint) → Type 0
AreSavedSlots [] [] = Unit {0}
AreSavedSlots [] (o ∷ os) = ⊥
AreSavedSlots (p ∷ ps) [] = ⊥
AreSavedSlots (p ∷ ps) (o ∷ os) = IsJointSlot p o × AreSavedSlots ps os

on_joint : (v : Version) (o : Option Data) → OnJoint (option_map (joint_in v) o)
on_joint v None = tt
on_joint v (Some d) = joint_is v d

pub joint_slots_are : (v : Version) (ds : Items) → all_items (has_generation joint_key) ds ≡ true → AreSavedSlots (slot_entries_in joint_key ds) (joints_in v ds)
joint_slots_are v no_items h = tt
joint_slots_are v (item d ds) h =
    let o = both_true (has_generation joint_key d) (all_items (has_generation joint_key) ds) h in
    (record { slot_entry = entry_kept joint_key d o.0; live = live_is joint_key d ∙ some_map (joint_in v) (get joint_key d); joint = on_joint v (get joint_key d) }, joint_slots_are v ds o.1)

pub joints_long : (v : Version) (ds : Items) → length (joints_in v ds) ≡ items_len ds
joints_long v no_items = refl
joints_long v (item d ds) = ap (λ n. suc n) (joints_long v ds)

pub joint_slot_is : (ps : List SlotEntry) (os : List (Option SavedJoint)) → AreSavedSlots ps os → (slot : ℕ) → OnJoint (item_at os slot)
joint_slot_is [] [] are slot = tt
joint_slot_is [] (o ∷ os) are slot = absurd are
joint_slot_is (p ∷ ps) [] are slot = absurd are
joint_slot_is (p ∷ ps) (o ∷ os) are zero = are.0.joint
joint_slot_is (p ∷ ps) (o ∷ os) are (suc slot) = joint_slot_is ps os are.1 slot

joint_taken : (ps : List SlotEntry) (os : List (Option SavedJoint)) → AreSavedSlots ps os → (slot : ℕ) → is_some (item_at os slot) ≡ is_taken ps slot
joint_taken [] [] are slot = refl
joint_taken [] (o ∷ os) are slot = absurd are
joint_taken (p ∷ ps) [] are slot = absurd are
joint_taken (p ∷ ps) (o ∷ os) are zero = sym are.0.live
joint_taken (p ∷ ps) (o ∷ os) are (suc slot) = joint_taken ps os are.1 slot

joints_as_long : (ps : List SlotEntry) (os : List (Option SavedJoint)) → AreSavedSlots ps os → length ps ≡ length os
joints_as_long [] [] are = refl
joints_as_long [] (o ∷ os) are = absurd are
joints_as_long (p ∷ ps) [] are = absurd are
joints_as_long (p ∷ ps) (o ∷ os) are = ap (λ n. suc n) (joints_as_long ps os are.1)

pub joints_matched : (ps : List SlotEntry) (os : List (Option SavedJoint)) → AreSavedSlots ps os → length os ≤ MAX_SLOTS → AreMatched ps os
joints_matched ps os are few = record { slots = joints_as_long ps os are; few = few; taken = joint_taken ps os are }

each_slot_entry : (ps : List SlotEntry) (os : List (Option SavedJoint)) → AreSavedSlots ps os → Each IsSlotEntry ps
each_slot_entry [] [] are = tt
each_slot_entry [] (o ∷ os) are = absurd are
each_slot_entry (p ∷ ps) [] are = absurd are
each_slot_entry (p ∷ ps) (o ∷ os) are = (are.0.slot_entry, each_slot_entry ps os are.1)

pub joint_slot_entries_are : (ps : List SlotEntry) (os : List (Option SavedJoint)) → AreSavedSlots ps os → All IsSlotEntry ps
joint_slot_entries_are ps os are = all_from_each IsSlotEntry ps (each_slot_entry ps os are)
