-- Which bonds a world has, and that their numbers rise.
use Rattle.std.proofs.Common.{◌≡◌, ◌⊎◌, ℕ, zero, suc, ◌+◌, ◌*◌, ◌^◌, ◌<◌, ◌≤◌, true, List, [], ◌∷◌, length, map, filter, Option, Some, None, All, slice_get, inl, inr, refl, sym, ap, ap₂, ◌∙◌, subst, arith}
use Rattle.std.proofs.lemmas.Option.{get_or_from_slice_get, none-some, same_Some, slice_get_within}
use Rattle.body_handles.specs.declared.handle.Handle.{Handle}
use Rattle.body_handles.specs.declared.slot_table.SlotEntry.{SlotEntry}
use Rattle.body_handles.specs.SlotEntries.{IsSlotEntry}
use Rattle.body_handles.proofs.LowestLemmas.{no_slot_entry}
use Rattle.contacts_base.proofs.Members.{IsIn, in_append, in_left, in_right}
use Rattle.contacts_base.proofs.Rising.{rising_from_increasing, IsRising}
use Rattle.contacts_base.specs.declared.contact.ContactEntry.{ContactEntry}
use Rattle.contacts_base.specs.Contacts.{AreKeysRising, number_of}
use Rattle.contacts_base.specs.Evaluate.{touches}
use Rattle.contacts_base.specs.Keys.{key_number}
use Rattle.plain_world.specs.Constraints.{constraint_number}
use Rattle.contacts_base.proofs.Members.{each_in}
use Rattle.plain_world.specs.declared.joint.BodyJoint.{BodyJoint}
use Rattle.plain_world.specs.Joints.{joint_at}
use Rattle.solver_sets.specs.Alike.{AreJointSlots}
use Rattle.solver_sets.specs.Ties.{Bond, JointSlots, bond_before, bonds_of, contact_bond, joint_bond, joint_bonds, joint_bonds_from, touching_keys}
use Rattle.solver_sets.proofs.ListLaws.{Rises, filter_in, in_filter, in_mapped, mapped_in, rises_append, rises_filter, rises_mapped}

-- ---- the bonds of joints

abbrev handle_of : ℕ → ℕ → Handle
handle_of slot generation = record { slot = slot; generation = generation }

-- the bond is that of a joint in a slot of these lists, of which the first is the slot n
pub record IsJointFrom (n : ℕ) (slot_entries : List SlotEntry) (joints : List (Option BodyJoint)) (b : Bond) : Type 0 where
  pub index : ℕ
  pub slot : ℕ
  pub place : SlotEntry
  pub joint : BodyJoint
  pub at_place : slice_get slot_entries index ≡ Some place
  pub at_joint : joint_at joints index ≡ Some joint
  pub counts : slot ≡ n + index
  pub is : b ≡ joint_bond (record { slot = slot; generation = place.generation }) joint

shifted : (n : ℕ) (p : SlotEntry) (slot_entries : List SlotEntry) (o : Option BodyJoint) (joints : List (Option BodyJoint)) (b : Bond) → IsJointFrom (suc n) slot_entries joints b → IsJointFrom n (p ∷ slot_entries) (o ∷ joints) b
shifted n p slot_entries o joints b h = record { index = suc h.index; slot = h.slot; place = h.place; joint = h.joint; at_place = h.at_place; at_joint = h.at_joint; counts = let e = h.counts in omega (arith, e); is = h.is }

in_before : (n : ℕ) (p : SlotEntry) (slot_entries : List SlotEntry) (o : Option BodyJoint) (joints : List (Option BodyJoint)) (b : Bond) → IsIn b (bond_before (record { slot = n; generation = p.generation }) o (joint_bonds_from (suc n) slot_entries joints))
    → (IsIn b (joint_bonds_from (suc n) slot_entries joints) → IsJointFrom (suc n) slot_entries joints b) → IsJointFrom n (p ∷ slot_entries) (o ∷ joints) b
in_before n p slot_entries None joints b h rest = shifted n p slot_entries None joints b (rest h)
in_before n p slot_entries (Some j) joints b h rest = elim h [
  | inl e ↦ record { index = 0; slot = n; place = p; joint = j; at_place = refl; at_joint = refl; counts = omega arith; is = e }
  | inr q ↦ shifted n p slot_entries (Some j) joints b (rest q)
]

in_joints_from : (n : ℕ) (slot_entries : List SlotEntry) (joints : List (Option BodyJoint)) (b : Bond) → IsIn b (joint_bonds_from n slot_entries joints) → IsJointFrom n slot_entries joints b
in_joints_from n [] joints b h = absurd h
in_joints_from n (p ∷ slot_entries) [] b h = absurd h
in_joints_from n (p ∷ slot_entries) (o ∷ joints) b h = in_before n p slot_entries o joints b h (in_joints_from (suc n) slot_entries joints b)

before_in : (h : Handle) (o : Option BodyJoint) (bonds : List Bond) (b : Bond) → IsIn b bonds → IsIn b (bond_before h o bonds)
before_in h None bonds b q = q
before_in h (Some j) bonds b q = inr q

joints_in_from : (n : ℕ) (slot_entries : List SlotEntry) (joints : List (Option BodyJoint)) (k m : ℕ) (p : SlotEntry) (j : BodyJoint) → slice_get slot_entries k ≡ Some p → joint_at joints k ≡ Some j → m ≡ n + k → IsIn (joint_bond (record { slot = m; generation = p.generation }) j) (joint_bonds_from n slot_entries joints)
joints_in_from n [] joints k m p j at e counts = absurd (none-some p at)
joints_in_from n (q ∷ slot_entries) [] k m p j at e counts = absurd (none-some j e)
joints_in_from n (q ∷ slot_entries) (o ∷ joints) zero m p j at e counts =
    let same : q ≡ p = same_Some q p at in
    let here : n ≡ m = omega (arith, counts) in
    subst (λ (v : Option BodyJoint). IsIn (joint_bond (record { slot = m; generation = p.generation }) j) (bond_before (record { slot = n; generation = q.generation }) v (joint_bonds_from (suc n) slot_entries joints))) (sym e)
    (inl (ap₂ (λ (s g : ℕ). joint_bond (handle_of s g) j) (sym here) (sym (ap (λ (v : SlotEntry). v.generation) same))))
joints_in_from n (q ∷ slot_entries) (o ∷ joints) (suc k) m p j at e counts =
    before_in (record { slot = n; generation = q.generation }) o (joint_bonds_from (suc n) slot_entries joints) (joint_bond (record { slot = m; generation = p.generation }) j)
    (joints_in_from (suc n) slot_entries joints k m p j at e (omega (arith, counts)))

-- the bond is that of a joint
pub record IsJointBond (s : JointSlots) (b : Bond) : Type 0 where
  pub slot : ℕ
  pub place : SlotEntry
  pub joint : BodyJoint
  pub at_place : slice_get s.slot_entries slot ≡ Some place
  pub at_joint : joint_at s.joints slot ≡ Some joint
  pub is : b ≡ joint_bond (record { slot = slot; generation = place.generation }) joint

pub in_joints : (s : JointSlots) (b : Bond) → IsIn b (joint_bonds s) → IsJointBond s b
in_joints s b h =
    let o = in_joints_from 0 s.slot_entries s.joints b h in
    let e : o.index ≡ o.slot = let c = o.counts in omega (arith, c) in
    record { slot = o.slot; place = o.place; joint = o.joint; at_place = sym (ap (slice_get s.slot_entries) e) ∙ o.at_place; at_joint = sym (ap (joint_at s.joints) e) ∙ o.at_joint; is = o.is }

pub joints_in : (s : JointSlots) (b : Bond) → IsJointBond s b → IsIn b (joint_bonds s)
joints_in s b h = subst (λ (v : Bond). IsIn v (joint_bonds s)) (sym h.is) (joints_in_from 0 s.slot_entries s.joints h.slot h.slot h.place h.joint h.at_place h.at_joint (omega arith))

-- ---- the bonds of contacts

-- the bond is that of a contact that touches
pub record IsContactBond (contacts : List ContactEntry) (b : Bond) : Type 0 where
  pub entry : ContactEntry
  pub there : IsIn entry contacts
  pub touching : touches entry.contact ≡ true
  pub is : b ≡ contact_bond entry.key

pub in_contacts : (contacts : List ContactEntry) (b : Bond) → IsIn b (map contact_bond (touching_keys contacts)) → IsContactBond contacts b
in_contacts contacts b h =
    let o = in_mapped contact_bond (touching_keys contacts) b h in
    let p = in_mapped (λ (e : ContactEntry). e.key) (filter (λ (e : ContactEntry). touches e.contact) contacts) o.of o.there in
    let q = in_filter (λ (e : ContactEntry). touches e.contact) contacts p.of p.there in
    record { entry = p.of; there = q.0; touching = q.1; is = o.is ∙ ap contact_bond p.is }

pub contacts_in : (contacts : List ContactEntry) (b : Bond) → IsContactBond contacts b → IsIn b (map contact_bond (touching_keys contacts))
contacts_in contacts b h = subst (λ (v : Bond). IsIn v (map contact_bond (touching_keys contacts))) (sym h.is)
    (mapped_in contact_bond (touching_keys contacts) h.entry.key (mapped_in (λ (e : ContactEntry). e.key) (filter (λ (e : ContactEntry). touches e.contact) contacts) h.entry (filter_in (λ (e : ContactEntry). touches e.contact) contacts h.entry h.there h.touching)))

-- ---- all bonds

pub in_bonds : (s : JointSlots) (contacts : List ContactEntry) (b : Bond) → IsIn b (bonds_of s contacts) → IsJointBond s b ⊎ IsContactBond contacts b
in_bonds s contacts b h = elim (in_append b (joint_bonds s) (map contact_bond (touching_keys contacts)) h) [
  | inl p ↦ inl (in_joints s b p)
  | inr q ↦ inr (in_contacts contacts b q)
]

pub bonds_in : (s : JointSlots) (contacts : List ContactEntry) (b : Bond) → IsJointBond s b ⊎ IsContactBond contacts b → IsIn b (bonds_of s contacts)
bonds_in s contacts b h = elim h [
  | inl p ↦ in_left b (joint_bonds s) (map contact_bond (touching_keys contacts)) (joints_in s b p)
  | inr q ↦ in_right b (joint_bonds s) (map contact_bond (touching_keys contacts)) (contacts_in contacts b q)
]

-- ---- their numbers

abbrev pub bond_number : Bond → ℕ
bond_number b = constraint_number b.id

pub place_is : (slot_entries : List SlotEntry) (k : ℕ) (p : SlotEntry) → All IsSlotEntry slot_entries → slice_get slot_entries k ≡ Some p → IsSlotEntry p
place_is slot_entries k p all at = subst IsSlotEntry (get_or_from_slice_get slot_entries k p no_slot_entry at) (all k no_slot_entry (slice_get_within slot_entries k p at))

joints_rise_from : (n : ℕ) (slot_entries : List SlotEntry) (joints : List (Option BodyJoint)) → All IsSlotEntry slot_entries → Rises bond_number (joint_bonds_from n slot_entries joints)
joints_rise_from n [] joints all = tt
joints_rise_from n (p ∷ slot_entries) [] all = tt
joints_rise_from n (p ∷ slot_entries) (o ∷ joints) all =
    by_option o (joint_bonds_from (suc n) slot_entries joints) (λ b h. let q = in_joints_from (suc n) slot_entries joints b h in
    let is : IsSlotEntry p = all 0 no_slot_entry (omega arith) in
    let bounded = is.bounded in
    let counts = q.counts in
    let number : bond_number b ≡ q.slot * 2 ^ 32 + q.place.generation = ap bond_number q.is in
    omega (arith, bounded, counts, number))
    (joints_rise_from (suc n) slot_entries joints (λ k d lt. all (suc k) d (omega arith)))
  where
    by_option : (o : Option BodyJoint) (bonds : List Bond) → ((b : Bond) → IsIn b bonds → n * 2 ^ 32 + p.generation < bond_number b) → Rises bond_number bonds → Rises bond_number (bond_before (record { slot = n; generation = p.generation }) o bonds)
    by_option None bonds h r = r
    by_option (Some j) bonds h r = (h, r)

pub joints_rise : (s : JointSlots) → AreJointSlots s → Rises bond_number (joint_bonds s)
joints_rise s are = joints_rise_from 0 s.slot_entries s.joints are.slot_entries

entries_rise : (contacts : List ContactEntry) → IsRising (map number_of contacts) → Rises number_of contacts
entries_rise [] r = tt
entries_rise (e ∷ es) r = (
  λ f h. each_in (λ y. number_of e < y) (number_of f) (map number_of es) r.0 (mapped_in number_of es f h),
  entries_rise es r.1,
)

pub rises_from_keys : (contacts : List ContactEntry) → AreKeysRising contacts → Rises number_of contacts
rises_from_keys contacts rising = entries_rise contacts (rising_from_increasing (map number_of contacts) rising)

pub contacts_rise : (contacts : List ContactEntry) → AreKeysRising contacts → Rises bond_number (map contact_bond (touching_keys contacts))
contacts_rise contacts rising =
    rises_mapped contact_bond (λ k. 2 ^ 80 + key_number k) bond_number (touching_keys contacts) (λ k. refl)
    (rises_mapped (λ (e : ContactEntry). e.key) (λ e. 2 ^ 80 + number_of e) (λ k. 2 ^ 80 + key_number k) (filter (λ (e : ContactEntry). touches e.contact) contacts) (λ e. refl)
    (rises_filter (λ e. 2 ^ 80 + number_of e) (λ (e : ContactEntry). touches e.contact) contacts (lifted contacts (rises_from_keys contacts rising))))
  where
    lifted : (es : List ContactEntry) → Rises number_of es → Rises (λ e. 2 ^ 80 + number_of e) es
    lifted [] r = tt
    lifted (e ∷ es) r = ((λ f h. let lt : number_of e < number_of f = r.0 f h in omega (arith, lt)), lifted es r.1)

-- a joint's number is below those of all contacts
pub joint_below : (s : JointSlots) (b : Bond) → AreJointSlots s → IsJointBond s b → bond_number b < 2 ^ 80
joint_below s b are h =
    let is : IsSlotEntry h.place = place_is s.slot_entries h.slot h.place are.slot_entries h.at_place in
    let bounded = is.bounded in
    let slots = are.matched.slots in
    let few = are.matched.few in
    let within : h.slot < length s.slot_entries = slice_get_within s.slot_entries h.slot h.place h.at_place in
    let number : bond_number b ≡ h.slot * 2 ^ 32 + h.place.generation = ap bond_number h.is in
    omega (arith, bounded, slots, few, within, number)

pub contact_above : (contacts : List ContactEntry) (b : Bond) → IsContactBond contacts b → 2 ^ 80 ≤ bond_number b
contact_above contacts b h = let number : bond_number b ≡ 2 ^ 80 + key_number h.entry.key = ap bond_number h.is in omega (arith, number)

pub bonds_rise : (s : JointSlots) (contacts : List ContactEntry) → AreJointSlots s → AreKeysRising contacts → Rises bond_number (bonds_of s contacts)
bonds_rise s contacts are rising = rises_append bond_number (joint_bonds s) (map contact_bond (touching_keys contacts)) (joints_rise s are) (contacts_rise contacts rising)
    (λ x y h k. let low = joint_below s x are (in_joints s x h) in let high = contact_above contacts y (in_contacts contacts y k) in omega (arith, low, high))
