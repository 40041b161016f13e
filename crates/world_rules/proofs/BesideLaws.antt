-- A slot gets another body, or none: what its contacts and its joints leave stays in order, and so do the bodies in
-- other slots.
use Rattle.std.proofs.Common.{◌≡◌, ◌≢◌, ℕ, zero, suc, ◌*◌, ◌<◌, ◌≤◌, ◌==◌, ◌||◌, Bool, true, false, not, cond, List, [], ◌∷◌, length, Option, Some, None, is_some, All, inl, inr, refl, sym, ap, ap₂, ◌∙◌, subst, arith}
use Rattle.std.specs.Prelude.{option_map, pos, slice_set}
use Rattle.std.proofs.lemmas.Bool.{cases_eq, eqb-false}
use Rattle.std.proofs.lemmas.List.{length-set}
use Rattle.std.proofs.lemmas.Option.{none-some, same_Some}
use Rattle.body_handles.specs.declared.slot_table.SlotEntry.{SlotEntry}
use Rattle.contacts_base.specs.declared.contact.ContactEntry.{ContactEntry}
use Rattle.contacts_base.specs.Contacts.{AreKeysRising, contacts_without, has_slot}
use Rattle.contacts_base.proofs.ContactsLemmas.{keys_rise-filter}
use Rattle.graph_colours.proofs.Cases.{by_test, or_left, or_right, true_or_false}
use Rattle.graph_colours.proofs.PlaceLemmas.{is_same}
use Rattle.islands.specs.Labels.{Labels, label_at}
use Rattle.plain_world.specs.declared.body.Body.{Body}
use Rattle.plain_world.specs.declared.joint.BodyJoint.{BodyJoint}
use Rattle.plain_world.specs.Joints.{AreJoints, IsBodyJoint, idle_if, idle_joints, is_end_in, is_joint_of, joint_at}
use Rattle.plain_world.specs.Formed.{mixed_of, shape_of_body}
use Rattle.plain_world.specs.Slots.{AreMatched, body_at, shapes_in}
use Rattle.solver_sets.specs.Joining.{handle_at, unjoined, unjoined_all, unjoined_up}
use Rattle.solver_sets.specs.Tied.{AreTied}
use Rattle.solver_sets.specs.Alike.{AreAlikeBeside, HaveSameEnds, ends_in}
use Rattle.plain_world.specs.Bodies.{is_mover_in}
use Rattle.solver_sets.specs.Ties.{JointSlots, is_enabled_in}
use Rattle.world_core_base.specs.ContactBodies.{AreContactsOf, IsContactOf}
use Rattle.world_rules.specs.Sound.{AreTimers, HasBodies}
use Rattle.world_rules.proofs.KeptContacts.{all_without}
use Rattle.solver_sets.proofs.SlotLemmas.{below_length, item_at-set_none, item_at-set_other}

-- ---- what stands in the slot

pub own_item : (bodies : List (Option Body)) (slot : ℕ) (o : Option Body) → slot < length bodies → body_at (slice_set bodies slot o) slot ≡ o
own_item [] slot o lt = absurd (omega arith)
own_item (a ∷ bs) zero o lt = refl
own_item (a ∷ bs) (suc slot) o lt = own_item bs slot o (omega arith)

-- what holds of the new body in its slot, and of the others, holds of all
pub each_beside : (P : ℕ → Option Body → Type 0) (bodies : List (Option Body)) (slot : ℕ) (o : Option Body) → slot < length bodies → P slot o → ((k : ℕ) → k ≢ slot → P k (body_at bodies k)) → (k : ℕ) → P k (body_at (slice_set bodies slot o) k)
each_beside P bodies slot o lt own others k = elim (cases_eq k slot) [
  | inl e ↦ subst (λ (j : ℕ). P j (body_at (slice_set bodies slot o) j)) (sym e) (subst (P slot) (sym (own_item bodies slot o lt)) own)
  | inr far ↦ subst (P k) (sym (item_at-set_other bodies slot o k far)) (others k far)
]

-- the bodies in other slots are alike
pub alike_beside : (bodies : List (Option Body)) (slot : ℕ) (o : Option Body) → AreAlikeBeside slot bodies (slice_set bodies slot o)
alike_beside bodies slot o =
    let same : (other : ℕ) → (slot == other) ≡ false → body_at (slice_set bodies slot o) other ≡ body_at bodies other = λ other far. item_at-set_other bodies slot o other (λ e. true_or_false (slot == other) (is_same slot other (sym e)) far) in
    record { enabled = λ other far. ap is_enabled_in (same other far); movers = λ other far. ap is_mover_in (same other far) }

-- just the movers have labels
pub tied_beside : (bodies : List (Option Body)) (slot : ℕ) (o : Option Body) (old new : Labels) → slot < length bodies → AreTied bodies old → is_some (label_at new slot) ≡ is_mover_in o → ((k : ℕ) → k ≢ slot → is_some (label_at new k) ≡ is_some (label_at old k)) → AreTied (slice_set bodies slot o) new
tied_beside bodies slot o old new lt tied own others = each_beside (λ k a. is_some (label_at new k) ≡ is_mover_in a) bodies slot o lt own (λ k far. others k far ∙ tied k)

pub timers_beside : (steps : ℕ) (bodies : List (Option Body)) (slot : ℕ) (o : Option Body) → slot < length bodies → ((b : Body) → o ≡ Some b → b.timer ≤ 8 * steps) → AreTimers steps bodies → AreTimers steps (slice_set bodies slot o)
timers_beside steps bodies slot o lt own all = each_beside (λ k a. (b : Body) → a ≡ Some b → b.timer ≤ 8 * steps) bodies slot o lt own (λ k far. all k)

-- a body stays there
pub taken_beside : (bodies : List (Option Body)) (slot : ℕ) (b c : Body) → body_at bodies slot ≡ Some b → (k : ℕ) → is_some (body_at (slice_set bodies slot (Some c)) k) ≡ is_some (body_at bodies k)
taken_beside bodies slot b c at = each_beside (λ k a. is_some a ≡ is_some (body_at bodies k)) bodies slot (Some c) (below_length bodies slot b at) (sym (ap is_some at)) (λ k far. refl)

pub matched_beside : (slot_entries : List SlotEntry) (bodies : List (Option Body)) (slot : ℕ) (b c : Body) → body_at bodies slot ≡ Some b → AreMatched slot_entries bodies → AreMatched slot_entries (slice_set bodies slot (Some c))
matched_beside slot_entries bodies slot b c at m =
    let long : length (slice_set bodies slot (Some c)) ≡ length bodies = length-set bodies slot (Some c) in
    let few = m.few in
    record { slots = m.slots ∙ sym long; few = omega (arith, long, few); taken = λ k. taken_beside bodies slot b c at k ∙ m.taken k }

-- ---- contacts of other bodies

-- neither of its bodies is the one in the slot
record IsFarFrom (slot : ℕ) (e : ContactEntry) : Type 0 where
  first : e.key.first.slot ≢ slot
  second : e.key.second.slot ≢ slot

not_or : (a b : Bool) → not (a || b) ≡ true → (a ≡ false) × (b ≡ false)
not_or true b e = cc
not_or false true e = cc
not_or false false e = (refl, refl)

is_far : (slot : ℕ) (e : ContactEntry) → not (has_slot slot e) ≡ true → IsFarFrom slot e
is_far slot e h = let t = not_or (e.key.first.slot == slot) (e.key.second.slot == slot) h in record { first = eqb-false e.key.first.slot slot t.0; second = eqb-false e.key.second.slot slot t.1 }

contact_beside : (bodies : List (Option Body)) (slot : ℕ) (o : Option Body) (e : ContactEntry) → not (has_slot slot e) ≡ true → IsContactOf bodies e → IsContactOf (slice_set bodies slot o) e
contact_beside bodies slot o e other is =
    let far = is_far slot e other in
    let long : length (slice_set bodies slot o) ≡ length bodies = length-set bodies slot o in
    let a = is.first in
    let b = is.second in
    record {
      first = omega (arith, long, a);
      second = omega (arith, long, b);
      apart = is.apart;
      mover = elim is.mover [
        | inl m ↦ inl (ap is_mover_in (item_at-set_other bodies slot o e.key.first.slot far.first) ∙ m)
        | inr m ↦ inr (ap is_mover_in (item_at-set_other bodies slot o e.key.second.slot far.second) ∙ m)
      ];
      contact = is.contact;
    }

pub contacts_beside : (bodies : List (Option Body)) (slot : ℕ) (o : Option Body) (contacts : List ContactEntry) → AreContactsOf bodies contacts → AreContactsOf (slice_set bodies slot o) (contacts_without slot contacts)
contacts_beside bodies slot o contacts all = all_without (IsContactOf bodies) (IsContactOf (slice_set bodies slot o)) slot (contact_beside bodies slot o) contacts all

has_beside : (bodies : List (Option Body)) (slot : ℕ) (o : Option Body) (e : ContactEntry) → not (has_slot slot e) ≡ true → HasBodies bodies e → HasBodies (slice_set bodies slot o) e
has_beside bodies slot o e other h =
    let far = is_far slot e other in
    let a = item_at-set_other bodies slot o e.key.first.slot far.first in
    let b = item_at-set_other bodies slot o e.key.second.slot far.second in
    record {
      first = ap is_some a ∙ h.first;
      second = ap is_some b ∙ h.second;
      first_shape = rw (ap shapes_in a) h.first_shape;
      second_shape = rw (ap shapes_in b) h.second_shape;
      order = h.order;
      surface = h.surface ∙ sym (ap₂ (λ (x y : Option Body). mixed_of (shape_of_body x e.key.first.index) (shape_of_body y e.key.second.index)) a b);
      named = h.named;
      points = h.points;
    }

pub have_bodies_beside : (bodies : List (Option Body)) (slot : ℕ) (o : Option Body) (contacts : List ContactEntry) → All (HasBodies bodies) contacts → All (HasBodies (slice_set bodies slot o)) (contacts_without slot contacts)
have_bodies_beside bodies slot o contacts all = all_without (HasBodies bodies) (HasBodies (slice_set bodies slot o)) slot (has_beside bodies slot o) contacts all

pub keys_beside : (slot : ℕ) (contacts : List ContactEntry) → AreKeysRising contacts → AreKeysRising (contacts_without slot contacts)
keys_beside slot contacts h = keys_rise-filter (λ e. not (has_slot slot e)) contacts h

-- ---- joints of other bodies

-- what is left of the joints once those of a body in the slots below n are gone
record AreOthers (body n : ℕ) (old new : List (Option BodyJoint)) : Type 0 where
  long : length new ≡ length old
  from : (k : ℕ) (j : BodyJoint) → joint_at new k ≡ Some j → joint_at old k ≡ Some j
  other : (k : ℕ) (j : BodyJoint) → k < n → joint_at new k ≡ Some j → is_joint_of body j ≡ false

others_without : (body n : ℕ) (old new : List (Option BodyJoint)) → AreOthers body n old new → AreOthers body (suc n) old (slice_set new n None)
others_without body n old new are =
    let far : (k : ℕ) (j : BodyJoint) → joint_at (slice_set new n None) k ≡ Some j → k ≢ n = λ k j at same. none-some j (sym (item_at-set_none new n) ∙ sym (ap (joint_at (slice_set new n None)) same) ∙ at) in
    let before : (k : ℕ) (j : BodyJoint) → joint_at (slice_set new n None) k ≡ Some j → joint_at new k ≡ Some j = λ k j at. sym (item_at-set_other new n None k (far k j at)) ∙ at in
    record {
      long = length-set new n None ∙ are.long;
      from = λ k j at. are.from k j (before k j at);
      other = λ k j lt at. let apart = far k j at in are.other k j (omega (arith, lt, apart)) (before k j at);
    }

others_with : (body n : ℕ) (old new : List (Option BodyJoint)) → is_end_in body (joint_at new n) ≡ false → AreOthers body n old new → AreOthers body (suc n) old new
others_with body n old new end are = record {
  long = are.long;
  from = are.from;
  other = λ k j lt at. elim (cases_eq k n) [
    | inl same ↦ sym (ap (is_end_in body) (sym (ap (joint_at new) same) ∙ at)) ∙ end
    | inr far ↦ are.other k j (omega (arith, lt, far)) at
  ];
}

others_up : (body n : ℕ) (s : JointSlots) → AreOthers body n s.joints (unjoined_up body n s).joints
others_up body zero s = record { long = refl; from = λ k j at. at; other = λ k j lt at. absurd (omega (arith, lt)) }
others_up body (suc n) s =
    let before : JointSlots = unjoined_up body n s in
    by_test (λ (r : JointSlots). AreOthers body (suc n) s.joints r.joints) (is_end_in body (joint_at before.joints n)) (unjoined (handle_at before.slot_entries n) before) before
    (λ q. others_without body n s.joints before.joints (others_up body n s)) (λ q. others_with body n s.joints before.joints q (others_up body n s))

pub joints_beside : (bodies : List (Option Body)) (slot : ℕ) (o : Option Body) (s : JointSlots) → AreJoints bodies s.joints → AreJoints (slice_set bodies slot o) (unjoined_all slot s).joints
joints_beside bodies slot o s all k j at =
    let left = others_up slot (length s.joints) s in
    let before = left.from k j at in
    let within = below_length s.joints k j before in
    let other : is_joint_of slot j ≡ false = left.other k j within at in
    let is : IsBodyJoint bodies j = all k j before in
    record {
      first = ap is_some (item_at-set_other bodies slot o j.a (eqb-false j.a slot (or_left (j.a == slot) (j.b == slot) other))) ∙ is.first;
      second = ap is_some (item_at-set_other bodies slot o j.b (eqb-false j.b slot (or_right (j.a == slot) (j.b == slot) other))) ∙ is.second;
      apart = is.apart;
      joint = is.joint;
    }

-- ---- joints of a body that takes no part

-- where the same slots have bodies
pub joints_taken : (old new : List (Option Body)) (joints : List (Option BodyJoint)) → ((k : ℕ) → is_some (body_at new k) ≡ is_some (body_at old k)) → AreJoints old joints → AreJoints new joints
joints_taken old new joints taken all k j at = let is : IsBodyJoint old j = all k j at in record { first = taken j.a ∙ is.first; second = taken j.b ∙ is.second; apart = is.apart; joint = is.joint }

idle_is : (bodies : List (Option Body)) (slot : ℕ) (j : BodyJoint) (t : Bool) → IsBodyJoint bodies j → IsBodyJoint bodies (cond t (record j { joint = record j.joint { impulse = pos 0 } }) j)
idle_is bodies slot j true is = record {
  first = is.first;
  second = is.second;
  apart = is.apart;
  joint = record { from = is.joint.from; to = is.joint.to; nonnegative = is.joint.nonnegative; length = is.joint.length; impulse = omega arith };
}
idle_is bodies slot j false is = is

idle_in : (bodies : List (Option Body)) (slot : ℕ) (o : Option BodyJoint) → ((j : BodyJoint) → o ≡ Some j → IsBodyJoint bodies j) → (j : BodyJoint) → option_map (idle_if slot) o ≡ Some j → IsBodyJoint bodies j
idle_in bodies slot None all j e = absurd (none-some j e)
idle_in bodies slot (Some i) all j e = subst (IsBodyJoint bodies) (same_Some (idle_if slot i) j e) (idle_is bodies slot i (is_joint_of slot i) (all i refl))

idle_at : (slot : ℕ) (joints : List (Option BodyJoint)) (k : ℕ) → joint_at (idle_joints slot joints) k ≡ option_map (idle_if slot) (joint_at joints k)
idle_at slot [] k = refl
idle_at slot (o ∷ joints) zero = refl
idle_at slot (o ∷ joints) (suc k) = idle_at slot joints k

pub joints_idle : (bodies : List (Option Body)) (slot : ℕ) (joints : List (Option BodyJoint)) → AreJoints bodies joints → AreJoints bodies (idle_joints slot joints)
joints_idle bodies slot joints all k j at = idle_in bodies slot (joint_at joints k) (all k) j (sym (idle_at slot joints k) ∙ at)

idle_ends_if : (j : BodyJoint) (t : Bool) → ends_in (Some (cond t (record j { joint = record j.joint { impulse = pos 0 } }) j)) ≡ ends_in (Some j)
idle_ends_if j true = refl
idle_ends_if j false = refl

idle_ends_in : (slot : ℕ) (o : Option BodyJoint) → ends_in (option_map (idle_if slot) o) ≡ ends_in o
idle_ends_in slot None = refl
idle_ends_in slot (Some j) = idle_ends_if j (is_joint_of slot j)

pub idle_ends : (slot : ℕ) (joints : List (Option BodyJoint)) → HaveSameEnds joints (idle_joints slot joints)
idle_ends slot [] = refl
idle_ends slot (o ∷ joints) = rw (idle_ends_in slot o, idle_ends slot joints) refl

idle_some : (slot : ℕ) (o : Option BodyJoint) → is_some (option_map (idle_if slot) o) ≡ is_some o
idle_some slot None = refl
idle_some slot (Some j) = refl

idle_length : (slot : ℕ) (joints : List (Option BodyJoint)) → length (idle_joints slot joints) ≡ length joints
idle_length slot [] = refl
idle_length slot (o ∷ joints) = ap suc (idle_length slot joints)

pub idle_matched : (slot_entries : List SlotEntry) (slot : ℕ) (joints : List (Option BodyJoint)) → AreMatched slot_entries joints → AreMatched slot_entries (idle_joints slot joints)
idle_matched slot_entries slot joints m =
    let long : length (idle_joints slot joints) ≡ length joints = idle_length slot joints in
    let few = m.few in
    record { slots = m.slots ∙ sym long; few = omega (arith, long, few); taken = λ k. ap is_some (idle_at slot joints k) ∙ idle_some slot (joint_at joints k) ∙ m.taken k }
