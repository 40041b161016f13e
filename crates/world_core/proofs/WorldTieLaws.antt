-- The ties of a sleeping island are those of its sleeping sets, and those of which a mover is the first are those at
-- it.
use Rattle.std.proofs.Common.{◌≡◌, ◌≢◌, ◌⊎◌, ℕ, zero, suc, ◌<◌, ◌++◌, ◌==◌, ◌&&◌, ◌||◌, Bool, true, false, cond, List, [], ◌∷◌, length, get_or, Option, Some, None, inl, inr, refl, sym, ap, ap₂, ◌∙◌, subst, arith, eqb-true, eq-eqb}
use Rattle.std.specs.Prelude.{◌/◌, ◌↔◌, filter, map, Contains, slice_get, option_map}
use Rattle.std.specs.List.{filter_map, slice_index_or}
use Rattle.std.specs.List.Sorted.{IsPermutation}
use Rattle.std.proofs.lemmas.Bool.{false≢true}
use Rattle.std.proofs.lemmas.Option.{none-some, same_Some}
use Rattle.std.proofs.lemmas.List.Elements.{filter_map-append}
use Rattle.std.proofs.lemmas.List.Sorted.{IsPermutation-sym, Contains-permutation}
use Rattle.body_handles.specs.declared.slot_table.SlotEntry.{SlotEntry}
use Rattle.plain_world.specs.declared.constraint.Constraint.{Constraint}
use Rattle.plain_world.specs.declared.constraint.Constraint.TheVariants.{Joint, Contact}
use Rattle.contacts.specs.declared.number_book.NumberedContact.{NumberedContact}
use Rattle.contacts.specs.declared.ends.Side.TheVariants.{First, Second}
use Rattle.contacts.specs.Ends.{slot_on}
use Rattle.contacts.specs.Numbered.{AreEndsAt, AreNumbered, contact_at, key_of, number_key_at, numbered_of}
use Rattle.contacts_base.proofs.Members.{IsIn, contains_from_in, in_from_contains, in_left, in_right}
use Rattle.contacts_base.specs.declared.contact.ContactEntry.{ContactEntry}
use Rattle.contacts_base.specs.declared.key.ContactKey.{ContactKey}
use Rattle.contacts_base.specs.Contacts.{AreKeysRising}
use Rattle.graph_colours.specs.declared.member.Member.{Member}
use Rattle.graph_colours.specs.declared.member.Movers.{Movers}
use Rattle.packed_sets.specs.Packs.{list_at}
use Rattle.packed_sets.specs.Once.{AreOnce}
use Rattle.plain_world.specs.declared.body.Body.{Body}
use Rattle.plain_world.specs.declared.joint.BodyJoint.{BodyJoint}
use Rattle.plain_world.specs.declared.kind.Kind.{Kind}
use Rattle.plain_world.specs.declared.kind.Kind.TheVariants.{Static, Kinematic, Dynamic}
use Rattle.plain_world.specs.Bodies.{is_mover_in, moves}
use Rattle.plain_world.specs.Joints.{is_end_in, is_joint_of, joint_at}
use Rattle.plain_world.specs.Kinds.{is_dynamic}
use Rattle.plain_world.specs.Slots.{body_at}
use Rattle.sleep_wake.specs.Sources.{asleep_ties, first_ties, is_asleep_under, is_first, is_named}
use Rattle.solver_sets.specs.Alike.{AreJointSlots}
use Rattle.solver_sets.specs.Ties.{Bond, JointSlots, contact_bond, contact_movers, is_enabled, is_enabled_in, joint_bond, joint_bonds, movers_if, movers_with, tie_of, ties_of, touching_keys}
use Rattle.solver_sets.proofs.BondLaws.{IsContactBond, contacts_in, contacts_rise, in_contacts, in_joints, joints_in, joints_rise}
use Rattle.solver_sets.proofs.ListLaws.{in_map, in_mapped, map_in}
use Rattle.solver_sets.proofs.TieLaws.{has_movers, tie_is, tie_number, ties_rise_in}
use Rattle.world_core_base.specs.JointEnds.{halves}
use Rattle.world_core_base.specs.Asleep.{AreContactSets, AreJointSets, asleep_under, contact_sleep, joint_sleep, movers_of_contact, movers_of_joint, sleep_with}
use Rattle.world_core_base.specs.Sleeping.{Sleeping, sleep_at}
use Rattle.world_core.specs.WorldTies.{AreOfTwo, all_contact_ties, all_joint_ties, contact_tie_in, if_first, joint_tie_in, tie_of_contact, tie_of_joint}
use Rattle.world_core.proofs.PushLaws.{of_mapped}
use Rattle.world_core.proofs.ByNumberLaws.{AreAll, IsOnceEach, all_told, once_both, once_each, once_moved, passing_told, rises_once}

-- ---- joints by slot

-- the tie of a joint in a slot is that of its bond
pub record IsJointTie (bodies : List (Option Body)) (s : JointSlots) (slot : ℕ) (m : Member Constraint) : Type 0 where
  pub place : SlotEntry
  pub joint : BodyJoint
  pub at_place : slice_get s.slot_entries slot ≡ Some place
  pub at_joint : joint_at s.joints slot ≡ Some joint
  pub tie : tie_of bodies (joint_bond (record { slot = slot; generation = place.generation }) joint) ≡ Some m

joint_tie_by : (bodies : List (Option Body)) (s : JointSlots) (slot : ℕ) (m : Member Constraint) (p : Option SlotEntry) (o : Option BodyJoint) → slice_get s.slot_entries slot ≡ p → joint_at s.joints slot ≡ o → tie_of_joint bodies slot p o ≡ Some m → IsJointTie bodies s slot m
joint_tie_by bodies s slot m None o e f h = absurd (none-some m h)
joint_tie_by bodies s slot m (Some p) None e f h = absurd (none-some m h)
joint_tie_by bodies s slot m (Some p) (Some j) e f h = record { place = p; joint = j; at_place = e; at_joint = f; tie = h }

pub joint_tie : (bodies : List (Option Body)) (s : JointSlots) (slot : ℕ) (m : Member Constraint) → joint_tie_in bodies s slot ≡ Some m → IsJointTie bodies s slot m
joint_tie bodies s slot m h = joint_tie_by bodies s slot m (slice_get s.slot_entries slot) (joint_at s.joints slot) refl refl h

abbrev slot_in : Constraint → ℕ
slot_in (Joint h) = h.slot
slot_in (Contact key) = 0

pub joints_all : (bodies : List (Option Body)) (s : JointSlots) → AreJointSlots s → AreAll (joint_tie_in bodies s) (all_joint_ties bodies s)
joints_all bodies s are = record {
  once = rises_once tie_number (all_joint_ties bodies s) (ties_rise_in bodies (joint_bonds s) (joints_rise s are));
  has = λ slot m h.
      let t = joint_tie bodies s slot m h in
      let b : Bond = joint_bond (record { slot = slot; generation = t.place.generation }) t.joint in
      map_in (tie_of bodies) (joint_bonds s) b m (joints_in s b (record { slot = slot; place = t.place; joint = t.joint; at_place = t.at_place; at_joint = t.at_joint; is = refl })) t.tie;
  named = λ m h.
      let o = in_map (tie_of bodies) (joint_bonds s) m h in
      let b = in_joints s o.of o.there in
      (b.slot, ap₂ (λ (p : Option SlotEntry) (j : Option BodyJoint). tie_of_joint bodies b.slot p j) b.at_place b.at_joint ∙ ap (tie_of bodies) (sym b.is) ∙ o.gives);
  apart = λ a b m h k.
      let t = joint_tie bodies s a m h in
      let u = joint_tie bodies s b m k in
      let left : m.id ≡ Joint (record { slot = a; generation = t.place.generation }) = (tie_is bodies (joint_bond (record { slot = a; generation = t.place.generation }) t.joint) m t.tie).named in
      let right : m.id ≡ Joint (record { slot = b; generation = u.place.generation }) = (tie_is bodies (joint_bond (record { slot = b; generation = u.place.generation }) u.joint) m u.tie).named in
      ap slot_in (sym left ∙ right);
}

-- ---- contacts by number

pub record IsContactTie (bodies : List (Option Body)) (numbered : List (Option NumberedContact)) (number : ℕ) (m : Member Constraint) : Type 0 where
  pub contact : NumberedContact
  pub at : contact_at numbered number ≡ Some contact
  pub touching : contact.touching ≡ true
  pub tie : tie_of bodies (contact_bond contact.key) ≡ Some m

contact_tie_by : (bodies : List (Option Body)) (numbered : List (Option NumberedContact)) (number : ℕ) (m : Member Constraint) (c : NumberedContact) (t : Bool) → contact_at numbered number ≡ Some c → c.touching ≡ t → cond t (tie_of bodies (contact_bond c.key)) None ≡ Some m → IsContactTie bodies numbered number m
contact_tie_by bodies numbered number m c true e f h = record { contact = c; at = e; touching = f; tie = h }
contact_tie_by bodies numbered number m c false e f h = absurd (none-some m h)

contact_tie_at : (bodies : List (Option Body)) (numbered : List (Option NumberedContact)) (number : ℕ) (m : Member Constraint) (o : Option NumberedContact) → contact_at numbered number ≡ o → tie_of_contact bodies o ≡ Some m → IsContactTie bodies numbered number m
contact_tie_at bodies numbered number m None e h = absurd (none-some m h)
contact_tie_at bodies numbered number m (Some c) e h = contact_tie_by bodies numbered number m c c.touching e refl h

pub contact_tie : (bodies : List (Option Body)) (numbered : List (Option NumberedContact)) (number : ℕ) (m : Member Constraint) → contact_tie_in bodies numbered number ≡ Some m → IsContactTie bodies numbered number m
contact_tie bodies numbered number m h = contact_tie_at bodies numbered number m (contact_at numbered number) refl h

tie_there : (bodies : List (Option Body)) (c : NumberedContact) (m : Member Constraint) → c.touching ≡ true → tie_of bodies (contact_bond c.key) ≡ Some m → tie_of_contact bodies (Some c) ≡ Some m
tie_there bodies c m t h = ap (λ (b : Bool). cond b (tie_of bodies (contact_bond c.key)) None) t ∙ h

-- the number that a contact has
pub number_at : {X : Type 0} (items : List (Option X)) (x : X) → Contains items (Some x) → (n : ℕ) × (slice_index_or items n None ≡ Some x)
number_at {X} items x h = (h.0, by items h.0 h.1 h.2)
  where
    by : (os : List (Option X)) (n : ℕ) → n < length os → get_or os n (Some x) ≡ Some x → slice_index_or os n None ≡ Some x
    by [] n lt e = absurd (omega (arith, lt))
    by (o ∷ os) zero lt e = e
    by (o ∷ os) (suc n) lt e = by os n (omega (arith, lt)) e

abbrev same_key : ContactKey → Constraint → ContactKey
same_key d (Joint h) = d
same_key d (Contact key) = key

pub contacts_all : (bodies : List (Option Body)) (contacts : List ContactEntry) (numbered : List (Option NumberedContact)) → AreKeysRising contacts → AreNumbered contacts numbered → AreAll (contact_tie_in bodies numbered) (all_contact_ties bodies contacts)
contacts_all bodies contacts numbered rising are = record {
  once = rises_once tie_number (all_contact_ties bodies contacts) (ties_rise_in bodies (map contact_bond (touching_keys contacts)) (contacts_rise contacts rising));
  has = λ number m h.
      let t = contact_tie bodies numbered number m h in
      let e = in_mapped numbered_of contacts t.contact (in_from_contains (map numbered_of contacts) t.contact (are.only number t.contact t.at)) in
      let b : IsContactBond contacts (contact_bond t.contact.key) = record { entry = e.of; there = e.there; touching = sym (ap (λ (c : NumberedContact). c.touching) e.is) ∙ t.touching; is = ap (λ (c : NumberedContact). contact_bond c.key) e.is } in
      map_in (tie_of bodies) (map contact_bond (touching_keys contacts)) (contact_bond t.contact.key) m (contacts_in contacts (contact_bond t.contact.key) b) t.tie;
  named = λ m h.
      let o = in_map (tie_of bodies) (map contact_bond (touching_keys contacts)) m h in
      let b = in_contacts contacts o.of o.there in
      let n = number_at numbered (numbered_of b.entry) (are.all b.entry (contains_from_in contacts b.entry b.there)) in
      (n.0, ap (tie_of_contact bodies) n.1 ∙ tie_there bodies (numbered_of b.entry) m b.touching (ap (tie_of bodies) (sym b.is) ∙ o.gives));
  apart = λ a b m h k.
      let t = contact_tie bodies numbered a m h in
      let u = contact_tie bodies numbered b m k in
      let left : m.id ≡ Contact t.contact.key = (tie_is bodies (contact_bond t.contact.key) m t.tie).named in
      let right : m.id ≡ Contact u.contact.key = (tie_is bodies (contact_bond u.contact.key) m u.tie).named in
      let same : t.contact.key ≡ u.contact.key = ap (same_key t.contact.key) (sym left ∙ right) in
      let key_at : (n : ℕ) (c : NumberedContact) → contact_at numbered n ≡ Some c → number_key_at numbered n ≡ Some c.key = λ n c e. ap (option_map (λ (v : NumberedContact). v.key)) e in
      are.once a b u.contact.key (key_at a t.contact t.at ∙ ap Some same) (key_at b u.contact u.at);
}

-- ---- where a tie stands: where its first mover does

pub joint_sleeps : (bodies : List (Option Body)) (s : JointSlots) (slot : ℕ) (m : Member Constraint) → joint_tie_in bodies s slot ≡ Some m → joint_sleep bodies s.joints slot ≡ asleep_under bodies m.movers.first
joint_sleeps bodies s slot m h =
    let t = joint_tie bodies s slot m h in
    let own : movers_with bodies t.joint.a t.joint.b ≡ Some m.movers = (tie_is bodies (joint_bond (record { slot = slot; generation = t.place.generation }) t.joint) m t.tie).movers in
    ap (λ (o : Option BodyJoint). sleep_with bodies (movers_of_joint bodies o)) t.at_joint ∙ ap (sleep_with bodies) own

pub contact_sleeps : (bodies : List (Option Body)) (numbered : List (Option NumberedContact)) (number : ℕ) (m : Member Constraint) → contact_tie_in bodies numbered number ≡ Some m → contact_sleep bodies numbered number ≡ asleep_under bodies m.movers.first
contact_sleeps bodies numbered number m h =
    let t = contact_tie bodies numbered number m h in
    let own : contact_movers bodies t.contact.key ≡ Some m.movers = (tie_is bodies (contact_bond t.contact.key) m t.tie).movers in
    ap (λ (o : Option NumberedContact). sleep_with bodies (movers_of_contact bodies o)) t.at ∙ ap (λ (u : Bool). sleep_with bodies (cond u (contact_movers bodies t.contact.key) None)) t.touching ∙ ap (sleep_with bodies) own

-- ---- by sleeping set

named_is : (o : Option ℕ) (name : ℕ) → is_named name o ≡ true → o ≡ Some name
named_is None name h = absurd (false≢true h)
named_is (Some other) name h = ap (λ (n : ℕ). Some n) (eqb-true other name h)

is_named_from : (o : Option ℕ) (name : ℕ) → o ≡ Some name → is_named name o ≡ true
is_named_from None name h = cc
is_named_from (Some other) name h = eq-eqb other name (same_Some other name h)

-- the items of a name's set are those that sleep under it
abbrev pub AreThose : Sleeping → ℕ → Type 0
AreThose sets name = (id : ℕ) → Contains (list_at sets.sets name) id ↔ (sleep_at sets.names id ≡ Some name)

pub asleep_told : (at : ℕ → Option (Member Constraint)) (all : List (Member Constraint)) (bodies : List (Option Body)) (name : ℕ) (sets : Sleeping) → AreAll at all → ((n : ℕ) (m : Member Constraint) → at n ≡ Some m → sleep_at sets.names n ≡ asleep_under bodies m.movers.first)
    → AreThose sets name → AreOnce (list_at sets.sets name) → IsPermutation (asleep_ties (asleep_under bodies) name all) (filter_map at (list_at sets.sets name))
asleep_told at all bodies name sets are sleep those once =
    let p : Member Constraint → Bool = is_asleep_under (asleep_under bodies) name in
    let thread : List ℕ = list_at sets.sets name in
    let into : (n : ℕ) (m : Member Constraint) → at n ≡ Some m → p m ≡ true → IsIn n thread = λ n m e q. in_from_contains thread n ((those n).1 (sleep n m e ∙ named_is (asleep_under bodies m.movers.first) name q)) in
    let passes : (n : ℕ) (m : Member Constraint) → IsIn n thread → at n ≡ Some m → p m ≡ true = λ n m k e. is_named_from (asleep_under bodies m.movers.first) name (sym (sleep n m e) ∙ (those n).0 (contains_from_in thread n k)) in
    all_told at all p thread are (once_each thread once) into passes

front_kept : {X : Type 0} (x : X) (t : Bool) (all xs ys : List X) → all ≡ xs ++ ys → cond t (x ∷ all) all ≡ cond t (x ∷ xs) xs ++ ys
front_kept x true all xs ys e = ap (λ l. x ∷ l) e
front_kept x false all xs ys e = e

pub filter_append : {X : Type 0} (p : X → Bool) (xs ys : List X) → filter p (xs ++ ys) ≡ filter p xs ++ filter p ys
filter_append p [] ys = refl
filter_append p (x ∷ xs) ys = front_kept x (p x) (filter p (xs ++ ys)) (filter p xs) (filter p ys) (filter_append p xs ys)

pub ties_are : (bodies : List (Option Body)) (s : JointSlots) (contacts : List ContactEntry) → ties_of bodies s contacts ≡ all_joint_ties bodies s ++ all_contact_ties bodies contacts
unfolding ties_of
ties_are bodies s contacts = filter_map-append (tie_of bodies) (joint_bonds s) (map contact_bond (touching_keys contacts))

pub ties_that : (p : Member Constraint → Bool) (bodies : List (Option Body)) (s : JointSlots) (contacts : List ContactEntry) → filter p (ties_of bodies s contacts) ≡ filter p (all_joint_ties bodies s) ++ filter p (all_contact_ties bodies contacts)
ties_that p bodies s contacts = ap (λ (l : List (Member Constraint)). filter p l) (ties_are bodies s contacts) ∙ filter_append p (all_joint_ties bodies s) (all_contact_ties bodies contacts)

-- those of the joints that sleep under a name
pub asleep_joints : (bodies : List (Option Body)) (s : JointSlots) (sets : Sleeping) (name : ℕ) → AreJointSlots s → AreJointSets bodies s.joints sets → AreThose sets name → AreOnce (list_at sets.sets name)
    → IsPermutation (asleep_ties (asleep_under bodies) name (all_joint_ties bodies s)) (filter_map (joint_tie_in bodies s) (list_at sets.sets name))
asleep_joints bodies s sets name are sleep those once = asleep_told (joint_tie_in bodies s) (all_joint_ties bodies s) bodies name sets (joints_all bodies s are) (λ n m e. sleep.asleep n ∙ joint_sleeps bodies s n m e) those once

-- those of the contacts that do
pub asleep_contacts : (bodies : List (Option Body)) (contacts : List ContactEntry) (numbered : List (Option NumberedContact)) (sets : Sleeping) (name : ℕ) → AreKeysRising contacts → AreNumbered contacts numbered → AreContactSets bodies numbered sets → AreThose sets name → AreOnce (list_at sets.sets name)
    → IsPermutation (asleep_ties (asleep_under bodies) name (all_contact_ties bodies contacts)) (filter_map (contact_tie_in bodies numbered) (list_at sets.sets name))
asleep_contacts bodies contacts numbered sets name rising are sleep those once = asleep_told (contact_tie_in bodies numbered) (all_contact_ties bodies contacts) bodies name sets (contacts_all bodies contacts numbered rising are) (λ n m e. sleep.asleep n ∙ contact_sleeps bodies numbered n m e) those once

-- ---- by first mover

first_of_two : (bodies : List (Option Body)) (a b slot : ℕ) (v : Movers) → movers_with bodies a b ≡ Some v → v.first ≡ slot → (a ≡ slot) ⊎ (b ≡ slot)
first_of_two bodies a b slot v h e = by (moves bodies a) (moves bodies b) (has_movers bodies a b v h).movers
  where
    by : (x y : Bool) → movers_if x y a b ≡ Some v → (a ≡ slot) ⊎ (b ≡ slot)
    by true true k = inl (ap (λ (u : Movers). u.first) (same_Some (record { first = a; second = Some b }) v k) ∙ e)
    by true false k = inl (ap (λ (u : Movers). u.first) (same_Some (record { first = a; second = None }) v k) ∙ e)
    by false true k = inr (ap (λ (u : Movers). u.first) (same_Some (record { first = b; second = None }) v k) ∙ e)
    by false false k = absurd (none-some v k)

-- the joints of which the mover in a slot is the first, where the slots of all joints at the body are listed, each once
pub first_joints : (bodies : List (Option Body)) (s : JointSlots) (slot : ℕ) (slots : List ℕ) → AreJointSlots s → IsOnceEach slots → ((k : ℕ) → is_end_in slot (joint_at s.joints k) ≡ true → Contains slots k)
    → IsPermutation (first_ties slot (all_joint_ties bodies s)) (filter_map (λ k. if_first slot (joint_tie_in bodies s k)) slots)
first_joints bodies s slot slots are once ends = passing_told (joint_tie_in bodies s) (all_joint_ties bodies s) (is_first slot) slots (joints_all bodies s are) once (λ k m e q.
    let t = joint_tie bodies s k m e in
    let own : movers_with bodies t.joint.a t.joint.b ≡ Some m.movers = (tie_is bodies (joint_bond (record { slot = k; generation = t.place.generation }) t.joint) m t.tie).movers in
    let is : is_joint_of slot t.joint ≡ true = end_is t.joint (first_of_two bodies t.joint.a t.joint.b slot m.movers own (eqb-true m.movers.first slot q)) in
    in_from_contains slots k (ends k (ap (is_end_in slot) t.at_joint ∙ is)))
  where
    or_true : (t : Bool) → (t || true) ≡ true
    or_true true = refl
    or_true false = refl

    end_is : (j : BodyJoint) → (j.a ≡ slot) ⊎ (j.b ≡ slot) → is_joint_of slot j ≡ true
    end_is j h = elim h [ inl e ↦ ap (λ (t : Bool). t || (j.b == slot)) (eq-eqb j.a slot e) | inr e ↦ ap (λ (t : Bool). (j.a == slot) || t) (eq-eqb j.b slot e) ∙ or_true (j.a == slot) ]

-- the same by the ends that stand at the body
pub first_joints_at : (bodies : List (Option Body)) (s : JointSlots) (slot : ℕ) (ends : List ℕ) → AreJointSlots s → AreOnce (halves ends) → ((k : ℕ) → is_end_in slot (joint_at s.joints k) ≡ true → Contains (halves ends) k)
    → IsPermutation (first_ties slot (all_joint_ties bodies s)) (filter_map (λ id. if_first slot (joint_tie_in bodies s (id / 2))) ends)
first_joints_at bodies s slot ends are once all =
    subst (λ (l : List (Member Constraint)). IsPermutation (first_ties slot (all_joint_ties bodies s)) l) (sym (of_mapped (λ k. if_first slot (joint_tie_in bodies s k)) (λ id. id / 2) ends))
    (first_joints bodies s slot (halves ends) are (once_each (halves ends) once) all)

-- a contact with a number is of two bodies
pub two_of : (contacts : List ContactEntry) (numbered : List (Option NumberedContact)) → AreNumbered contacts numbered → AreOfTwo contacts → (number : ℕ) (c : NumberedContact) → contact_at numbered number ≡ Some c → c.key.first.slot ≢ c.key.second.slot
two_of contacts numbered are apart number c at =
    let e = in_mapped numbered_of contacts c (in_from_contains (map numbered_of contacts) c (are.only number c at)) in
    λ same. apart e.of (contains_from_in contacts e.of e.there) (ap (λ (k : ContactKey). k.first.slot) (sym (ap (λ (v : NumberedContact). v.key) e.is)) ∙ same ∙ ap (λ (k : ContactKey). k.second.slot) (ap (λ (v : NumberedContact). v.key) e.is))

-- the numbers of the contacts that have a body on one side, and those that have it on the other: each once in both
pub sides_once : (numbered : List (Option NumberedContact)) (slot : ℕ) (firsts seconds : List ℕ) → ((number : ℕ) (c : NumberedContact) → contact_at numbered number ≡ Some c → c.key.first.slot ≢ c.key.second.slot) → AreOnce firsts → AreOnce seconds → AreEndsAt First numbered slot firsts → AreEndsAt Second numbered slot seconds → IsOnceEach (firsts ++ seconds)
sides_once numbered slot firsts seconds two once also on_first on_second = once_both firsts seconds (once_each firsts once) (once_each seconds also) (λ n h k. both n (contact_at numbered n) refl ((on_first n).0 (contains_from_in firsts n h)) ((on_second n).0 (contains_from_in seconds n k)))
  where
    both : (n : ℕ) (o : Option NumberedContact) → contact_at numbered n ≡ o → option_map (slot_on First) (key_of o) ≡ Some slot → option_map (slot_on Second) (key_of o) ≡ Some slot → ⊥
    both n None e h k = none-some slot h
    both n (Some c) e h k = two n c e (same_Some c.key.first.slot slot h ∙ sym (same_Some c.key.second.slot slot k))

-- a contact of the body is in one of its two threads
pub on_side : (numbered : List (Option NumberedContact)) (slot number : ℕ) (firsts seconds : List ℕ) (c : NumberedContact) → AreEndsAt First numbered slot firsts → AreEndsAt Second numbered slot seconds → contact_at numbered number ≡ Some c → (c.key.first.slot ≡ slot) ⊎ (c.key.second.slot ≡ slot) → IsIn number (firsts ++ seconds)
on_side numbered slot number firsts seconds c on_first on_second at h = elim h [
  | inl e ↦ in_left number firsts seconds (in_from_contains firsts number ((on_first number).1 (ap (λ (o : Option NumberedContact). option_map (slot_on First) (key_of o)) at ∙ ap Some e)))
  | inr e ↦ in_right number firsts seconds (in_from_contains seconds number ((on_second number).1 (ap (λ (o : Option NumberedContact). option_map (slot_on Second) (key_of o)) at ∙ ap Some e)))
]

pub first_contacts : (bodies : List (Option Body)) (contacts : List ContactEntry) (numbered : List (Option NumberedContact)) (slot : ℕ) (firsts seconds : List ℕ) → AreKeysRising contacts → AreNumbered contacts numbered → AreOfTwo contacts → AreOnce firsts → AreOnce seconds → AreEndsAt First numbered slot firsts → AreEndsAt Second numbered slot seconds
    → IsPermutation (first_ties slot (all_contact_ties bodies contacts)) (filter_map (λ n. if_first slot (contact_tie_in bodies numbered n)) firsts ++ filter_map (λ n. if_first slot (contact_tie_in bodies numbered n)) seconds)
first_contacts bodies contacts numbered slot firsts seconds rising are two once also on_first on_second =
    subst (λ (l : List (Member Constraint)). IsPermutation (first_ties slot (all_contact_ties bodies contacts)) l) (filter_map-append (λ n. if_first slot (contact_tie_in bodies numbered n)) firsts seconds)
    (passing_told (contact_tie_in bodies numbered) (all_contact_ties bodies contacts) (is_first slot) (firsts ++ seconds) (contacts_all bodies contacts numbered rising are) (sides_once numbered slot firsts seconds (two_of contacts numbered are two) once also on_first on_second) (λ n m e q.
    let t = contact_tie bodies numbered n m e in
    let own : movers_with bodies t.contact.key.first.slot t.contact.key.second.slot ≡ Some m.movers = (tie_is bodies (contact_bond t.contact.key) m t.tie).movers in
    on_side numbered slot n firsts seconds t.contact on_first on_second t.at (first_of_two bodies t.contact.key.first.slot t.contact.key.second.slot slot m.movers own (eqb-true m.movers.first slot q))))
