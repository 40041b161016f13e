-- Bodies that come, go, are disabled and enabled: the ties there are then, and who is a mover of them.
use Rattle.std.proofs.Common.{◌≡◌, ◌≢◌, ◌⊎◌, ℕ, zero, suc, ◌+◌, ◌<◌, ◌≤◌, ◌==◌, ◌||◌, Bool, true, false, not, List, [], ◌∷◌, ◌++◌, length, map, filter, Option, Some, None, is_some, nat_lt, ltb-false, All, slice_get, slice_set, refl, sym, ap, ◌∙◌, subst, arith, inl, inr}
use Rattle.std.proofs.lemmas.Bool.{cases_eq, false≢true}
use Rattle.std.proofs.lemmas.List.{length-set}
use Rattle.std.proofs.lemmas.List.Elements.{All-contains}
use Rattle.std.proofs.lemmas.Option.{none-some, same_Some}
use Rattle.std.specs.Option.{option_flatten}
use Rattle.body_handles.specs.declared.handle.Handle.{Handle}
use Rattle.body_handles.specs.SlotEntries.{IsLive, slot_entries_without}
use Rattle.graph_colours.specs.declared.member.Member.{Member}
use Rattle.graph_colours.specs.declared.member.Movers.{Movers}
use Rattle.graph_colours.specs.Movers.{has_mover}
use Rattle.graph_colours.proofs.Cases.{by_test, true_or_false, not_true}
use Rattle.graph_colours.proofs.PlaceLemmas.{is_same, not_same, same_from}
use Rattle.contacts_base.specs.declared.contact.ContactEntry.{ContactEntry}
use Rattle.contacts_base.specs.Contacts.{AreKeysRising, contacts_without, has_slot}
use Rattle.contacts_base.proofs.ContactsLemmas.{keys_rise-filter}
use Rattle.plain_world.specs.Constraints.{constraint_number}
use Rattle.plain_world.specs.declared.constraint.Constraint.{Constraint}
use Rattle.contacts_base.proofs.Members.{IsIn, in_left, in_right, in_from_contains, contains_from_in}
use Rattle.sleep_wake.specs.ChangeLists.{each_inserted, each_without}
use Rattle.plain_world.specs.declared.body.Body.{Body}
use Rattle.plain_world.specs.declared.joint.BodyJoint.{BodyJoint}
use Rattle.plain_world.specs.Joints.{AreJoints, is_end_in, is_joint_of, joint_at}
use Rattle.plain_world.specs.Slots.{body_at, with_body}
use Rattle.solver_sets.specs.Beside.{joined_by, joined_to, mover_beside, touched_by, touched_with}
use Rattle.solver_sets.specs.Joining.{handle_at, unjoined, unjoined_all, unjoined_up}
use Rattle.solver_sets.specs.Laws as laws
use Rattle.solver_sets.specs.Alike.{AreAlikeBeside, AreJointSlots, IsBetweenEnabled}
use Rattle.plain_world.specs.Bodies.{moves}
use Rattle.solver_sets.specs.Ties.{Bond, JointSlots, bonds_of, contact_bond, is_bond_of, is_enabled, is_enabled_in, joint_bonds, joint_ties_at, movers_if, slots_of, tie_of, ties_at, ties_in, ties_of, touching_keys}
use Rattle.solver_sets.proofs.BondLaws.{IsContactBond, IsJointBond, bond_number, bonds_in, bonds_rise, in_bonds, in_joints, joints_in, joints_rise}
use Rattle.solver_sets.proofs.JoinLaws.{handle_live, live_at, slots_unjoined}
use Rattle.solver_sets.proofs.ListLaws.{Rises, filter_in, in_filter, in_map, map_in, map_same, only_one, pairs_from_rises, rises_filter, same_members}
use Rattle.solver_sets.proofs.MemberLaws.{each_is, each_left, is_each, left_each, no_id, rising_each, rising_left}
use Rattle.solver_sets.proofs.SlotLemmas.{below_length, item_at-set_none, item_at-set_other, slice_get-set_other, slice_get-with}
use Rattle.solver_sets.proofs.TieLaws.{has_movers, in_ties, same_bonds, same_movers, same_tie, tie_is, tie_number, ties_in_of, ties_rise, ties_rise_in}

-- ---- bonds of a slot

either : (x y : Bool) → (x || y) ≡ true → (x ≡ true) ⊎ (y ≡ true)
either true y e = inl refl
either false y e = inr e

neither : (x y : Bool) → (x || y) ≡ false → (x ≡ false) × (y ≡ false)
neither true y e = absurd (false≢true (sym e))
neither false y e = (refl, e)

-- a test and what it says
of_slot_by : (t : Bool) → (t ≡ true) ⊎ (t ≡ false)
of_slot_by true = inl refl
of_slot_by false = inr refl

flipped : (a b : ℕ) → (a == b) ≡ false → (b == a) ≡ false
flipped a b h = not_same b a (λ e. true_or_false (a == b) (is_same a b (sym e)) h)

-- a bond of other slots has the tie that it had
pub alike_tie : (slot : ℕ) (old new : List (Option Body)) (b : Bond) → AreAlikeBeside slot old new → is_bond_of slot b ≡ false → tie_of new b ≡ tie_of old b
alike_tie slot old new b h e =
    let o = neither (b.a == slot) (b.b == slot) e in
    let p : (slot == b.a) ≡ false = flipped b.a slot o.0 in
    let q : (slot == b.b) ≡ false = flipped b.b slot o.1 in
    same_tie old new b (same_movers old new b.a b.b (h.enabled b.a p) (h.enabled b.b q) (h.movers b.a p) (h.movers b.b q))

-- a bond of a slot whose body isn't enabled has no tie
pub no_tie : (slot : ℕ) (bodies : List (Option Body)) (b : Bond) (m : Member Constraint) → is_enabled bodies slot ≡ false → is_bond_of slot b ≡ true → tie_of bodies b ≡ Some m → ⊥
no_tie slot bodies b m off e t =
    let has = has_movers bodies b.a b.b m.movers (tie_is bodies b m t).movers in
    elim (either (b.a == slot) (b.b == slot) e) [
      | inl p ↦ true_or_false (is_enabled bodies slot) (sym (ap (is_enabled bodies) (same_from b.a slot p)) ∙ has.enabled_a) off
      | inr q ↦ true_or_false (is_enabled bodies slot) (sym (ap (is_enabled bodies) (same_from b.b slot q)) ∙ has.enabled_b) off
    ]

-- ---- the ties of a slot

-- it comes of a bond of the slot
pub record IsTieAt (slot : ℕ) (bodies : List (Option Body)) (s : JointSlots) (contacts : List ContactEntry) (m : Member Constraint) : Type 0 where
  pub of : Bond
  pub there : IsIn of (bonds_of s contacts)
  pub here : is_bond_of slot of ≡ true
  pub gives : tie_of bodies of ≡ Some m

pub in_ties_at : (slot : ℕ) (bodies : List (Option Body)) (s : JointSlots) (contacts : List ContactEntry) (m : Member Constraint) → IsIn m (ties_at slot bodies s contacts) → IsTieAt slot bodies s contacts m
unfolding ties_at
in_ties_at slot bodies s contacts m h =
    let o = in_map (tie_of bodies) (filter (is_bond_of slot) (bonds_of s contacts)) m h in
    let p = in_filter (is_bond_of slot) (bonds_of s contacts) o.of o.there in
    record { of = o.of; there = p.0; here = p.1; gives = o.gives }

pub ties_at_in : (slot : ℕ) (bodies : List (Option Body)) (s : JointSlots) (contacts : List ContactEntry) (m : Member Constraint) → IsTieAt slot bodies s contacts m → IsIn m (ties_at slot bodies s contacts)
unfolding ties_at
ties_at_in slot bodies s contacts m h = map_in (tie_of bodies) (filter (is_bond_of slot) (bonds_of s contacts)) h.of m (filter_in (is_bond_of slot) (bonds_of s contacts) h.of h.there h.here) h.gives

pub ties_at_are : laws.TiesAtAreTies
unfolding ties_at
ties_at_are slot bodies s contacts are rising = record {
  rising = pairs_from_rises tie_number (ties_at slot bodies s contacts) (ties_rise_in bodies (filter (is_bond_of slot) (bonds_of s contacts)) (rises_filter bond_number (is_bond_of slot) (bonds_of s contacts) (bonds_rise s contacts are rising)));
  there = λ m h. let o = in_ties_at slot bodies s contacts m (in_from_contains (ties_at slot bodies s contacts) m h) in contains_from_in (ties_of bodies s contacts) m (ties_in_of bodies s contacts o.of m o.there o.gives);
}

pub none_of_disabled : laws.NoTiesOfDisabled
none_of_disabled slot bodies s contacts off = empty (ties_at slot bodies s contacts) (λ m h. let o = in_ties_at slot bodies s contacts m h in no_tie slot bodies o.of m off o.here o.gives)
  where
    empty : (ms : List (Member Constraint)) → ((m : Member Constraint) → IsIn m ms → ⊥) → ms ≡ []
    empty [] none = refl
    empty (m ∷ ms) none = absurd (none m (inl refl))

-- ---- a body that is no part of bonds any more

-- the bonds of other slots are there as before, and those of the slot have no ties
record AreLeft (slot : ℕ) (old new : List (Option Body)) (before after : List Bond) : Type 0 where
  rising : Rises bond_number after
  alike : AreAlikeBeside slot old new
  there : (b : Bond) → IsIn b after → IsIn b before
  kept : (b : Bond) → IsIn b before → is_bond_of slot b ≡ false → IsIn b after
  none : (b : Bond) (m : Member Constraint) → IsIn b after → is_bond_of slot b ≡ true → tie_of new b ≡ Some m → ⊥

left_tie : (slot : ℕ) (old new : List (Option Body)) (s : JointSlots) (contacts : List ContactEntry) (after : List Bond) (m : Member Constraint) → AreJointSlots s → AreKeysRising contacts → AreLeft slot old new (bonds_of s contacts) after
    → IsIn m (ties_in new after) → IsIn m (ties_of old s contacts) × ((x : Member Constraint) → IsIn x (ties_at slot old s contacts) → constraint_number m.id ≢ constraint_number x.id)
left_tie slot old new s contacts after m are rising left h =
    let o = in_map (tie_of new) after m h in
    elim (of_slot_by (is_bond_of slot o.of)) [
      | inl e ↦ absurd (left.none o.of m o.there e o.gives)
      | inr e ↦
          let gives : tie_of old o.of ≡ Some m = sym (alike_tie slot old new o.of left.alike e) ∙ o.gives in
          let there : IsIn o.of (bonds_of s contacts) = left.there o.of o.there in (
            ties_in_of old s contacts o.of m there gives,
            (λ x k q. let p = in_ties_at slot old s contacts x k in
                let a = (tie_is old o.of m gives).named in
                let b = (tie_is old p.of x p.gives).named in
                let same : o.of ≡ p.of = only_one bond_number (bonds_of s contacts) o.of p.of (bonds_rise s contacts are rising) there p.there (sym (ap constraint_number a) ∙ q ∙ ap constraint_number b) in
                true_or_false (is_bond_of slot o.of) (ap (is_bond_of slot) same ∙ p.here) e),
          )
    ]

tie_left : (slot : ℕ) (old new : List (Option Body)) (s : JointSlots) (contacts : List ContactEntry) (after : List Bond) (m : Member Constraint) → AreLeft slot old new (bonds_of s contacts) after
    → IsIn m (ties_of old s contacts) → ((x : Member Constraint) → IsIn x (ties_at slot old s contacts) → constraint_number m.id ≢ constraint_number x.id) → IsIn m (ties_in new after)
tie_left slot old new s contacts after m left h far =
    let o = in_ties old s contacts m h in
    elim (of_slot_by (is_bond_of slot o.of)) [
      | inl e ↦ absurd (far m (ties_at_in slot old s contacts m (record { of = o.of; there = o.there; here = e; gives = o.gives })) refl)
      | inr e ↦ map_in (tie_of new) after o.of m (left.kept o.of o.there e) (alike_tie slot old new o.of left.alike e ∙ o.gives)
    ]

ties_left : (slot : ℕ) (old new : List (Option Body)) (s : JointSlots) (contacts : List ContactEntry) (after : List Bond) → AreJointSlots s → AreKeysRising contacts → AreLeft slot old new (bonds_of s contacts) after
    → ties_in new after ≡ each_without constraint_number (ties_at slot old s contacts) (ties_of old s contacts)
ties_left slot old new s contacts after are rising left =
    let ms : List (Member Constraint) = ties_at slot old s contacts in
    let ties : List (Member Constraint) = ties_of old s contacts in
    same_members constraint_number (ties_in new after) (each_without constraint_number ms ties)
    (pairs_from_rises tie_number (ties_in new after) (ties_rise_in new after left.rising))
    (rising_left constraint_number ms ties (ties_rise old s contacts are rising))
    (λ m h. let o = left_tie slot old new s contacts after m are rising left h in left_each constraint_number ms ties m o.0 o.1)
    (λ m h. let o = each_left constraint_number ms ties m h in tie_left slot old new s contacts after m left o.0 o.1)

-- ---- contacts that go

left_contact : (slot : ℕ) (contacts : List ContactEntry) (b : Bond) → IsContactBond (contacts_without slot contacts) b → IsContactBond contacts b × (is_bond_of slot b ≡ false)
left_contact slot contacts b h =
    let o = in_filter (λ (e : ContactEntry). not (has_slot slot e)) contacts h.entry h.there in
    (record { entry = h.entry; there = o.0; touching = h.touching; is = h.is }, ap (is_bond_of slot) h.is ∙ not_true (has_slot slot h.entry) o.1)

contact_left : (slot : ℕ) (contacts : List ContactEntry) (b : Bond) → IsContactBond contacts b → is_bond_of slot b ≡ false → IsContactBond (contacts_without slot contacts) b
contact_left slot contacts b h e =
    record { entry = h.entry; there = filter_in (λ (e : ContactEntry). not (has_slot slot e)) contacts h.entry h.there (ap not (sym (ap (is_bond_of slot) h.is) ∙ e)); touching = h.touching; is = h.is }

rising_without_slot : (slot : ℕ) (contacts : List ContactEntry) → AreKeysRising contacts → AreKeysRising (contacts_without slot contacts)
rising_without_slot slot contacts r = keys_rise-filter (λ (e : ContactEntry). not (has_slot slot e)) contacts r

-- ---- a body that is disabled

pub disabling : laws.DisablingTakesTies
unfolding ties_of
disabling slot old new s joints contacts are rising alike off ends =
    let left : List ContactEntry = contacts_without slot contacts in
    let after : List Bond = bonds_of s left in
    let same : joint_bonds (slots_of s.slot_entries joints) ≡ joint_bonds s = same_bonds s (slots_of s.slot_entries joints) refl ends in
    ap (λ (bonds : List Bond). ties_in new (bonds ++ map contact_bond (touching_keys left))) same
    ∙ ties_left slot old new s contacts after are rising (record {
      rising = bonds_rise s left are (rising_without_slot slot contacts rising);
      alike = alike;
      there = λ b h. elim (in_bonds s left b h) [ inl p ↦ bonds_in s contacts b (inl p) | inr q ↦ bonds_in s contacts b (inr (left_contact slot contacts b q).0) ];
      kept = λ b h e. elim (in_bonds s contacts b h) [ inl p ↦ bonds_in s left b (inl p) | inr q ↦ bonds_in s left b (inr (contact_left slot contacts b q e)) ];
      none = λ b m h e t. no_tie slot new b m off e t;
    })

-- ---- a body that goes

-- what the joints' slots hold once those of the body below n are gone
record AreGone (body n : ℕ) (old new : JointSlots) : Type 0 where
  slots : AreJointSlots new
  long : length new.joints ≡ length old.joints
  gone : (k : ℕ) (j : BodyJoint) → k < n → joint_at new.joints k ≡ Some j → is_joint_of body j ≡ false
  from : (k : ℕ) (j : BodyJoint) → joint_at new.joints k ≡ Some j → (joint_at old.joints k ≡ Some j) × (slice_get new.slot_entries k ≡ slice_get old.slot_entries k)
  kept : (k : ℕ) (j : BodyJoint) → joint_at old.joints k ≡ Some j → is_joint_of body j ≡ false → (joint_at new.joints k ≡ Some j) × (slice_get new.slot_entries k ≡ slice_get old.slot_entries k)

gone_step : (body n : ℕ) (old s : JointSlots) → AreGone body n old s → is_end_in body (joint_at s.joints n) ≡ true → AreGone body (suc n) old (unjoined (handle_at s.slot_entries n) s)
gone_step body n old s g end =
    let h : Handle = handle_at s.slot_entries n in
    let live : IsLive s.slot_entries h = live_at (slice_get s.slot_entries n) h.generation (handle_live s.slot_entries s.joints body n g.slots.matched end) in
    let other_joint : (k : ℕ) → k ≢ n → joint_at (slice_set s.joints n None) k ≡ joint_at s.joints k = λ k far. item_at-set_other s.joints n None k far in
    let other_place : (k : ℕ) → k ≢ n → slice_get (slot_entries_without s.slot_entries h) k ≡ slice_get s.slot_entries k = λ k far. slice_get-set_other s.slot_entries n k (record { generation = h.generation + 1; live = false }) far in
    let here : (k : ℕ) (j : BodyJoint) → joint_at (slice_set s.joints n None) k ≡ Some j → k ≢ n = λ k j at same. none-some j (sym (item_at-set_none s.joints n) ∙ sym (ap (joint_at (slice_set s.joints n None)) same) ∙ at) in
    record {
      slots = slots_unjoined s h live g.slots;
      long = length-set s.joints n None ∙ g.long;
      gone = λ k j lt at. let far = here k j at in g.gone k j (omega (arith, lt, far)) (sym (other_joint k far) ∙ at);
      from = λ k j at. let far = here k j at in let o = g.from k j (sym (other_joint k far) ∙ at) in (o.0, other_place k far ∙ o.1);
      kept = λ k j at e. let o = g.kept k j at e in
          let far : k ≢ n = λ same. true_or_false (is_end_in body (joint_at s.joints n)) end (ap (is_end_in body) (sym (ap (joint_at s.joints) same) ∙ o.0) ∙ e) in
          (other_joint k far ∙ o.0, other_place k far ∙ o.1);
    }

gone_passed : (body n : ℕ) (old s : JointSlots) → AreGone body n old s → is_end_in body (joint_at s.joints n) ≡ false → AreGone body (suc n) old s
gone_passed body n old s g end = record {
  slots = g.slots;
  long = g.long;
  gone = λ k j lt at. elim (cases_eq k n) [
    | inl same ↦ sym (ap (is_end_in body) (sym (ap (joint_at s.joints) same) ∙ at)) ∙ end
    | inr far ↦ g.gone k j (omega (arith, lt, far)) at
  ];
  from = g.from;
  kept = g.kept;
}

gone_up : (body n : ℕ) (s : JointSlots) → AreJointSlots s → AreGone body n s (unjoined_up body n s)
gone_up body zero s are = record { slots = are; long = refl; gone = λ k j lt at. absurd (omega (arith, lt)); from = λ k j at. (at, refl); kept = λ k j at e. (at, refl) }
gone_up body (suc n) s are =
    let before : JointSlots = unjoined_up body n s in
    let g : AreGone body n s before = gone_up body n s are in
    by_test (λ (r : JointSlots). AreGone body (suc n) s r) (is_end_in body (joint_at before.joints n)) (unjoined (handle_at before.slot_entries n) before) before
    (λ q. gone_step body n s before g q) (λ q. gone_passed body n s before g q)

gone_all : (body : ℕ) (s : JointSlots) → AreJointSlots s → AreGone body (length s.joints) s (unjoined_all body s)
gone_all body s are = gone_up body (length s.joints) s are

left_joint : (body : ℕ) (s new : JointSlots) (b : Bond) → AreGone body (length s.joints) s new → IsJointBond new b → IsJointBond s b × (is_bond_of body b ≡ false)
left_joint body s new b g h =
    let o = g.from h.slot h.joint h.at_joint in
    let lt : h.slot < length s.joints = below_length s.joints h.slot h.joint o.0 in
    (record { slot = h.slot; place = h.place; joint = h.joint; at_place = sym o.1 ∙ h.at_place; at_joint = o.0; is = h.is }, ap (is_bond_of body) h.is ∙ g.gone h.slot h.joint lt h.at_joint)

joint_left : (body : ℕ) (s new : JointSlots) (b : Bond) → AreGone body (length s.joints) s new → IsJointBond s b → is_bond_of body b ≡ false → IsJointBond new b
joint_left body s new b g h e =
    let o = g.kept h.slot h.joint h.at_joint (sym (ap (is_bond_of body) h.is) ∙ e) in
    record { slot = h.slot; place = h.place; joint = h.joint; at_place = o.1 ∙ h.at_place; at_joint = o.0; is = h.is }

-- the bodies in other slots stay
alike_set : (slot : ℕ) (bodies : List (Option Body)) (o : Option Body) → AreAlikeBeside slot bodies (slice_set bodies slot o)
alike_set slot bodies o =
    let same : (other : ℕ) → (slot == other) ≡ false → body_at (slice_set bodies slot o) other ≡ body_at bodies other = λ other far. item_at-set_other bodies slot o other (λ e. true_or_false (slot == other) (is_same slot other (sym e)) far) in
    record { enabled = λ other far. rw (same other far) refl; movers = λ other far. rw (same other far) refl }

pub going : laws.GoingTakesTies
unfolding ties_of
going slot bodies s contacts are rising =
    let new : JointSlots = unjoined_all slot s in
    let g : AreGone slot (length s.joints) s new = gone_all slot s are in
    let left : List ContactEntry = contacts_without slot contacts in
    let after : List Bond = bonds_of new left in
    let part : (b : Bond) → IsIn b after → IsIn b (bonds_of s contacts) × (is_bond_of slot b ≡ false) = λ b h. elim (in_bonds new left b h) [
      | inl p ↦ let o = left_joint slot s new b g p in (bonds_in s contacts b (inl o.0), o.1)
      | inr q ↦ let o = left_contact slot contacts b q in (bonds_in s contacts b (inr o.0), o.1)
    ] in (
      g.slots,
      ties_left slot bodies (slice_set bodies slot None) s contacts after are rising (record {
        rising = bonds_rise new left g.slots (rising_without_slot slot contacts rising);
        alike = alike_set slot bodies None;
        there = λ b h. (part b h).0;
        kept = λ b h e. elim (in_bonds s contacts b h) [ inl p ↦ bonds_in new left b (inl (joint_left slot s new b g p e)) | inr q ↦ bonds_in new left b (inr (contact_left slot contacts b q e)) ];
        none = λ b m h e t. true_or_false (is_bond_of slot b) e (part b h).1;
      }),
    )

-- ---- a body that comes

-- no bond is of the slot
record HasNoBond (slot : ℕ) (bonds : List Bond) : Type 0 where
  none : (b : Bond) → IsIn b bonds → is_bond_of slot b ≡ false

there_not : (bodies : List (Option Body)) (slot a : ℕ) → body_at bodies slot ≡ None → is_some (body_at bodies a) ≡ true → (a == slot) ≡ false
there_not bodies slot a none some = not_same a slot (λ e. true_or_false (is_some (body_at bodies a)) some (ap (λ (k : ℕ). is_some (body_at bodies k)) e ∙ ap is_some none))

enabled_there : (o : Option Body) → is_enabled_in o ≡ true → is_some o ≡ true
enabled_there None e = absurd (false≢true e)
enabled_there (Some b) e = refl

both_not : (x y : Bool) → x ≡ false → y ≡ false → (x || y) ≡ false
both_not x y p q = rw (p, q) refl

no_bond_of : (bodies : List (Option Body)) (s : JointSlots) (contacts : List ContactEntry) (slot : ℕ) → body_at bodies slot ≡ None → AreJoints bodies s.joints → All (IsBetweenEnabled bodies) contacts → HasNoBond slot (bonds_of s contacts)
no_bond_of bodies s contacts slot none joints between = record {
  none = λ b h. elim (in_bonds s contacts b h) [
    | inl p ↦ let is = joints p.slot p.joint p.at_joint in
        ap (is_bond_of slot) p.is ∙ both_not (p.joint.a == slot) (p.joint.b == slot) (there_not bodies slot p.joint.a none is.first) (there_not bodies slot p.joint.b none is.second)
    | inr q ↦ let is = All-contains (IsBetweenEnabled bodies) contacts q.entry between (contains_from_in contacts q.entry q.there) in
        ap (is_bond_of slot) q.is ∙ both_not (q.entry.key.first.slot == slot) (q.entry.key.second.slot == slot)
        (there_not bodies slot q.entry.key.first.slot none (enabled_there (body_at bodies q.entry.key.first.slot) is.first))
        (there_not bodies slot q.entry.key.second.slot none (enabled_there (body_at bodies q.entry.key.second.slot) is.second))
  ];
}

alike_with : (slot : ℕ) (bodies : List (Option Body)) (b : Body) → slot ≤ length bodies → AreAlikeBeside slot bodies (with_body bodies slot b)
alike_with slot bodies b le =
    let at : nat_lt slot (length bodies) ≡ false → slot ≡ length bodies = λ q. let past = ltb-false slot (length bodies) q in omega (arith, le, past) in
    let same : (other : ℕ) → (slot == other) ≡ false → body_at (with_body bodies slot b) other ≡ body_at bodies other = λ other far.
    ap option_flatten (slice_get-with (nat_lt slot (length bodies)) bodies slot other (Some b) at (λ e. true_or_false (slot == other) (is_same slot other (sym e)) far)) in
    record { enabled = λ other far. rw (same other far) refl; movers = λ other far. rw (same other far) refl }

pub coming : laws.ComingKeepsTies
unfolding ties_of
coming bodies s contacts slot b none le joints between =
    let no = no_bond_of bodies s contacts slot none joints between in
    map_same (tie_of (with_body bodies slot b)) (tie_of bodies) (bonds_of s contacts) (λ c h. alike_tie slot bodies (with_body bodies slot b) c (alike_with slot bodies b le) (no.none c h))

-- ---- a body that is enabled

pub record IsJointTieAt (slot : ℕ) (bodies : List (Option Body)) (s : JointSlots) (m : Member Constraint) : Type 0 where
  pub of : Bond
  pub there : IsIn of (joint_bonds s)
  pub here : is_bond_of slot of ≡ true
  pub gives : tie_of bodies of ≡ Some m

pub in_joint_ties_at : (slot : ℕ) (bodies : List (Option Body)) (s : JointSlots) (m : Member Constraint) → IsIn m (joint_ties_at slot bodies s) → IsJointTieAt slot bodies s m
unfolding joint_ties_at
in_joint_ties_at slot bodies s m h =
    let o = in_map (tie_of bodies) (filter (is_bond_of slot) (joint_bonds s)) m h in
    let p = in_filter (is_bond_of slot) (joint_bonds s) o.of o.there in
    record { of = o.of; there = p.0; here = p.1; gives = o.gives }

joint_ties_at_in : (slot : ℕ) (bodies : List (Option Body)) (s : JointSlots) (m : Member Constraint) → IsJointTieAt slot bodies s m → IsIn m (joint_ties_at slot bodies s)
unfolding joint_ties_at
joint_ties_at_in slot bodies s m h = map_in (tie_of bodies) (filter (is_bond_of slot) (joint_bonds s)) h.of m (filter_in (is_bond_of slot) (joint_bonds s) h.of h.there h.here) h.gives

joint_ties_rise : (slot : ℕ) (bodies : List (Option Body)) (s : JointSlots) → AreJointSlots s → Rises tie_number (joint_ties_at slot bodies s)
unfolding joint_ties_at
joint_ties_rise slot bodies s are = ties_rise_in bodies (filter (is_bond_of slot) (joint_bonds s)) (rises_filter bond_number (is_bond_of slot) (joint_bonds s) (joints_rise s are))

-- no contact is of the slot
contact_beside : (slot : ℕ) (bodies : List (Option Body)) (contacts : List ContactEntry) (b : Bond) → is_enabled bodies slot ≡ false → All (IsBetweenEnabled bodies) contacts → IsContactBond contacts b → is_bond_of slot b ≡ false
contact_beside slot bodies contacts b off between q =
    let is = All-contains (IsBetweenEnabled bodies) contacts q.entry between (contains_from_in contacts q.entry q.there) in
    let far : (a : ℕ) → is_enabled bodies a ≡ true → (a == slot) ≡ false = λ a on. not_same a slot (λ e. true_or_false (is_enabled bodies a) on (ap (is_enabled bodies) e ∙ off)) in
    ap (is_bond_of slot) q.is ∙ both_not (q.entry.key.first.slot == slot) (q.entry.key.second.slot == slot) (far q.entry.key.first.slot is.first) (far q.entry.key.second.slot is.second)

taken_tie : (slot : ℕ) (old new : List (Option Body)) (s : JointSlots) (contacts : List ContactEntry) (m : Member Constraint) → AreAlikeBeside slot old new → is_enabled old slot ≡ false → All (IsBetweenEnabled old) contacts → IsIn m (ties_of new s contacts) → IsIn m (joint_ties_at slot new s) ⊎ IsIn m (ties_of old s contacts)
taken_tie slot old new s contacts m alike off between h =
    let o = in_ties new s contacts m h in
    elim (of_slot_by (is_bond_of slot o.of)) [
      | inl e ↦ elim (in_bonds s contacts o.of o.there) [
        | inl p ↦ inl (joint_ties_at_in slot new s m (record { of = o.of; there = joints_in s o.of p; here = e; gives = o.gives }))
        | inr q ↦ absurd (true_or_false (is_bond_of slot o.of) e (contact_beside slot old contacts o.of off between q))
      ]
      | inr e ↦ inr (ties_in_of old s contacts o.of m o.there (sym (alike_tie slot old new o.of alike e) ∙ o.gives))
    ]

tie_taken : (slot : ℕ) (old new : List (Option Body)) (s : JointSlots) (contacts : List ContactEntry) (m : Member Constraint) → AreAlikeBeside slot old new → is_enabled old slot ≡ false → IsIn m (joint_ties_at slot new s) ⊎ IsIn m (ties_of old s contacts) → IsIn m (ties_of new s contacts)
tie_taken slot old new s contacts m alike off h = elim h [
  | inl p ↦ let o = in_joint_ties_at slot new s m p in ties_in_of new s contacts o.of m (bonds_in s contacts o.of (inl (in_joints s o.of o.there))) o.gives
  | inr q ↦
      let o = in_ties old s contacts m q in
      elim (of_slot_by (is_bond_of slot o.of)) [
        | inl e ↦ absurd (no_tie slot old o.of m off e o.gives)
        | inr e ↦ ties_in_of new s contacts o.of m o.there (alike_tie slot old new o.of alike e ∙ o.gives)
      ]
]

-- the ties of the slot's joints are no ties before
taken_far : (slot : ℕ) (old new : List (Option Body)) (s : JointSlots) (contacts : List ContactEntry) (m x : Member Constraint) → AreJointSlots s → AreKeysRising contacts → is_enabled old slot ≡ false → IsIn m (joint_ties_at slot new s) → IsIn x (ties_of old s contacts) → constraint_number x.id ≢ constraint_number m.id
taken_far slot old new s contacts m x are rising off h k q =
    let o = in_joint_ties_at slot new s m h in
    let p = in_ties old s contacts x k in
    let a = (tie_is new o.of m o.gives).named in
    let b = (tie_is old p.of x p.gives).named in
    let same : p.of ≡ o.of = only_one bond_number (bonds_of s contacts) p.of o.of (bonds_rise s contacts are rising) p.there (bonds_in s contacts o.of (inl (in_joints s o.of o.there))) (sym (ap constraint_number b) ∙ q ∙ ap constraint_number a) in
    no_tie slot old p.of x off (ap (is_bond_of slot) same ∙ o.here) p.gives

pub enabling : laws.EnablingAddsTies
enabling slot old new s contacts are rising alike off between =
    let ms : List (Member Constraint) = joint_ties_at slot new s in
    let ties : List (Member Constraint) = ties_of old s contacts in
    let far : (m x : Member Constraint) → IsIn m ms → IsIn x ties → constraint_number x.id ≢ constraint_number m.id = λ m x h k. taken_far slot old new s contacts m x are rising off h k in
    record {
      rising = pairs_from_rises tie_number ms (joint_ties_rise slot new s are);
      fresh = λ m h. no_id constraint_number ties m.id (λ x k. far m x (in_from_contains ms m h) k);
      ties = same_members constraint_number (ties_of new s contacts) (each_inserted constraint_number ms ties) (ties_rise new s contacts are rising)
          (rising_each constraint_number ms ties (ties_rise old s contacts are rising) (joint_ties_rise slot new s are) far)
          (λ m h. is_each constraint_number ms ties m (taken_tie slot old new s contacts m alike off between h))
          (λ m h. tie_taken slot old new s contacts m alike off (each_is constraint_number ms ties m h));
    }

-- ---- who is a mover of a body's ties

-- of two bodies of which one is a mover: it is one of the movers
first_is : (y : Bool) (a b : ℕ) (m : Movers) → movers_if true y a b ≡ Some m → m.first ≡ a
first_is true a b m e = sym (ap (λ (v : Movers). v.first) (same_Some (record { first = a; second = Some b }) m e))
first_is false a b m e = sym (ap (λ (v : Movers). v.first) (same_Some (record { first = a; second = None }) m e))

has_first : (a slot : ℕ) (m : Movers) → m.first ≡ a → (a == slot) ≡ true → has_mover m slot ≡ true
has_first a slot m e q = let same : (m.first == slot) ≡ true = ap (λ (k : ℕ). k == slot) e ∙ q in rw same refl

has_either : (x : Bool) (a b slot : ℕ) (m : Movers) → movers_if x true a b ≡ Some m → (b == slot) ≡ true → has_mover m slot ≡ true
has_either true a b slot m e q = subst (λ (v : Movers). has_mover v slot ≡ true) (same_Some (record { first = a; second = Some b }) m e) (or_right_true (a == slot) (b == slot) q)
  where
    or_right_true : (x y : Bool) → y ≡ true → (x || y) ≡ true
    or_right_true true y h = refl
    or_right_true false y h = h
has_either false a b slot m e q = subst (λ (v : Movers). has_mover v slot ≡ true) (same_Some (record { first = b; second = None }) m e) (rw q refl)

pub of_a_mover : laws.TiesOfAMover
of_a_mover slot bodies s contacts m moving h =
    let o = in_ties_at slot bodies s contacts m (in_from_contains (ties_at slot bodies s contacts) m h) in
    let has = has_movers bodies o.of.a o.of.b m.movers (tie_is bodies o.of m o.gives).movers in
    elim (either (o.of.a == slot) (o.of.b == slot) o.here) [
      | inl p ↦
          let at : moves bodies o.of.a ≡ true = ap (moves bodies) (same_from o.of.a slot p) ∙ moving in
          has_first o.of.a slot m.movers (first_is (moves bodies o.of.b) o.of.a o.of.b m.movers (subst (λ (t : Bool). movers_if t (moves bodies o.of.b) o.of.a o.of.b ≡ Some m.movers) at has.movers)) p
      | inr q ↦
          let at : moves bodies o.of.b ≡ true = ap (moves bodies) (same_from o.of.b slot q) ∙ moving in
          has_either (moves bodies o.of.a) o.of.a o.of.b slot m.movers (subst (λ (t : Bool). movers_if (moves bodies o.of.a) t o.of.a o.of.b ≡ Some m.movers) at has.movers) q
    ]

-- of two bodies of which one is no mover, the other is the only one
record IsOnly (moving : Bool) (other : ℕ) (m : Movers) : Type 0 where
  moves : moving ≡ true
  second : m.second ≡ None
  first : m.first ≡ other

only_second : (y : Bool) (a b : ℕ) (m : Movers) → movers_if false y a b ≡ Some m → IsOnly y b m
only_second true a b m e = subst (IsOnly true b) (same_Some (record { first = b; second = None }) m e) (record { moves = refl; second = refl; first = refl })
only_second false a b m e = absurd (none-some m e)

only_first : (x : Bool) (a b : ℕ) (m : Movers) → movers_if x false a b ≡ Some m → IsOnly x a m
only_first true a b m e = subst (IsOnly true a) (same_Some (record { first = a; second = None }) m e) (record { moves = refl; second = refl; first = refl })
only_first false a b m e = absurd (none-some m e)

-- the mover beside the one in the slot
beside_first : (bodies : List (Option Body)) (slot a b : ℕ) → (a == slot) ≡ true → moves bodies b ≡ true → mover_beside bodies slot a b ≡ Some b
beside_first bodies slot a b e on = rw (e, on) refl

beside_second : (bodies : List (Option Body)) (slot a b : ℕ) → (a == slot) ≡ false → (b == slot) ≡ true → moves bodies a ≡ true → mover_beside bodies slot a b ≡ Some a
beside_second bodies slot a b f e on = rw (f, e, on) refl

-- what is beside the slot by a bond is a neighbour
neighbour : (bodies : List (Option Body)) (s : JointSlots) (contacts : List ContactEntry) (slot other : ℕ) (b : Bond) → IsIn b (bonds_of s contacts) → mover_beside bodies slot b.a b.b ≡ Some other → IsIn other (joined_to bodies s.joints slot ++ touched_by bodies contacts slot)
unfolding joined_to touched_by
neighbour bodies s contacts slot other b h e = elim (in_bonds s contacts b h) [
  | inl p ↦ in_left other (joined_to bodies s.joints slot) (touched_by bodies contacts slot)
      (map_in (joined_by bodies slot) s.joints (Some p.joint) other (at_joints s.joints p.slot p.joint p.at_joint) (sym (ap (λ (v : Bond). mover_beside bodies slot v.a v.b) p.is) ∙ e))
  | inr q ↦ in_right other (joined_to bodies s.joints slot) (touched_by bodies contacts slot)
      (map_in (touched_with bodies slot) contacts q.entry other q.there (rw q.touching (sym (ap (λ (v : Bond). mover_beside bodies slot v.a v.b) q.is) ∙ e)))
]
  where
    at_joints : (joints : List (Option BodyJoint)) (k : ℕ) (j : BodyJoint) → joint_at joints k ≡ Some j → IsIn (Some j) joints
    at_joints [] k j e = absurd (none-some j e)
    at_joints (o ∷ joints) zero j e = inl (sym e)
    at_joints (o ∷ joints) (suc k) j e = inr (at_joints joints k j e)

pub of_no_mover : laws.TiesOfNoMover
of_no_mover slot bodies s contacts m still h =
    let o = in_ties_at slot bodies s contacts m (in_from_contains (ties_at slot bodies s contacts) m h) in
    let has = has_movers bodies o.of.a o.of.b m.movers (tie_is bodies o.of m o.gives).movers in
    let beside : List ℕ = joined_to bodies s.joints slot ++ touched_by bodies contacts slot in
    elim (of_slot_by (o.of.a == slot)) [
      | inl p ↦
          let at : moves bodies o.of.a ≡ false = ap (moves bodies) (same_from o.of.a slot p) ∙ still in
          let only = only_second (moves bodies o.of.b) o.of.a o.of.b m.movers (subst (λ (t : Bool). movers_if t (moves bodies o.of.b) o.of.a o.of.b ≡ Some m.movers) at has.movers) in
          (only.second, contains_from_in beside m.movers.first (subst (λ (k : ℕ). IsIn k beside) (sym only.first) (neighbour bodies s contacts slot o.of.b o.of o.there (beside_first bodies slot o.of.a o.of.b p only.moves))))
      | inr f ↦
          let q : (o.of.b == slot) ≡ true = elim (either (o.of.a == slot) (o.of.b == slot) o.here) [ inl e ↦ absurd (true_or_false (o.of.a == slot) e f) | inr e ↦ e ] in
          let at : moves bodies o.of.b ≡ false = ap (moves bodies) (same_from o.of.b slot q) ∙ still in
          let only = only_first (moves bodies o.of.a) o.of.a o.of.b m.movers (subst (λ (t : Bool). movers_if (moves bodies o.of.a) t o.of.a o.of.b ≡ Some m.movers) at has.movers) in
          (only.second, contains_from_in beside m.movers.first (subst (λ (k : ℕ). IsIn k beside) (sym only.first) (neighbour bodies s contacts slot o.of.a o.of o.there (beside_second bodies slot o.of.a o.of.b f q only.moves))))
    ]
