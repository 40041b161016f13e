-- Joints that are made and that go: their slots, and the ties there are then.
use Rattle.std.proofs.Common.{◌≡◌, ◌≢◌, ◌⊎◌, ℕ, ◌+◌, ◌*◌, ◌^◌, ◌<◌, ◌≤◌, ◌==◌, ◌&&◌, Bool, true, false, cond, List, [], ◌∷◌, ◌++◌, length, Option, Some, None, is_some, nat_lt, ltb-true, ltb-false, slice_get, slice_set, refl, sym, ap, ap₂, ◌∙◌, subst, arith, inl, inr}
use Rattle.std.proofs.lemmas.Bool.{cases_eq}
use Rattle.std.proofs.lemmas.Option.{none-some, same_Some, slice_get_within}
use Rattle.std.specs.Option.{option_flatten}
use Rattle.body_handles.specs.declared.handle.Handle.{Handle}
use Rattle.body_handles.specs.declared.slot_table.SlotEntry.{SlotEntry}
use Rattle.body_handles.specs.declared.slot_table.TheConstants.{MAX_SLOTS}
use Rattle.body_handles.specs.SlotEntries.{generation_at, generation_of, is_live, is_live_at, lowest, slot_entries_without, IsLive, IsSlotEntry}
use Rattle.body_handles.proofs.LowestLemmas.{lowest-le-length}
use Rattle.body_handles.proofs.TableLemmas.{IsSlotEntry-given, IsTable-given, IsTable-taken}
use Rattle.graph_colours.specs.declared.member.Member.{Member}
use Rattle.graph_colours.specs.declared.member.Movers.{Movers}
use Rattle.graph_colours.specs.Members.{AreRising, inserted, without_member}
use Rattle.graph_colours.specs.FoundMembers.{has_id}
use Rattle.graph_colours.proofs.Cases.{true_or_false}
use Rattle.graph_colours.proofs.ListLemmas.{rising_inserted, rising_without}
use Rattle.graph_colours.proofs.PlaceLemmas.{is_same, same_from}
use Rattle.contacts_base.specs.declared.contact.ContactEntry.{ContactEntry}
use Rattle.plain_world.specs.Constraints.{constraint_number, joint_number}
use Rattle.plain_world.specs.declared.constraint.Constraint.{Constraint}
use Rattle.plain_world.specs.declared.constraint.Constraint.TheVariants.{Joint}
use Rattle.contacts_base.proofs.Members.{IsIn, contains_from_in}
use Rattle.plain_world.specs.declared.body.Body.{Body}
use Rattle.plain_world.specs.declared.joint.BodyJoint.{BodyJoint}
use Rattle.plain_world.specs.Joints.{is_end_in, joint_at}
use Rattle.plain_world.specs.Slots.{AreMatched, is_taken_entry, with_item}
use Rattle.solver_sets.specs.Joining.{handle_at, joined_with, unjoined}
use Rattle.solver_sets.specs.Laws as laws
use Rattle.solver_sets.specs.Alike.{AreJointSlots}
use Rattle.solver_sets.specs.Ties.{Bond, JointSlots, bonds_of, joint_bond, joint_movers, movers_with, tie_of, tie_with, ties_of}
use Rattle.solver_sets.proofs.BondLaws.{bond_number, bonds_in, bonds_rise, contact_above, in_bonds, place_is}
use Rattle.solver_sets.proofs.ListLaws.{only_one, same_members}
use Rattle.solver_sets.proofs.MemberLaws.{inserted_is, is_inserted, is_without, no_id, without_is}
use Rattle.solver_sets.proofs.SlotLemmas.{AreMatched-push, AreMatched-set, item_at-set_none, item_at-set_other, lowest-free, none_if, slice_get-set_other, slice_get-with, slice_get-with_own}
use Rattle.solver_sets.proofs.TieLaws.{in_ties, is_tie, tie_is, ties_in_of, ties_rise}

-- ---- which handles are live

live_place : (n g : ℕ) (live : Bool) → (live && (n == g)) ≡ true → ◌≡◌ {A = Option SlotEntry} (Some (record { generation = n; live = live })) (Some (record { generation = g; live = true }))
live_place n g true e = ap (λ (k : ℕ). Some (record { generation = k; live = true })) (same_from n g e)
live_place n g false e = absurd (true_or_false false e refl)

pub live_at : (o : Option SlotEntry) (g : ℕ) → is_live_at o g ≡ true → o ≡ Some (record { generation = g; live = true })
live_at None g e = absurd (true_or_false false e refl)
live_at (Some p) g e = live_place p.generation g p.live e

taken_live : (o : Option SlotEntry) → is_taken_entry o ≡ true → is_live_at o (generation_of o) ≡ true
taken_live None e = absurd (true_or_false false e refl)
taken_live (Some p) e = rw (e, is_same p.generation p.generation refl) refl

-- ---- a joint that goes

pub matched_unjoined : (slot_entries : List SlotEntry) (joints : List (Option BodyJoint)) (h : Handle) → AreMatched slot_entries joints → AreMatched (slot_entries_without slot_entries h) (slice_set joints h.slot None)
matched_unjoined slot_entries joints h m = AreMatched-set slot_entries joints h.slot (record { generation = h.generation + 1; live = false }) None refl m

-- what stands in a taken slot has its handle
pub handle_live : (slot_entries : List SlotEntry) (joints : List (Option BodyJoint)) (body slot : ℕ) → AreMatched slot_entries joints → is_end_in body (joint_at joints slot) ≡ true → is_live slot_entries (handle_at slot_entries slot) ≡ true
handle_live slot_entries joints body slot m end =
    taken_live (slice_get slot_entries slot) (sym (m.taken slot) ∙ some_end (joint_at joints slot) end)
  where
    some_end : (o : Option BodyJoint) → is_end_in body o ≡ true → is_some o ≡ true
    some_end None e = e
    some_end (Some j) e = refl

-- ---- a joint that is made

-- what the slots hold once a joint is made: the joint in its own slot, and what was there in each other
pub record AreJoined (old new : JointSlots) (h : Handle) (j : BodyJoint) : Type 0 where
  pub own_place : slice_get new.slot_entries h.slot ≡ Some (record { generation = h.generation; live = true })
  pub own : joint_at new.joints h.slot ≡ Some j
  pub free : joint_at old.joints h.slot ≡ None
  pub slot_entries : (k : ℕ) → k ≢ h.slot → slice_get new.slot_entries k ≡ slice_get old.slot_entries k
  pub joints : (k : ℕ) → k ≢ h.slot → joint_at new.joints k ≡ joint_at old.joints k

pub free_joint : (slot_entries : List SlotEntry) (joints : List (Option BodyJoint)) → AreMatched slot_entries joints → joint_at joints (lowest slot_entries) ≡ None
free_joint slot_entries joints m = none_if (joint_at joints (lowest slot_entries)) (m.taken (lowest slot_entries) ∙ lowest-free slot_entries)

pub are_joined : (js : JointSlots) (j : BodyJoint) → AreMatched js.slot_entries js.joints → AreJoined js (joined_with j js) (handle_at js.slot_entries (lowest js.slot_entries)) j
are_joined js j m =
    let slot : ℕ = lowest js.slot_entries in
    let least : slot ≤ length js.slot_entries = lowest-le-length js.slot_entries in
    let long : length js.slot_entries ≡ length js.joints = m.slots in
    let below_places : nat_lt slot (length js.slot_entries) ≡ true → slot < length js.slot_entries = λ q. ltb-true slot (length js.slot_entries) q in
    let at_places : nat_lt slot (length js.slot_entries) ≡ false → slot ≡ length js.slot_entries = λ q. let past = ltb-false slot (length js.slot_entries) q in omega (arith, least, past) in
    let below_joints : nat_lt slot (length js.joints) ≡ true → slot < length js.joints = λ q. ltb-true slot (length js.joints) q in
    let at_joints : nat_lt slot (length js.joints) ≡ false → slot ≡ length js.joints = λ q. let past = ltb-false slot (length js.joints) q in omega (arith, least, long, past) in
    record {
      own_place = slice_get-with_own (nat_lt slot (length js.slot_entries)) js.slot_entries slot (record { generation = generation_at js.slot_entries slot; live = true }) below_places at_places;
      own = ap option_flatten (slice_get-with_own (nat_lt slot (length js.joints)) js.joints slot (Some j) below_joints at_joints);
      free = free_joint js.slot_entries js.joints m;
      slot_entries = λ k far. slice_get-with (nat_lt slot (length js.slot_entries)) js.slot_entries slot k (record { generation = generation_at js.slot_entries slot; live = true }) at_places far;
      joints = λ k far. ap option_flatten (slice_get-with (nat_lt slot (length js.joints)) js.joints slot k (Some j) at_joints far);
    }

matched_joined : (t : Bool) (slot_entries : List SlotEntry) (joints : List (Option BodyJoint)) (slot : ℕ) (p : SlotEntry) (j : BodyJoint) → p.live ≡ true → (t ≡ false → length joints < MAX_SLOTS) → AreMatched slot_entries joints
    → AreMatched (cond t (slice_set slot_entries slot p) (slot_entries ++ p ∷ [])) (cond t (slice_set joints slot (Some j)) (joints ++ Some j ∷ []))
matched_joined true slot_entries joints slot p j live few m = AreMatched-set slot_entries joints slot p (Some j) (sym live) m
matched_joined false slot_entries joints slot p j live few m = AreMatched-push slot_entries joints p (Some j) (sym live) (few refl) m

pub matched_with : (js : JointSlots) (j : BodyJoint) → lowest js.slot_entries < MAX_SLOTS → AreMatched js.slot_entries js.joints → AreMatched (joined_with j js).slot_entries (joined_with j js).joints
matched_with js j free m =
    let slot : ℕ = lowest js.slot_entries in
    let p : SlotEntry = record { generation = generation_at js.slot_entries slot; live = true } in
    subst (λ (n : ℕ). AreMatched (cond (nat_lt slot n) (slice_set js.slot_entries slot p) (js.slot_entries ++ p ∷ [])) (with_item js.joints slot j)) (sym m.slots)
    (matched_joined (nat_lt slot (length js.joints)) js.slot_entries js.joints slot p j refl (λ q. let past = ltb-false slot (length js.joints) q in omega (arith, past, free)) m)

slots_joined : (s : JointSlots) (j : BodyJoint) → lowest s.slot_entries < MAX_SLOTS → AreJointSlots s → AreJointSlots (joined_with j s)
slots_joined s j free are =
    let long = are.matched.slots in
    let few = are.matched.few in
    record {
      matched = matched_with s j free are.matched;
      slot_entries = (IsTable-given s.slot_entries are.slot_entries (omega (arith, long, few)) free).each;
    }

-- a new joint's number is none of those before
new_generation : (s : JointSlots) → AreJointSlots s → generation_at s.slot_entries (lowest s.slot_entries) < 2 ^ 32
new_generation s are =
    let is : IsSlotEntry (record { generation = generation_at s.slot_entries (lowest s.slot_entries); live = true }) = IsSlotEntry-given s.slot_entries are.slot_entries in
    let bounded = is.bounded in
    omega (arith, bounded)

far_from_new : (s : JointSlots) (contacts : List ContactEntry) (b : Bond) → AreJointSlots s → lowest s.slot_entries < MAX_SLOTS → IsIn b (bonds_of s contacts) → bond_number b ≢ joint_number (handle_at s.slot_entries (lowest s.slot_entries))
far_from_new s contacts b are free h e =
    let generation : generation_at s.slot_entries (lowest s.slot_entries) < 2 ^ 32 = new_generation s are in
    elim (in_bonds s contacts b h) [
      | inl p ↦
          let is : IsSlotEntry p.place = place_is s.slot_entries p.slot p.place are.slot_entries p.at_place in
          let bounded = is.bounded in
          let number : bond_number b ≡ p.slot * 2 ^ 32 + p.place.generation = ap bond_number p.is in
          let same : p.slot ≡ lowest s.slot_entries = omega (arith, bounded, number, generation, e) in
          none-some p.joint (sym (free_joint s.slot_entries s.joints are.matched) ∙ sym (ap (joint_at s.joints) same) ∙ p.at_joint)
      | inr q ↦ let high = contact_above contacts b q in omega (arith, high, generation, free, e)
    ]

-- the bonds once a joint is made
bond_joined : (s : JointSlots) (contacts : List ContactEntry) (new : JointSlots) (h : Handle) (j : BodyJoint) (b : Bond) → AreJoined s new h j → IsIn b (bonds_of new contacts) → (b ≡ joint_bond h j) ⊎ IsIn b (bonds_of s contacts)
bond_joined s contacts new h j b are k = elim (in_bonds new contacts b k) [
  | inl p ↦ elim (cases_eq p.slot h.slot) [
    | inl same ↦
        let place : record { generation = h.generation; live = true } ≡ p.place = same_Some (record { generation = h.generation; live = true }) p.place (sym are.own_place ∙ sym (ap (slice_get new.slot_entries) same) ∙ p.at_place) in
        let joint : j ≡ p.joint = same_Some j p.joint (sym are.own ∙ sym (ap (joint_at new.joints) same) ∙ p.at_joint) in
        inl (p.is ∙ ap₂ (λ (g : Handle) (i : BodyJoint). joint_bond g i) (ap₂ (λ (slot generation : ℕ). record { slot = slot; generation = generation }) same (sym (ap (λ (v : SlotEntry). v.generation) place))) (sym joint))
    | inr far ↦ inr (bonds_in s contacts b (inl (record { slot = p.slot; place = p.place; joint = p.joint; at_place = sym (are.slot_entries p.slot far) ∙ p.at_place; at_joint = sym (are.joints p.slot far) ∙ p.at_joint; is = p.is })))
  ]
  | inr q ↦ inr (bonds_in s contacts b (inr q))
]

joined_bond : (s : JointSlots) (contacts : List ContactEntry) (new : JointSlots) (h : Handle) (j : BodyJoint) (b : Bond) → AreJoined s new h j → (b ≡ joint_bond h j) ⊎ IsIn b (bonds_of s contacts) → IsIn b (bonds_of new contacts)
joined_bond s contacts new h j b are k = elim k [
  | inl e ↦ bonds_in new contacts b (inl (record { slot = h.slot; place = record { generation = h.generation; live = true }; joint = j; at_place = are.own_place; at_joint = are.own; is = e }))
  | inr q ↦ elim (in_bonds s contacts b q) [
    | inl p ↦
        let far : p.slot ≢ h.slot = λ same. none-some p.joint (sym are.free ∙ sym (ap (joint_at s.joints) same) ∙ p.at_joint) in
        bonds_in new contacts b (inl (record { slot = p.slot; place = p.place; joint = p.joint; at_place = are.slot_entries p.slot far ∙ p.at_place; at_joint = are.joints p.slot far ∙ p.at_joint; is = p.is }))
    | inr r ↦ bonds_in new contacts b (inr r)
  ]
]

-- what of ties is in old and new
tie_joined : (bodies : List (Option Body)) (s : JointSlots) (contacts : List ContactEntry) (new : JointSlots) (h : Handle) (j : BodyJoint) (m : Member Constraint) → AreJoined s new h j → IsIn m (ties_of bodies new contacts) → (tie_of bodies (joint_bond h j) ≡ Some m) ⊎ IsIn m (ties_of bodies s contacts)
tie_joined bodies s contacts new h j m are k =
    let o = in_ties bodies new contacts m k in
    elim (bond_joined s contacts new h j o.of are o.there) [
      | inl e ↦ inl (sym (ap (tie_of bodies) e) ∙ o.gives)
      | inr q ↦ inr (ties_in_of bodies s contacts o.of m q o.gives)
    ]

joined_tie : (bodies : List (Option Body)) (s : JointSlots) (contacts : List ContactEntry) (new : JointSlots) (h : Handle) (j : BodyJoint) (m : Member Constraint) → AreJoined s new h j → (tie_of bodies (joint_bond h j) ≡ Some m) ⊎ IsIn m (ties_of bodies s contacts) → IsIn m (ties_of bodies new contacts)
joined_tie bodies s contacts new h j m are k = elim k [
  | inl e ↦ ties_in_of bodies new contacts (joint_bond h j) m (joined_bond s contacts new h j (joint_bond h j) are (inl refl)) e
  | inr q ↦ let o = in_ties bodies s contacts m q in ties_in_of bodies new contacts o.of m (joined_bond s contacts new h j o.of are (inr o.there)) o.gives
]

with_tie_is : (h : Handle) (o : Option Movers) (old new : List (Member Constraint)) → AreRising constraint_number old → AreRising constraint_number new → has_id constraint_number (Joint h) old ≡ false
    → ((m : Member Constraint) → IsIn m new → (tie_with (Joint h) o ≡ Some m) ⊎ IsIn m old) → ((m : Member Constraint) → (tie_with (Joint h) o ≡ Some m) ⊎ IsIn m old → IsIn m new) → new ≡ laws.with_tie (Joint h) o old
with_tie_is h None old new r q fresh f g = same_members constraint_number new old q r (λ m k. elim (f m k) [ inl e ↦ absurd (none-some m e) | inr p ↦ p ]) (λ m k. g m (inr k))
with_tie_is h (Some v) old new r q fresh f g =
    let x : Member Constraint = record { id = Joint h; movers = v } in
    same_members constraint_number new (inserted constraint_number x old) q (rising_inserted constraint_number x old r fresh)
    (λ m k. is_inserted constraint_number x old m (elim (f m k) [ inl e ↦ inl (sym (same_Some x m e)) | inr p ↦ inr p ]))
    (λ m k. g m (elim (inserted_is constraint_number x old m k) [ inl e ↦ inl (ap Some (sym e)) | inr p ↦ inr p ]))

pub joining : laws.JoiningAddsTies
joining bodies s contacts j are rising free =
    let h : Handle = handle_at s.slot_entries (lowest s.slot_entries) in
    let new : JointSlots = joined_with j s in
    let slots : AreJointSlots new = slots_joined s j free are in
    let made : AreJoined s new h j = are_joined s j are.matched in
    let fresh : has_id constraint_number (Joint h) (ties_of bodies s contacts) ≡ false = no_id constraint_number (ties_of bodies s contacts) (Joint h)
    (λ m k e. let o = in_ties bodies s contacts m k in far_from_new s contacts o.of are free o.there (sym (ap constraint_number (tie_is bodies o.of m o.gives).named) ∙ e)) in
    record {
      slots = slots;
      fresh = fresh;
      ties = with_tie_is h (joint_movers bodies j) (ties_of bodies s contacts) (ties_of bodies new contacts) (ties_rise bodies s contacts are rising) (ties_rise bodies new contacts slots rising) fresh
          (λ m k. tie_joined bodies s contacts new h j m made k) (λ m k. joined_tie bodies s contacts new h j m made k);
    }

-- ---- a joint that goes

pub slots_unjoined : (s : JointSlots) (h : Handle) → IsLive s.slot_entries h → AreJointSlots s → AreJointSlots (unjoined h s)
slots_unjoined s h at are =
    let long = are.matched.slots in
    let few = are.matched.few in
    record {
      matched = matched_unjoined s.slot_entries s.joints h are.matched;
      slot_entries = (IsTable-taken s.slot_entries h 0 0 (record { each = are.slot_entries; few = omega (arith, long, few); none_below = omega arith }) at (omega arith) (omega arith)).each;
    }

-- the bond of the joint that goes
bond_gone : (s : JointSlots) (contacts : List ContactEntry) (h : Handle) (j : BodyJoint) → IsLive s.slot_entries h → joint_at s.joints h.slot ≡ Some j → IsIn (joint_bond h j) (bonds_of s contacts)
bond_gone s contacts h j live at = bonds_in s contacts (joint_bond h j) (inl (record { slot = h.slot; place = record { generation = h.generation; live = true }; joint = j; at_place = live; at_joint = at; is = refl }))

unjoined_bond : (s : JointSlots) (contacts : List ContactEntry) (h : Handle) (b : Bond) → AreJointSlots s → IsLive s.slot_entries h → IsIn b (bonds_of (unjoined h s) contacts) → IsIn b (bonds_of s contacts) × (bond_number b ≢ joint_number h)
unjoined_bond s contacts h b are live k =
    let place : IsSlotEntry (record { generation = h.generation; live = true }) = place_is s.slot_entries h.slot (record { generation = h.generation; live = true }) are.slot_entries live in
    let short = place.bounded in
    elim (in_bonds (unjoined h s) contacts b k) [
      | inl p ↦
          let far : p.slot ≢ h.slot = λ same. none-some p.joint (sym (item_at-set_none s.joints h.slot) ∙ sym (ap (joint_at (slice_set s.joints h.slot None)) same) ∙ p.at_joint) in
          let at_place : slice_get s.slot_entries p.slot ≡ Some p.place = sym (slice_get-set_other s.slot_entries h.slot p.slot (record { generation = h.generation + 1; live = false }) far) ∙ p.at_place in
          let at_joint : joint_at s.joints p.slot ≡ Some p.joint = sym (item_at-set_other s.joints h.slot None p.slot far) ∙ p.at_joint in
          let is : IsSlotEntry p.place = place_is s.slot_entries p.slot p.place are.slot_entries at_place in
          let bounded = is.bounded in
          let number : bond_number b ≡ p.slot * 2 ^ 32 + p.place.generation = ap bond_number p.is in (
            bonds_in s contacts b (inl (record { slot = p.slot; place = p.place; joint = p.joint; at_place = at_place; at_joint = at_joint; is = p.is })),
            (λ e. far (omega (arith, short, bounded, number, e))),
          )
      | inr q ↦
          let high = contact_above contacts b q in
          let slots = are.matched.slots in
          let few = are.matched.few in
          let within : h.slot < length s.slot_entries = slice_get_within s.slot_entries h.slot (record { generation = h.generation; live = true }) live in
          (bonds_in s contacts b (inr q), (λ e. omega (arith, high, slots, few, within, short, e)))
    ]

bond_unjoined : (s : JointSlots) (contacts : List ContactEntry) (h : Handle) (b : Bond) → IsLive s.slot_entries h → IsIn b (bonds_of s contacts) → bond_number b ≢ joint_number h → IsIn b (bonds_of (unjoined h s) contacts)
bond_unjoined s contacts h b live k ne = elim (in_bonds s contacts b k) [
  | inl p ↦
      let far : p.slot ≢ h.slot = λ same. ne
      (let place : record { generation = h.generation; live = true } ≡ p.place = same_Some (record { generation = h.generation; live = true }) p.place (sym live ∙ sym (ap (slice_get s.slot_entries) same) ∙ p.at_place) in
      ap bond_number p.is ∙ ap₂ (λ (slot generation : ℕ). slot * 2 ^ 32 + generation) same (sym (ap (λ (v : SlotEntry). v.generation) place))) in
      bonds_in (unjoined h s) contacts b (inl (record {
        slot = p.slot;
        place = p.place;
        joint = p.joint;
        at_place = slice_get-set_other s.slot_entries h.slot p.slot (record { generation = h.generation + 1; live = false }) far ∙ p.at_place;
        at_joint = item_at-set_other s.joints h.slot None p.slot far ∙ p.at_joint;
        is = p.is;
      }))
  | inr q ↦ bonds_in (unjoined h s) contacts b (inr q)
]

without_tie_is : (h : Handle) (o : Option Movers) (old new : List (Member Constraint)) → AreRising constraint_number old → AreRising constraint_number new
    → ((m : Member Constraint) → IsIn m new → IsIn m old × (constraint_number m.id ≢ joint_number h)) → ((m : Member Constraint) → IsIn m old → constraint_number m.id ≢ joint_number h → IsIn m new)
    → (o ≡ None → (m : Member Constraint) → IsIn m old → constraint_number m.id ≢ joint_number h) → new ≡ laws.without_tie (Joint h) o old
without_tie_is h None old new r q f g none = same_members constraint_number new old q r (λ m k. (f m k).0) (λ m k. g m k (none refl m k))
without_tie_is h (Some v) old new r q f g none =
    same_members constraint_number new (without_member constraint_number (Joint h) old) q (rising_without constraint_number (Joint h) old r)
    (λ m k. let o = f m k in is_without constraint_number (Joint h) old m o.0 o.1)
    (λ m k. let o = without_is constraint_number (Joint h) old m k in g m o.0 o.1)

pub unjoining : laws.UnjoiningTakesTies
unjoining bodies s contacts h j are rising live at =
    let new : JointSlots = unjoined h s in
    let slots : AreJointSlots new = slots_unjoined s h live are in
    let old : IsIn (joint_bond h j) (bonds_of s contacts) = bond_gone s contacts h j live at in
    record {
      slots = slots;
      there = λ m e. contains_from_in (ties_of bodies s contacts) (record { id = Joint h; movers = m }) (ties_in_of bodies s contacts (joint_bond h j) (record { id = Joint h; movers = m }) old (is_tie bodies (joint_bond h j) (record { id = Joint h; movers = m }) (record { named = refl; movers = e })));
      ties = without_tie_is h (joint_movers bodies j) (ties_of bodies s contacts) (ties_of bodies new contacts) (ties_rise bodies s contacts are rising) (ties_rise bodies new contacts slots rising)
          (λ m k. let o = in_ties bodies new contacts m k in let p = unjoined_bond s contacts h o.of are live o.there in
          (ties_in_of bodies s contacts o.of m p.0 o.gives, (λ e. p.1 (sym (ap constraint_number (tie_is bodies o.of m o.gives).named) ∙ e))))
          (λ m k ne. let o = in_ties bodies s contacts m k in
          ties_in_of bodies new contacts o.of m (bond_unjoined s contacts h o.of live o.there (λ e. ne (ap constraint_number (tie_is bodies o.of m o.gives).named ∙ e))) o.gives)
          (λ none m k e. let o = in_ties bodies s contacts m k in let t = tie_is bodies o.of m o.gives in
          let same : o.of ≡ joint_bond h j = only_one bond_number (bonds_of s contacts) o.of (joint_bond h j) (bonds_rise s contacts are rising) o.there old (sym (ap constraint_number t.named) ∙ e) in
          none-some m.movers (sym none ∙ sym (ap (λ (v : Bond). movers_with bodies v.a v.b) same) ∙ t.movers));
    }
