-- A sound world is read again as it is written.
use Rattle.std.proofs.Common.{◌≡◌, ℕ, zero, suc, ◌+◌, ◌*◌, ◌^◌, ◌<◌, ◌≤◌, ◌==◌, true, false, nat_le, List, [], ◌∷◌, length, map, slice_get, Option, Some, None, is_some, codes, Ok, All, unsigned_abs, refl, sym, ap, ap₂, ◌∙◌, arith, le-leb}
use Rattle.std.specs.Option.{ForSome}
use Rattle.std.proofs.lemmas.Bool.{false≢true}
use Rattle.std.proofs.lemmas.List.{length-map}
use Rattle.std.proofs.lemmas.List.Elements.{All-head, All-tail}
use Rattle.std.proofs.lemmas.List.Quantifiers.{position-Some}
use Rattle.std.proofs.lemmas.Option.{none-some}
use Rattle.serde_json.specs.Data.{Data, Items}
use Rattle.serde_json.specs.Find.{get}
use Rattle.serde_json.specs.View.{items_of}
use Rattle.body_handles.specs.SlotEntries.{IsSlotEntry}
use Rattle.body_handles.specs.declared.slot_table.SlotEntry.{SlotEntry}
use Rattle.body_handles.specs.declared.slot_table.TheConstants.{MAX_SLOTS}
use Rattle.contacts_base.proofs.Members.{Each}
use Rattle.plain_world.specs.declared.constraint.Constraint.{Constraint}
use Rattle.plain_world.specs.declared.constraint.Constraint.TheVariants.{Joint, Contact}
use Rattle.fixed_geom.specs.Vectors.{IsWithin}
use Rattle.contacts_base.specs.Limits.{IsContactPoint}
use Rattle.contacts_base.specs.declared.contact.ContactEntry.{ContactEntry}
use Rattle.contacts_base.specs.declared.contact.ContactPoint.{ContactPoint}
use Rattle.graph_colours.specs.declared.member.Member.{Member}
use Rattle.impulse_ledger.specs.Sums.{total_of}
use Rattle.impulse_ledger.specs.declared.entry.Cause.{Cause}
use Rattle.impulse_ledger.specs.declared.entry.Cause.TheVariants as causes
use Rattle.impulse_ledger.specs.declared.totals.Totals.{Totals}
use Rattle.islands.specs.Labels.{Labels, label_at, sleeping_name}
use Rattle.islands.specs.declared.label.Label.{Label}
use Rattle.islands.proofs.LabelLemmas.{some_short}
use Rattle.momenta.specs.declared.limits.TheConstants.{MAX_GRAVITY}
use Rattle.plain_world.specs.Joints.{AreJoints, IsBodyJoint}
use Rattle.plain_world.specs.Plain.{Plain, colour_of, has_constraint}
use Rattle.plain_world.specs.Slots.{body_at, is_taken, item_at}
use Rattle.plain_world.specs.declared.body.Body.{Body}
use Rattle.plain_world.specs.declared.joint.BodyJoint.{BodyJoint}
use Rattle.world_file_base.specs.Asks.{asked, no_asks}
use Rattle.world_file_base.specs.Reading.{unsigned_in}
use Rattle.world_file_base.specs.AskedValues.{unsigned_asks, vector_within_asks}
use Rattle.world_file_base.specs.Written.{natural, vector_of}
use Rattle.world_file_base.specs.declared.clause.Clause.{Clause}
use Rattle.world_file_base.specs.declared.clause.Clause.TheVariants.{Limits}
use Rattle.world_file_base.specs.declared.reader.Reader.{Reader}
use Rattle.world_file_base.specs.SavedBodies.{sleeping_under}
use Rattle.world_file_base.specs.SavedJoints.{generation_there}
use Rattle.world_file_base.specs.SavedSlots.{bodies_in, body_slots}
use Rattle.world_file_base.specs.AskedSlots.{bodies_asks, slots_asks}
use Rattle.world_file_base.specs.declared.version.Version.TheVariants.{Second}
use Rattle.plain_world.specs.Bodies.{is_mover_in}
use Rattle.solver_sets.proofs.SlotLemmas.{below_length}
use Rattle.solver_sets.specs.Ties.{Lists, members_of}
use Rattle.world_core_base.specs.ContactBodies.{IsContactOf}
use Rattle.world_file.specs.Clauses.{first_broken, first_unfit}
use Rattle.world_file.specs.Files.{plain_of, read_of, read_unless, value_of}
use Rattle.world_file.specs.Saved.{Saved, calls_in, most_calls, saved_in, slow_ticks, steps_in}
use Rattle.world_file.specs.AskedParts.{heads_asks, parts_asks, fitting_asks}
use Rattle.world_rules.specs.Sound.{HasBodies, IsSound}
use Rattle.world_rules.specs.World.{World, book_of, joints_in_slots}
use Rattle.world_rules.proofs.SlotLemmas.{body_at-in}
use Rattle.world_file.specs.Again.{membership_of, saved_of}
use Rattle.world_file.specs.Laws.{HasSmallTotals, WhatIsWrittenIsReadAgain, totals_of_world}
use Rattle.world_file.proofs.AgainParts.{each_from_all}
use Rattle.world_file.proofs.AgainWhole.{is_consistent, what_is_written_fits}
use Rattle.world_file.proofs.BackNumbers.{asked_true, unsigned_back, within_back}
use Rattle.world_file.proofs.BackParts.{AreContactsBack, AreSmallTotals, IsContactWritten, IsJointWritten, contacts_back, totals_back}
use Rattle.world_file.proofs.BackSlots.{AreBodiesBack, AreBodiesWritten, AreJointsBack, AreJointsWritten, OnJointWritten, OnWritten, bodies_back, joints_back}
use Rattle.world_file.proofs.ReadContacts.{IsColour}
use Rattle.world_file.proofs.FirstBroken.{asking_finds_the_first, found_unfit}
use Rattle.world_file.proofs.ReadParts.{IsSmallTotal}
use Rattle.world_file.proofs.ReadPoints.{OnPoint}

-- ---- the value's keys

-- what the whole value gives, where its parts are read as they are written
record IsWholeBack (p : Plain) (t : Totals) : Type 0 where
  saved : saved_in (value_of p t) ≡ saved_of p t
  asks : (r : Reader) → parts_asks (value_of p t) r ≡ r

few_slots : (n k : ℕ) (r : Reader) → k ≡ n → n ≤ MAX_SLOTS → asked (nat_le k MAX_SLOTS) Limits r ≡ r
few_slots n k r e h = asked_true (nat_le k MAX_SLOTS) Limits r (le-leb k MAX_SLOTS (omega (arith, e, h)))

whole_back : (p : Plain) (t : Totals) → AreBodiesBack (p.steps * 8) 0 p.slot_entries p.bodies p.islands p.islands → AreJointsBack p.slot_entries p.colours 0 p.joint_entries p.joints → AreContactsBack p.colours p.contacts → AreSmallTotals t
    → IsWithin (2 ^ 16) p.gravity → p.steps ≤ p.calls → p.calls ≤ 2 ^ 40 → length p.bodies ≤ MAX_SLOTS → length p.joints ≤ MAX_SLOTS → IsWholeBack p t
unfolding value_of
whole_back p t bodies joints contacts small gravity steps calls few_bodies few_joints =
    let d : Data = value_of p t in
    let g = within_back (unsigned_abs MAX_GRAVITY) p.gravity (omega arith) gravity in
    let c = unsigned_back most_calls p.calls calls in
    let called : calls_in d ≡ p.calls = c.value in
    let s = unsigned_back p.calls p.steps steps in
    let stepped : steps_in d ≡ p.steps = ap (λ (n : ℕ). unsigned_in n (Some (natural p.steps))) called ∙ s.value in
    let slow : slow_ticks d ≡ p.steps * 8 = ap (λ (n : ℕ). n * 8) stepped in
    let ledger = totals_back t small in
    let items : Items = items_of (body_slots 0 p.slot_entries p.bodies p.islands) in
    let all : bodies_in (slow_ticks d) items ≡ p.bodies = ap (λ (n : ℕ). bodies_in n items) slow ∙ bodies.bodies in
    record {
      saved = λ i. record {
        slot_entries = bodies.slot_entries i;
        bodies = all i;
        memberships = bodies.memberships i;
        joint_entries = joints.slots i;
        joints = joints.joints i;
        contacts = contacts.value i;
        totals = ledger.value i;
        gravity = g.value i;
        steps = stepped i;
        calls = called i;
      };
      asks = λ r.
          contacts.asks _ ∙ joints.asks _ ∙ few_slots (length p.joints) _ _ joints.count few_joints
          ∙ ap (λ (n : ℕ). bodies_asks n items (slots_asks Second (get (codes "bodies") d) (heads_asks d r))) slow ∙ bodies.asks _ ∙ few_slots (length p.bodies) _ _ bodies.count few_bodies
          ∙ ledger.asks _ ∙ ap (λ (n : ℕ). unsigned_asks n (Some (natural p.steps)) (unsigned_asks most_calls (Some (natural p.calls)) (vector_within_asks (unsigned_abs MAX_GRAVITY) (Some (vector_of p.gravity)) r))) called ∙ s.asks _ ∙ c.asks _ ∙ g.asks r;
    }

-- ---- what a sound world has that is written

abbrev lists : World → Lists
lists w = members_of w.plain.bodies (joints_in_slots w.plain) w.plain.colours

colour_small : (w : World) → IsSound w → (id : Constraint) → IsColour (colour_of id w.plain.colours)
unfolding colour_of
colour_small w h id k e =
    let within = (position-Some (has_constraint id) w.plain.colours k [] e).0 in
    let count = (is_consistent w h).colouring.count in
    let as_many : length w.plain.colours ≡ length (lists w) = ap (λ (ids : List (List Constraint)). length ids) (sym h.formed.moved) ∙ length-map (lists w) (λ (ms : List (Member Constraint)). map (λ (m : Member Constraint). m.id) ms) in
    omega (arith, within, count, as_many)

on_point : (o : Option ContactPoint) → ForSome o IsContactPoint → ForSome o (λ p. p.candidate ≤ 3) → OnPoint o
on_point None h k = tt
on_point (Some p) h k = record { point = h p refl; candidate = k p refl }

beside_of : (first second : Option ContactPoint) → ((q : ContactPoint) → second ≡ Some q → (p : ContactPoint) × (first ≡ Some p) × ((q.candidate == p.candidate) ≡ false)) → first ≡ None → second ≡ None
beside_of first None h e = refl
beside_of first (Some q) h e = absurd (none-some (h q refl).0 (sym e ∙ (h q refl).1))

contact_written : (w : World) → IsSound w → (e : ContactEntry) → IsContactOf w.plain.bodies e → HasBodies w.plain.bodies e → IsContactWritten w.plain.colours e
contact_written w h e of has =
    let few = h.formed.matched.few in
    let first = of.first in
    record {
      first_slot = omega (arith, few, first);
      first_index = has.named.first;
      second_slot = has.named.slot;
      second_index = has.named.second;
      first = on_point e.contact.first of.contact.first has.points.first;
      second = on_point e.contact.second of.contact.second has.points.second;
      beside = beside_of e.contact.first e.contact.second has.points.beside;
      colour = colour_small w h (Contact e.key);
    }

contacts_written : (w : World) → IsSound w → (es : List ContactEntry) → Each (IsContactOf w.plain.bodies) es → Each (HasBodies w.plain.bodies) es → Each (IsContactWritten w.plain.colours) es
contacts_written w h [] of has = tt
contacts_written w h (e ∷ es) of has = (contact_written w h e of.0 has.0, contacts_written w h es of.1 has.1)

-- ---- bodies

sleeping_same : (label : Option Label) → sleeping_name label ≡ sleeping_under (membership_of label)
sleeping_same None = refl
sleeping_same (Some l) = refl

no_label : (label : Option Label) → is_some label ≡ false → label ≡ None
no_label None e = refl
no_label (Some l) e = absurd (false≢true (sym e))

slot_written : (w : World) → IsSound w → (k : ℕ) (o : Option Body) → body_at w.plain.bodies k ≡ o → OnWritten (w.plain.steps * 8) o (label_at w.plain.islands k)
slot_written w h k None e = no_label (label_at w.plain.islands k) (h.promises.tied k ∙ ap (λ (v : Option Body). is_mover_in v) e)
slot_written w h k (Some b) e =
    let timer = h.formed.timers k b e in
    let few = h.formed.matched.few in
    record {
      body = h.formed.bodies k b (body_at-in w.plain.bodies k b e);
      timer = omega (arith, timer);
      filters = h.formed.filters k b e;
      mover = h.promises.tied k ∙ ap (λ (v : Option Body). is_mover_in v) e;
      low = λ l f. let long = h.formed.labels in let below = some_short w.plain.islands k l f in let name = (is_consistent w h).islands.partition.low k l f in omega (arith, below, name, long, few);
      asleep = h.promises.told k b e ∙ sleeping_same (label_at w.plain.islands k);
    }

-- slot by slot, from facts of each slot
bodies_by : (most : ℕ) (ps : List SlotEntry) (os : List (Option Body)) (ls : Labels) → length ps ≡ length os → length ls ≡ length os → All IsSlotEntry ps → ((k : ℕ) → is_some (item_at os k) ≡ is_taken ps k) → ((k : ℕ) → OnWritten most (item_at os k) (label_at ls k)) → AreBodiesWritten most ps os ls
bodies_by most [] [] [] e f all taken each = tt
bodies_by most [] [] (l ∷ ls) e f all taken each = absurd (omega arith)
bodies_by most [] (o ∷ os) ls e f all taken each = absurd (omega arith)
bodies_by most (p ∷ ps) [] ls e f all taken each = absurd (omega arith)
bodies_by most (p ∷ ps) (o ∷ os) [] e f all taken each = absurd (omega arith)
bodies_by most (p ∷ ps) (o ∷ os) (l ∷ ls) e f all taken each = (
  record { slot_entry = All-head IsSlotEntry p ps all; live = sym (taken 0); body = each 0 },
  bodies_by most ps os ls (omega arith) (omega arith) (All-tail IsSlotEntry p ps all) (λ k. taken (suc k)) (λ k. each (suc k)),
)

bodies_written : (w : World) → IsSound w → AreBodiesWritten (w.plain.steps * 8) w.plain.slot_entries w.plain.bodies w.plain.islands
bodies_written w h =
    bodies_by (w.plain.steps * 8) w.plain.slot_entries w.plain.bodies w.plain.islands h.formed.matched.slots h.formed.labels h.formed.slot_entries h.formed.matched.taken
    (λ k. slot_written w h k (body_at w.plain.bodies k) refl)

-- ---- joints

generation_small : (ps : List SlotEntry) (k : ℕ) → All IsSlotEntry ps → generation_there (slice_get ps k) < 2 ^ 32
generation_small [] k all = omega arith
generation_small (p ∷ ps) zero all = let bounded = (All-head IsSlotEntry p ps all).bounded in omega (arith, bounded)
generation_small (p ∷ ps) (suc k) all = generation_small ps k (All-tail IsSlotEntry p ps all)

some_body : (o : Option Body) → is_some o ≡ true → (b : Body) × (o ≡ Some b)
some_body None h = absurd (false≢true h)
some_body (Some b) h = (b, refl)

slot_small : (bodies : List (Option Body)) (k : ℕ) → length bodies ≤ MAX_SLOTS → is_some (body_at bodies k) ≡ true → k < 2 ^ 32
slot_small bodies k few h = let o = some_body (body_at bodies k) h in let below = below_length bodies k o.0 o.1 in omega (arith, few, below)

joint_written : (w : World) → IsSound w → (own : Option ℕ) → IsColour own → (j : BodyJoint) → IsBodyJoint w.plain.bodies j → IsJointWritten w.plain.slot_entries own j
joint_written w h own colour j is = record {
  a = slot_small w.plain.bodies j.a h.formed.matched.few is.first;
  a_generation = generation_small w.plain.slot_entries j.a h.formed.slot_entries;
  b = slot_small w.plain.bodies j.b h.formed.matched.few is.second;
  b_generation = generation_small w.plain.slot_entries j.b h.formed.slot_entries;
  joint = is.joint;
  colour = colour;
}

joint_slot_written : (w : World) → IsSound w → (own : Option ℕ) → IsColour own → (o : Option BodyJoint) → ((j : BodyJoint) → o ≡ Some j → IsBodyJoint w.plain.bodies j) → OnJointWritten w.plain.slot_entries own o
joint_slot_written w h own colour None is = tt
joint_slot_written w h own colour (Some j) is = joint_written w h own colour j (is j refl)

joints_by : (w : World) → IsSound w → (slot : ℕ) (ps : List SlotEntry) (os : List (Option BodyJoint)) → length ps ≡ length os → All IsSlotEntry ps → ((k : ℕ) → is_some (item_at os k) ≡ is_taken ps k) → AreJoints w.plain.bodies os → AreJointsWritten w.plain.slot_entries w.plain.colours slot ps os
joints_by w h slot [] [] e all taken are = tt
joints_by w h slot [] (o ∷ os) e all taken are = absurd (omega arith)
joints_by w h slot (p ∷ ps) [] e all taken are = absurd (omega arith)
joints_by w h slot (p ∷ ps) (o ∷ os) e all taken are = (
  record {
    slot_entry = All-head IsSlotEntry p ps all;
    live = sym (taken 0);
    joint = joint_slot_written w h (colour_of (Joint (record { slot = slot; generation = p.generation })) w.plain.colours) (colour_small w h (Joint (record { slot = slot; generation = p.generation }))) o (λ j s. are 0 j s);
  },
  joints_by w h (suc slot) ps os (omega arith) (All-tail IsSlotEntry p ps all) (λ k. taken (suc k)) (λ k j s. are (suc k) j s),
)

-- ---- all of it

small_total : (w : World) → HasSmallTotals w → (cause : Cause) → IsSmallTotal (total_of cause (book_of w))
small_total w small cause = record { x = small.x cause; y = small.y cause }

small_totals : (w : World) → HasSmallTotals w → AreSmallTotals (totals_of_world w)
small_totals w small = record {
  command = small_total w small causes.Command;
  gravity = small_total w small causes.Gravity;
  immovable = small_total w small causes.Immovable;
  clamp = small_total w small causes.Clamp;
  rest = small_total w small causes.Rest;
  departed = small_total w small causes.Departed;
}

written_back : (w : World) → IsSound w → HasSmallTotals w → IsWholeBack w.plain (totals_of_world w)
written_back w h small =
    let same : (k : ℕ) → label_at w.plain.islands (0 + k) ≡ label_at w.plain.islands k = λ k. let e : 0 + k ≡ k = omega arith in ap (λ (n : ℕ). label_at w.plain.islands n) e in
    whole_back w.plain (totals_of_world w)
    (bodies_back (w.plain.steps * 8) 0 w.plain.slot_entries w.plain.bodies w.plain.islands w.plain.islands (bodies_written w h) same)
    (joints_back w.plain.slot_entries w.plain.colours 0 w.plain.joint_entries w.plain.joints (joints_by w h 0 w.plain.joint_entries w.plain.joints h.formed.joint_slots.slots h.formed.joint_entries h.formed.joint_slots.taken h.formed.joints))
    (contacts_back w.plain.colours w.plain.contacts (contacts_written w h w.plain.contacts (each_from_all (IsContactOf w.plain.bodies) w.plain.contacts h.formed.pairs) (each_from_all (HasBodies w.plain.bodies) w.plain.contacts h.formed.there)))
    (small_totals w small) h.formed.gravity h.formed.steps h.formed.calls h.formed.matched.few h.formed.joint_slots.few

unbroken : (p : Plain) (t : Totals) → IsWholeBack p t → first_unfit (saved_of p t) ≡ None → first_broken (value_of p t) ≡ None
unbroken p t back fit =
    sym (asking_finds_the_first (value_of p t))
    ∙ ap₂ (λ (s : Saved) (r : Reader). (fitting_asks s r).broken) back.saved (back.asks no_asks)
    ∙ found_unfit (saved_of p t)
    ∙ fit

read_back : (o : Option Clause) (s : Saved) (p : Plain) (t : Totals) → o ≡ None → plain_of s ≡ p → s.totals ≡ t → read_unless o s ≡ Ok (p, t)
read_back None s p t e f g = ap₂ (λ (x : Plain) (y : Totals). Ok (x, y)) f g
read_back (Some clause) s p t e f g = cc

pub what_is_written_is_read_again : WhatIsWrittenIsReadAgain
unfolding read_of
what_is_written_is_read_again w h small =
    let d : Data = value_of w.plain (totals_of_world w) in
    let back = written_back w h small in
    let made = what_is_written_fits w h in
    read_back (first_broken d) (saved_in d) w.plain (totals_of_world w) (unbroken w.plain (totals_of_world w) back made.fit) (ap (λ (s : Saved). plain_of s) back.saved ∙ made.plain) (ap (λ (s : Saved). s.totals) back.saved)
