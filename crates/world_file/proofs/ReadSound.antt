-- A world that is read is sound.
use Rattle.std.proofs.Common.{◌≡◌, ℕ, suc, length, ◌+◌, ◌*◌, ◌^◌, ◌≤◌, true, List, [], ◌∷◌, map, All, Option, Some, None, Result, Ok, Err, Contains, ℤ, pos, ◌+ℤ◌, unsigned_abs, int_eq, refl, sym, ap, ◌∙◌, subst, arith}
use Rattle.std.specs.List.{list_all}
use Rattle.std.proofs.lemmas.Int.{ints}
use Rattle.std.proofs.lemmas.List.{length-map}
use Rattle.std.proofs.lemmas.Option.{none-some, same_Some}
use Rattle.std.specs.Option.{option_flatten}
use Rattle.serde_json.specs.Data.{Data}
use Rattle.body_handles.specs.SlotEntries.{IsSlotEntry}
use Rattle.body_handles.specs.declared.slot_table.SlotEntry.{SlotEntry}
use Rattle.contacts_base.proofs.Members.{Each, IsIn, all_from_each, contains_from_in, in_from_contains}
use Rattle.contacts_base.specs.Contacts.{AreKeysRising}
use Rattle.contacts_base.specs.declared.contact.ContactEntry.{ContactEntry}
use Rattle.plain_world.specs.Constraints.{constraint_number}
use Rattle.plain_world.specs.declared.constraint.Constraint.{Constraint}
use Rattle.graph_colours.specs.Colours.{ids_of}
use Rattle.graph_colours.specs.Members.{AreRising}
use Rattle.graph_colours.specs.declared.limits.TheConstants.{COLOURS}
use Rattle.graph_colours.specs.declared.member.Member.{Member}
use Rattle.impulse_ledger.specs.Totals.{total_in, total_over}
use Rattle.impulse_ledger.specs.declared.totals.Totals.{Totals}
use Rattle.islands.specs.Labels.{Labels}
use Rattle.islands.specs.Partition.{AreTogether}
use Rattle.plain_world.specs.Bodies.{AreBodies}
use Rattle.plain_world.specs.Momentum.{momentum}
use Rattle.plain_world.specs.Formed.{AreFiltered, HasFilter}
use Rattle.plain_world.specs.Plain.{Plain}
use Rattle.plain_world.specs.Slots.{body_at}
use Rattle.plain_world.specs.declared.body.Body.{Body}
use Rattle.world_file_base.specs.declared.clause.Clause.{Clause}
use Rattle.world_file_base.specs.declared.saved.Membership.{Membership}
use Rattle.shapes.specs.declared.shape.ShapeDef.{ShapeDef}
use Rattle.sleep_wake.specs.Acting.{AreMovers, IsConsistent, acting, links_of}
use Rattle.sleep_wake.proofs.ListLemmas.{link_in}
use Rattle.solver_sets.specs.Tied.{AreTied}
use Rattle.solver_sets.specs.Alike.{AreJointSlots}
use Rattle.solver_sets.specs.Ties as sets
use Rattle.solver_sets.specs.Ties.{slots_of}
use Rattle.solver_sets.proofs.ListLaws.{Rises, in_mapped, mapped_in, pairs_from_rises, rises_from_pairs}
use Rattle.solver_sets.proofs.TieLaws.{tie_number}
use Rattle.world_file.specs.Clauses.{first_broken}
use Rattle.world_file.specs.Files.{plain_of, read_of, read_unless}
use Rattle.world_file.specs.Fitting.{share_no_mover, are_joints_colourless, are_rising_after, colours_below, entry_read, ids_below, is_coloured_well, is_contact_colourless, is_contact_fitting, is_joint_fitting, is_tie_kept, joint_kept, label_of, members_among, membership_at, ties_read}
use Rattle.world_file.specs.Saved.{Saved, saved_in}
use Rattle.world_file.specs.declared.ties.Tie.{Tie}
use Rattle.world_rules.specs.Sets.{acting_of}
use Rattle.world_rules.specs.Sound.{AreSmall, AreTimers, IsSound}
use Rattle.world_rules.specs.Settled.{settled_world}
use Rattle.world_rules.specs.World.{book_of}
use Rattle.world_rules.proofs.LowerLaws.{lists_are_members, ties_have_labels, ties_rise}
use Rattle.world_rules.proofs.SoundLaws.{IsKept, sound_kept}
use Rattle.world_file.specs.Laws.{WhatIsReadIsSound}
use Rattle.world_file.proofs.ReadBodies.{IsSavedBody}
use Rattle.world_file.proofs.ReadParts.{AreFitting, HasParts, unbroken_is}
use Rattle.world_file.proofs.SavedColours.{IsTie, acting_is, colouring_is, ids_are, lists_are_ties, saved_lists}
use Rattle.world_file.proofs.SavedContacts.{IsFittingContact, contacts_of, contacts_rise, contacts_there, fitting_each, touching_each}
use Rattle.world_file.proofs.SavedIslands.{islands_are, tie_together, tied_is, told_is}
use Rattle.world_file.proofs.SavedJoints.{joints_are, kept_matched}
use Rattle.world_file.proofs.SavedTies.{ties_are}
use Rattle.world_file.proofs.ReadSlots.{AreBodySlots, OnBody, bodies_matched, joint_slot_entries_are, joints_matched, slot_is}
use Rattle.world_file.proofs.TieColours.{ties_coloured}
use Rattle.world_file.proofs.Tests.{all_pass, both_true, equal_z}

-- ---- what the tests of the whole tell, each for itself

record IsReferred (s : Saved) : Type 0 where
  joints : list_all (is_joint_fitting s.slot_entries) s.joints ≡ true
  contacts : list_all (is_contact_fitting s.bodies) s.contacts ≡ true
  rising : are_rising_after None s.contacts ≡ true

referred : (s : Saved) → AreFitting s → IsReferred s
referred s f =
    let a = both_true (list_all (is_joint_fitting s.slot_entries) s.joints) _ f.references in
    let b = both_true (list_all (is_contact_fitting s.bodies) s.contacts) (are_rising_after None s.contacts) a.1 in
    record { joints = a.0; contacts = b.0; rising = b.1 }

record IsColoured (s : Saved) : Type 0 where
  well : list_all (is_coloured_well s.memberships) (ties_read s) ≡ true
  apart : list_all share_no_mover (colours_below (ties_read s) COLOURS) ≡ true

coloured_is : (s : Saved) → AreFitting s → IsColoured s
coloured_is s f =
    let a = both_true (are_joints_colourless s.bodies 0 s.joint_entries s.joints) _ f.colours in
    let b = both_true (list_all (is_contact_colourless s.bodies) s.contacts) _ a.1 in
    let c = both_true (list_all (is_coloured_well s.memberships) (ties_read s)) (list_all share_no_mover (colours_below (ties_read s) COLOURS)) b.1 in
    record { well = c.0; apart = c.1 }

-- ---- the bodies

each_slot : (s : Saved) → HasParts s → (slot : ℕ) → OnBody (8 * s.steps) (body_at s.bodies slot) (membership_at s.memberships slot)
each_slot s h = slot_is (8 * s.steps) s.slot_entries s.bodies s.memberships h.bodies

body_by : (most : ℕ) (o : Option Body) (m : Membership) (b : Body) → OnBody most o m → o ≡ Some b → IsSavedBody most b m
body_by most None m b h e = absurd (none-some b e)
body_by most (Some a) m b h e = subst (λ (x : Body). IsSavedBody most x m) (same_Some a b e) h

pub body_in_slot : (s : Saved) → HasParts s → (slot : ℕ) (b : Body) → body_at s.bodies slot ≡ Some b → IsSavedBody (8 * s.steps) b (membership_at s.memberships slot)
body_in_slot s h slot b e = body_by (8 * s.steps) (body_at s.bodies slot) (membership_at s.memberships slot) b (each_slot s h slot) e

bodies_are : (s : Saved) → HasParts s → AreBodies s.bodies
bodies_are s h slot b e = (body_in_slot s h slot b (ap (λ (o : Option (Option Body)). option_flatten o) e)).body

filters_are : (s : Saved) → HasParts s → AreFiltered s.bodies
filters_are s h slot b e = all_from_each (λ (d : ShapeDef). HasFilter d.filter) b.shapes (body_in_slot s h slot b e).filters

each_slot_entry : (most : ℕ) (ps : List SlotEntry) (os : List (Option Body)) (ms : List Membership) → AreBodySlots most ps os ms → Each IsSlotEntry ps
each_slot_entry most [] os ms are = tt
each_slot_entry most (p ∷ ps) [] ms are = absurd are
each_slot_entry most (p ∷ ps) (o ∷ os) [] are = absurd are
each_slot_entry most (p ∷ ps) (o ∷ os) (m ∷ ms) are = (are.0.slot_entry, each_slot_entry most ps os ms are.1)

as_long : (most : ℕ) (ps : List SlotEntry) (os : List (Option Body)) (ms : List Membership) → AreBodySlots most ps os ms → length ms ≡ length os
as_long most [] [] [] are = refl
as_long most [] [] (m ∷ ms) are = absurd are
as_long most [] (o ∷ os) ms are = absurd are
as_long most (p ∷ ps) [] ms are = absurd are
as_long most (p ∷ ps) (o ∷ os) [] are = absurd are
as_long most (p ∷ ps) (o ∷ os) (m ∷ ms) are = ap (λ (n : ℕ). suc n) (as_long most ps os ms are.1)

slot_entries_are : (s : Saved) → HasParts s → All IsSlotEntry s.slot_entries
slot_entries_are s h = all_from_each IsSlotEntry s.slot_entries (each_slot_entry (8 * s.steps) s.slot_entries s.bodies s.memberships h.bodies)

timers_are : (s : Saved) → HasParts s → AreTimers s.steps s.bodies
timers_are s h slot b e = (body_in_slot s h slot b e).timer

-- ---- the ledger

pub plus_none : (z : ℤ) → z ≡ pos 0 +ℤ z
plus_none z = omega (arith, ints)

small_plus : (z : ℤ) (calls : ℕ) → unsigned_abs z ≤ 2 ^ 126 → unsigned_abs (pos 0 +ℤ z) ≤ 2 ^ 126 + calls * 2 ^ 83
small_plus z calls h = omega (arith, ints, h)

causes_small : (s : Saved) → HasParts s → AreSmall (2 ^ 126 + s.calls * 2 ^ 83) (book_of (settled_world (plain_of s) s.totals))
causes_small s h = record {
  x = λ cause. small_plus (total_in cause s.totals).x s.calls (h.totals cause).x;
  y = λ cause. small_plus (total_in cause s.totals).y s.calls (h.totals cause).y;
}

momentum_is : (s : Saved) → AreFitting s → ((momentum s.bodies).x ≡ (total_over s.totals).x) × ((momentum s.bodies).y ≡ (total_over s.totals).y)
momentum_is s f =
    let o = both_true (int_eq (momentum s.bodies).x (total_over s.totals).x) (int_eq (momentum s.bodies).y (total_over s.totals).y) f.momentum in
    (equal_z (momentum s.bodies).x (total_over s.totals).x o.0, equal_z (momentum s.bodies).y (total_over s.totals).y o.1)

-- ---- joints and contacts

abbrev slots : Saved → sets.JointSlots
slots s = slots_of s.joint_entries (map joint_kept s.joints)

abbrev entries : Saved → List ContactEntry
entries s = map (entry_read s.bodies) s.contacts

abbrev labels : Saved → Labels
labels s = map label_of s.memberships

joint_slots_are : (s : Saved) → HasParts s → AreJointSlots (slots s)
joint_slots_are s h = record { matched = kept_matched s.joint_entries s.joints (joints_matched s.joint_entries s.joints h.joints h.few_joints); slot_entries = joint_slot_entries_are s.joint_entries s.joints h.joints }

pub each_contact : (s : Saved) → HasParts s → AreFitting s → Each (IsFittingContact s.bodies) s.contacts
each_contact s h f = fitting_each s.bodies s.contacts h.contacts (referred s f).contacts

rising_is : (s : Saved) → AreFitting s → AreKeysRising (entries s)
rising_is s f = contacts_rise s.bodies s.contacts (referred s f).rising

-- ---- ties

ties_same : (s : Saved) → HasParts s → AreFitting s → members_among (ties_read s) ≡ sets.ties_of s.bodies (slots s) (entries s)
ties_same s h f = ties_are s (touching_each s.bodies s.contacts (each_contact s h f))

tied : (s : Saved) → HasParts s → AreTied s.bodies (labels s)
tied s h = tied_is (8 * s.steps) s.bodies s.memberships (each_slot s h)

movers_are : (s : Saved) → HasParts s → AreFitting s → (m : Member Constraint) → Contains (members_among (ties_read s)) m → AreMovers (labels s) m.movers
movers_are s h f m i = ties_have_labels s.bodies (slots s) (entries s) (labels s) m (tied s h) (subst (λ (ms : List (Member Constraint)). Contains ms m) (ties_same s h f) i)

each_tie : (s : Saved) → HasParts s → AreFitting s → (t : Tie) → IsIn t (ties_read s) → IsTie s.memberships t
each_tie s h f t i = record {
  movers = movers_are s h f t.member (contains_from_in (members_among (ties_read s)) t.member (mapped_in (λ (x : Tie). x.member) (ties_read s) t i));
  kept = all_pass (is_tie_kept s.memberships) (ties_read s) f.links t i;
  well = all_pass (is_coloured_well s.memberships) (ties_read s) (coloured_is s f).well t i;
  colour = ties_coloured s h t i;
}

links_inside : (s : Saved) → HasParts s → AreFitting s → (a b : ℕ) → Contains (links_of (members_among (ties_read s))) (a, b) → AreTogether (labels s) a b
links_inside s h f a b i =
    let o = link_in (members_among (ties_read s)) a b i in
    let made = in_mapped (λ (x : Tie). x.member) (ties_read s) o.0 (in_from_contains (members_among (ties_read s)) o.0 o.1) in
    let t : Tie = made.of in
    let is = each_tie s h f t made.there in
    let first : t.member.movers.first ≡ a = ap (λ (m : Member Constraint). m.movers.first) (sym made.is) ∙ o.2 in
    let second : t.member.movers.second ≡ Some b = ap (λ (m : Member Constraint). m.movers.second) (sym made.is) ∙ o.3 in
    subst (λ (k : ℕ). AreTogether (labels s) k b) first (tie_together s.memberships t b f.named is.kept is.movers second)

rises_are : (s : Saved) → HasParts s → AreFitting s → Rises tie_number (members_among (ties_read s))
rises_are s h f = rises_from_pairs tie_number (members_among (ties_read s)) (subst (λ (ms : List (Member Constraint)). AreRising constraint_number ms) (sym (ties_same s h f)) (ties_rise s.bodies (slots s) (entries s) (joint_slots_are s h) (rising_is s f)))

settled_ties : (s : Saved) → HasParts s → AreFitting s → IsConsistent constraint_number (acting (members_among (ties_read s)) (labels s) (saved_lists (ties_read s)))
settled_ties s h f = record {
  rising = pairs_from_rises tie_number (members_among (ties_read s)) (rises_are s h f);
  movers = movers_are s h f;
  islands = islands_are s.memberships (links_of (members_among (ties_read s))) f.named (links_inside s h f) f.whole;
  colouring = colouring_is (ties_read s) (rises_are s h f) (coloured_is s f).apart;
  acting = acting_is s.memberships (ties_read s) f.named (each_tie s h f);
}

lists_same : (s : Saved) → HasParts s → AreFitting s → sets.members_of s.bodies (slots s) (ids_below (ties_read s) (COLOURS + 1)) ≡ saved_lists (ties_read s)
lists_same s h f =
    ap (λ (ids : List (List Constraint)). sets.members_of s.bodies (slots s) ids) (sym (ids_are (ties_read s) (COLOURS + 1)))
    ∙ lists_are_members s.bodies (slots s) (entries s) (saved_lists (ties_read s)) (λ m i. subst (λ (ms : List (Member Constraint)). Contains ms m) (ties_same s h f) (lists_are_ties (ties_read s) m i))

moved_is : (s : Saved) → HasParts s → AreFitting s → ids_of (sets.members_of s.bodies (slots s) (ids_below (ties_read s) (COLOURS + 1))) ≡ ids_below (ties_read s) (COLOURS + 1)
moved_is s h f = ap (λ (lists : List (List (Member Constraint))). ids_of lists) (lists_same s h f) ∙ ids_are (ties_read s) (COLOURS + 1)

consistent_is : (s : Saved) → HasParts s → AreFitting s → IsConsistent constraint_number (acting_of (plain_of s))
unfolding acting_of
consistent_is s h f =
    subst (λ (lists : List (List (Member Constraint))). IsConsistent constraint_number (acting (sets.ties_of s.bodies (slots s) (entries s)) (labels s) lists)) (sym (lists_same s h f))
    (subst (λ (ms : List (Member Constraint)). IsConsistent constraint_number (acting ms (labels s) (saved_lists (ties_read s)))) (ties_same s h f) (settled_ties s h f))

-- ---- all of it

kept_is : (s : Saved) → HasParts s → AreFitting s → IsKept (settled_world (plain_of s) s.totals)
kept_is s h f =
    let momentum = momentum_is s f in
    let matched = bodies_matched (8 * s.steps) s.slot_entries s.bodies s.memberships h.bodies h.few_bodies in
    let slots = joint_slots_are s h in
    record {
      total_x = momentum.0 ∙ plus_none (total_over s.totals).x;
      total_y = momentum.1 ∙ plus_none (total_over s.totals).y;
      causes = causes_small s h;
      bodies = bodies_are s h;
      filters = filters_are s h;
      timers = timers_are s h;
      matched = matched;
      slot_entries = slot_entries_are s h;
      joint_slots = slots.matched;
      joint_entries = slots.slot_entries;
      joints = joints_are s.slot_entries s.bodies s.joint_entries s.joints matched h.joints (referred s f).joints;
      contacts = rising_is s f;
      pairs = contacts_of s.bodies s.contacts (each_contact s h f);
      there = contacts_there s.bodies s.contacts (each_contact s h f);
      consistent = consistent_is s h f;
      tied = tied s h;
      told = told_is (8 * s.steps) s.bodies s.memberships (each_slot s h);
      labels = length-map s.memberships label_of ∙ as_long (8 * s.steps) s.slot_entries s.bodies s.memberships h.bodies;
      moved = moved_is s h f;
      gravity = h.gravity;
      steps = h.steps;
      calls = h.calls;
    }

pub saved_is_sound : (s : Saved) → HasParts s → AreFitting s → IsSound (settled_world (plain_of s) s.totals)
saved_is_sound s h f = sound_kept (settled_world (plain_of s) s.totals) (kept_is s h f)

-- ---- of a value

abbrev plain_in : Result (Plain × Totals) Clause → Plain → Plain
plain_in (Ok x) other = x.0
plain_in (Err clause) other = other

abbrev totals_in : Result (Plain × Totals) Clause → Totals → Totals
totals_in (Ok x) other = x.1
totals_in (Err clause) other = other

record IsRead (o : Option Clause) (s : Saved) (p : Plain) (t : Totals) : Type 0 where
  unbroken : o ≡ None
  plain : plain_of s ≡ p
  totals : s.totals ≡ t

read_by : (o : Option Clause) (s : Saved) (p : Plain) (t : Totals) → read_unless o s ≡ Ok (p, t) → IsRead o s p t
read_by None s p t e = record {
  unbroken = refl;
  plain = ap (λ (r : Result (Plain × Totals) Clause). plain_in r p) e;
  totals = ap (λ (r : Result (Plain × Totals) Clause). totals_in r t) e;
}
read_by (Some clause) s p t e = cc

-- what is known of the parts of a value that is read
pub record HasRead (d : Data) (p : Plain) (t : Totals) : Type 0 where
  pub parts : HasParts (saved_in d)
  pub fitting : AreFitting (saved_in d)
  pub plain : plain_of (saved_in d) ≡ p
  pub totals : (saved_in d).totals ≡ t

pub has_read : (d : Data) (p : Plain) (t : Totals) → read_of d ≡ Ok (p, t) → HasRead d p t
unfolding read_of
has_read d p t e =
    let o = read_by (first_broken d) (saved_in d) p t e in
    let is = unbroken_is d o.unbroken in
    record { parts = is.parts; fitting = is.fitting; plain = o.plain; totals = o.totals }

pub what_is_read_is_sound : WhatIsReadIsSound
what_is_read_is_sound d p t e =
    let o = has_read d p t e in
    subst (λ (x : Totals). IsSound (settled_world p x)) o.totals
    (subst (λ (x : Plain). IsSound (settled_world x (saved_in d).totals)) o.plain (saved_is_sound (saved_in d) o.parts o.fitting))
