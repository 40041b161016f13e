-- The parts that are written of a sound world fit together, and make that world again.
use Rattle.std.proofs.Common.{◌≡◌, Bool, true, false, List, [], ◌∷◌, map, Option, None, Contains, ℤ, int_eq, refl, sym, ap, ap₂, ◌∙◌, subst}
use Rattle.std.specs.List.{list_all}
use Rattle.std.proofs.lemmas.Bool.Decides.{Decides-int_eq}
use Rattle.contacts_base.proofs.Members.{Each, IsIn, contains_from_in, in_from_contains}
use Rattle.plain_world.specs.Constraints.{constraint_number}
use Rattle.plain_world.specs.declared.constraint.Constraint.{Constraint}
use Rattle.plain_world.specs.declared.constraint.Constraint.TheVariants.{Contact}
use Rattle.contacts_base.specs.declared.contact.ContactEntry.{ContactEntry}
use Rattle.graph_colours.specs.Colours.{all_members}
use Rattle.graph_colours.specs.Members.{AreRising}
use Rattle.graph_colours.specs.declared.limits.TheConstants.{COLOURS}
use Rattle.graph_colours.specs.declared.member.Member.{Member}
use Rattle.impulse_ledger.specs.Totals.{total_over}
use Rattle.impulse_ledger.proofs.SumLemmas.{over_causes-total_of, same_x, same_y}
use Rattle.islands.specs.Links.{Linked}
use Rattle.islands.specs.Partition.{AreIslands}
use Rattle.plain_world.specs.Momentum.{momentum}
use Rattle.plain_world.specs.Plain.{colour_of}
use Rattle.plain_world.specs.declared.joint.BodyJoint.{BodyJoint}
use Rattle.world_file_base.specs.Asks.{asked, no_asks}
use Rattle.world_file_base.specs.declared.clause.Clause.{Clause}
use Rattle.world_file_base.specs.declared.clause.Clause.TheVariants.{Colours, Islands, Links, Memberships, Momentum, References}
use Rattle.world_file_base.specs.declared.reader.Reader.{Reader}
use Rattle.sleep_wake.specs.Acting.{IsConsistent, acting, links_of}
use Rattle.sleep_wake.proofs.AwakeLemmas.{tie_together}
use Rattle.solver_sets.specs.Alike.{AreJointSlots}
use Rattle.solver_sets.specs.Ties as sets
use Rattle.solver_sets.specs.Ties.{Bond, joint_bonds}
use Rattle.solver_sets.proofs.ListLaws.{mapped_in, rises_from_pairs}
use Rattle.solver_sets.proofs.TieLaws.{tie_number}
use Rattle.world_file.specs.Files.{plain_of}
use Rattle.world_file.specs.Fitting.{share_no_mover, are_joints_colourless, are_named_well, are_rising_after, are_whole, colours_below, colours_keep, components_of, entry_read, is_coloured_well, is_contact_colourless, is_contact_fitting, is_joint_fitting, is_tie_kept, joint_kept, members_among, momentum_keeps, references_keep, ties_read}
use Rattle.world_file.specs.AskedParts.{fitting_asks}
use Rattle.world_file.specs.Saved.{Saved}
use Rattle.world_file.specs.declared.ties.Tie.{Tie}
use Rattle.world_rules.specs.Sets.{acting_of}
use Rattle.world_core_base.specs.ContactBodies.{IsContactOf}
use Rattle.world_rules.specs.Sound.{HasBodies, IsSound}
use Rattle.world_rules.specs.World.{World, book_of, joints_in_slots}
use Rattle.world_file.specs.Again.{saved_contact, saved_of}
use Rattle.world_file.specs.Laws.{WhatIsWrittenFits, totals_of_world}
use Rattle.world_file.proofs.AgainColours.{AreActing, AreGiven, apart_again, colours_again, contact_lone, contacts_colourless, joint_lone, joints_colourless, lone, ties_named, touching_tie, well_again}
use Rattle.world_file.proofs.AgainIslands.{named_again, tie_kept, whole_again}
use Rattle.world_file.proofs.AgainParts.{both_hold, contacts_again, contacts_fit, each_from_all, each_pass, joints_again, joints_fit, keys_rise, labels_again}
use Rattle.world_file.proofs.FirstBroken.{found_unfit}
use Rattle.world_file.proofs.ReadParts.{AreFitting}
use Rattle.world_file.proofs.SavedTies.{DoesTouch, ties_are}

-- ---- what is asked of what holds

asked_holds : (b : Bool) (c : Clause) (r : Reader) → b ≡ true → asked b c r ≡ r
asked_holds true c r e = refl
asked_holds false c r e = cc

pub fitting_holds : (s : Saved) → AreFitting s → (r : Reader) → fitting_asks s r ≡ r
fitting_holds s f r =
    asked_holds (momentum_keeps s) Momentum _ f.momentum
    ∙ asked_holds (colours_keep s) Colours _ f.colours
    ∙ asked_holds (are_whole (components_of s.memberships (links_of (members_among (ties_read s)))) 0 s.memberships) Islands _ f.whole
    ∙ asked_holds (list_all (is_tie_kept s.memberships) (ties_read s)) Links _ f.links
    ∙ asked_holds (are_named_well s.memberships 0 s.memberships) Memberships _ f.named
    ∙ asked_holds (references_keep s) References r f.references

-- ---- what is written of a world

abbrev saved : World → Saved
saved w = saved_of w.plain (totals_of_world w)

abbrev ties : World → List Tie
ties w = ties_read (saved w)

abbrev pub world_ties : World → List (Member Constraint)
world_ties w = sets.ties_of w.plain.bodies (joints_in_slots w.plain) w.plain.contacts

abbrev pub lists : World → List (List (Member Constraint))
lists w = sets.members_of w.plain.bodies (joints_in_slots w.plain) w.plain.colours

joint_slots : (w : World) → IsSound w → AreJointSlots (joints_in_slots w.plain)
joint_slots w h = record { matched = h.formed.joint_slots; slot_entries = h.formed.joint_entries }

all_joints : (w : World) → IsSound w → map joint_kept (saved w).joints ≡ w.plain.joints
all_joints w h = joints_again w.plain.slot_entries w.plain.colours 0 w.plain.joint_entries w.plain.joints h.formed.joint_slots.slots

all_contacts : (w : World) → IsSound w → map (entry_read w.plain.bodies) (saved w).contacts ≡ w.plain.contacts
all_contacts w h = contacts_again w.plain.bodies w.plain.colours w.plain.contacts (each_from_all (HasBodies w.plain.bodies) w.plain.contacts h.formed.there)

does_touch : (colours : List (List Constraint)) (es : List ContactEntry) → Each DoesTouch (map (saved_contact colours) es)
does_touch colours [] = tt
does_touch colours (e ∷ es) = (refl, does_touch colours es)

ties_same : (w : World) → IsSound w → members_among (ties w) ≡ world_ties w
ties_same w h =
    ties_are (saved w) (does_touch w.plain.colours w.plain.contacts)
    ∙ ap₂ (λ (js : List (Option BodyJoint)) (es : List ContactEntry). sets.ties_of w.plain.bodies (sets.slots_of w.plain.joint_entries js) es) (all_joints w h) (all_contacts w h)

pub is_consistent : (w : World) → IsSound w → IsConsistent constraint_number (acting (world_ties w) w.plain.islands (lists w))
unfolding acting_of
is_consistent w h = h.promises.consistent

to_world : (w : World) → IsSound w → (m : Member Constraint) → IsIn m (members_among (ties w)) → Contains (world_ties w) m
to_world w h m i = contains_from_in (world_ties w) m (subst (λ (ms : List (Member Constraint)). IsIn m ms) (ties_same w h) i)

from_world : (w : World) → IsSound w → (m : Member Constraint) → Contains (world_ties w) m → IsIn m (members_among (ties w))
from_world w h m i = subst (λ (ms : List (Member Constraint)). IsIn m ms) (sym (ties_same w h)) (in_from_contains (world_ties w) m i)

given : (w : World) → IsSound w → AreGiven (ties w) (lists w) w.plain.colours
given w h = record {
  named = ties_named w.plain.bodies w.plain.slot_entries w.plain.colours w.plain.joint_entries w.plain.joints w.plain.contacts;
  ids = h.formed.moved;
  colouring = (is_consistent w h).colouring;
  rises = rises_from_pairs tie_number (members_among (ties w)) (subst (λ (ms : List (Member Constraint)). AreRising constraint_number ms) (sym (ties_same w h)) (is_consistent w h).rising);
  there = λ m i. from_world w h m (((is_consistent w h).acting m).0 (contains_from_in (all_members (lists w)) m i)).0;
}

acts : (w : World) → IsSound w → AreActing (ties w) (lists w) w.plain.islands
acts w h = record {
  movers = λ m i. (is_consistent w h).movers m (to_world w h m i);
  together = λ m b i e. tie_together constraint_number (acting (world_ties w) w.plain.islands (lists w)) m b (is_consistent w h) (to_world w h m i) e;
  awake = λ m i. (((is_consistent w h).acting m).0 (contains_from_in (all_members (lists w)) m i)).1;
  acting = λ m i awake. in_from_contains (all_members (lists w)) m (((is_consistent w h).acting m).1 (to_world w h m i, awake));
}

tie_there : (w : World) (t : Tie) → IsIn t (ties w) → IsIn t.member (members_among (ties w))
tie_there w t i = mapped_in (λ (x : Tie). x.member) (ties w) t i

-- ---- each clause

references : (w : World) → IsSound w → references_keep (saved w) ≡ true
references w h =
    both_hold (list_all (is_joint_fitting w.plain.slot_entries) (saved w).joints) _ (joints_fit w.plain.slot_entries w.plain.bodies w.plain.colours 0 w.plain.joint_entries w.plain.joints h.formed.matched h.formed.joints)
    (both_hold (list_all (is_contact_fitting w.plain.bodies) (saved w).contacts) (are_rising_after None (saved w).contacts)
    (contacts_fit w.plain.bodies w.plain.colours w.plain.contacts (each_from_all (IsContactOf w.plain.bodies) w.plain.contacts h.formed.pairs) (each_from_all (HasBodies w.plain.bodies) w.plain.contacts h.formed.there))
    (keys_rise w.plain.colours w.plain.contacts h.formed.contacts))

links : (w : World) → IsSound w → list_all (is_tie_kept (saved w).memberships) (ties w) ≡ true
links w h = each_pass (is_tie_kept (saved w).memberships) (ties w) (λ t i. tie_kept w.plain.islands t (λ b e. (acts w h).together t.member b (tie_there w t i) e))

islands_linked : (w : World) → IsSound w → AreIslands (Linked (links_of (members_among (ties w)))) w.plain.islands
islands_linked w h = subst (λ (ms : List (Member Constraint)). AreIslands (Linked (links_of ms)) w.plain.islands) (sym (ties_same w h)) (is_consistent w h).islands

wholes : (w : World) → IsSound w → are_whole (components_of (saved w).memberships (links_of (members_among (ties w)))) 0 (saved w).memberships ≡ true
wholes w h = whole_again w.plain.islands (links_of (members_among (ties w))) (islands_linked w h)

joint_none : (w : World) → IsSound w → (b : Bond) → IsIn b (joint_bonds (joints_in_slots w.plain)) → sets.tie_of w.plain.bodies b ≡ None → colour_of b.id w.plain.colours ≡ None
joint_none w h b i e = lone (ties w) (lists w) w.plain.colours (given w h) b.id (λ x k. joint_lone w.plain.bodies (joints_in_slots w.plain) w.plain.contacts (joint_slots w h) h.formed.contacts b i e x (in_from_contains (world_ties w) x (to_world w h x k)))

contact_none : (w : World) → IsSound w → (c : ContactEntry) → IsIn c w.plain.contacts → touching_tie w.plain.bodies c ≡ None → colour_of (Contact c.key) w.plain.colours ≡ None
contact_none w h c i e = lone (ties w) (lists w) w.plain.colours (given w h) (Contact c.key) (λ x k. contact_lone w.plain.bodies (joints_in_slots w.plain) w.plain.contacts (joint_slots w h) h.formed.contacts c i e x (in_from_contains (world_ties w) x (to_world w h x k)))

colours : (w : World) → IsSound w → colours_keep (saved w) ≡ true
colours w h =
    both_hold (are_joints_colourless w.plain.bodies 0 w.plain.joint_entries (saved w).joints) _ (joints_colourless w.plain.bodies w.plain.slot_entries w.plain.colours 0 w.plain.joint_entries w.plain.joints (joint_none w h))
    (both_hold (list_all (is_contact_colourless w.plain.bodies) (saved w).contacts) _ (contacts_colourless w.plain.bodies w.plain.colours w.plain.contacts (contact_none w h))
    (both_hold (list_all (is_coloured_well (saved w).memberships) (ties w)) (list_all share_no_mover (colours_below (ties w) COLOURS))
    (each_pass (is_coloured_well (saved w).memberships) (ties w) (well_again (ties w) (lists w) w.plain.colours w.plain.islands (given w h) (acts w h)))
    (apart_again (ties w) (lists w) w.plain.colours (given w h))))

equal_is : (a b : ℤ) → a ≡ b → int_eq a b ≡ true
equal_is a b e = (Decides-int_eq a b).1 e

momentum_again : (w : World) → IsSound w → momentum_keeps (saved w) ≡ true
momentum_again w h =
    both_hold (int_eq (momentum w.plain.bodies).x (total_over (totals_of_world w)).x) (int_eq (momentum w.plain.bodies).y (total_over (totals_of_world w)).y)
    (equal_is (momentum w.plain.bodies).x (total_over (totals_of_world w)).x (h.promises.total_x ∙ sym (same_x (over_causes-total_of (book_of w)))))
    (equal_is (momentum w.plain.bodies).y (total_over (totals_of_world w)).y (h.promises.total_y ∙ sym (same_y (over_causes-total_of (book_of w)))))

pub fits : (w : World) → IsSound w → AreFitting (saved w)
fits w h = record {
  references = references w h;
  named = named_again w.plain.islands (is_consistent w h).islands.partition;
  links = links w h;
  whole = wholes w h;
  colours = colours w h;
  momentum = momentum_again w h;
}

plain_again : (w : World) → IsSound w → plain_of (saved w) ≡ w.plain
plain_again w h = λ i. record {
  slot_entries = w.plain.slot_entries;
  bodies = w.plain.bodies;
  joint_entries = w.plain.joint_entries;
  joints = all_joints w h i;
  contacts = all_contacts w h i;
  islands = labels_again w.plain.islands i;
  colours = colours_again (ties w) (lists w) w.plain.colours (given w h) i;
  gravity = w.plain.gravity;
  steps = w.plain.steps;
  calls = w.plain.calls;
}

pub what_is_written_fits : WhatIsWrittenFits
what_is_written_fits w h = record {
  plain = plain_again w h;
  fit = sym (found_unfit (saved w)) ∙ ap (λ (r : Reader). r.broken) (fitting_holds (saved w) (fits w h) no_asks);
}
