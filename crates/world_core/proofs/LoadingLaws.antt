-- What is known of the plain lists of a sound world, of which a world is made.
use Rattle.std.proofs.Common.{◌≡◌, ℕ, ℤ, pos, ◌+◌, ◌+ℤ◌, ◌<◌, ◌≤◌, ◌^◌, ◌&&◌, Bool, true, false, cond, nat_le, int_le, unsigned_abs, List, [], length, Option, Some, None, arith, refl, sym, ◌∙◌, subst}
use Rattle.std.specs.Prelude.{slice_index_or}
use Rattle.std.proofs.lemmas.Int.{ints}
use Rattle.std.proofs.lemmas.List.{length-map}
use Rattle.std.proofs.lemmas.List.Elements.{All-weaker}
use Rattle.body_handles.specs.declared.slot_table.SlotEntry.{SlotEntry}
use Rattle.contacts.specs.declared.number_book.NumberedContact.{NumberedContact}
use Rattle.plain_world.specs.Constraints.{constraint_number}
use Rattle.plain_world.specs.declared.constraint.Constraint.{Constraint}
use Rattle.contacts.proofs.SurfaceLemmas.{mixed_small}
use Rattle.contacts_base.specs.ContactLists.{AreContacts}
use Rattle.contacts_base.specs.Surfaces.{IsSurface, mixed}
use Rattle.contacts_base.specs.declared.contact.ContactEntry.{ContactEntry}
use Rattle.contacts_base.specs.declared.limits.TheConstants.{MAX_FRICTION, MAX_RESTITUTION}
use Rattle.contacts_base.specs.declared.surface.Surface.{Surface}
use Rattle.event_feed.specs.Events.{EventLists, no_events}
use Rattle.fixed_geom.specs.declared.vectors.Vec2.{Vec2}
use Rattle.graph_colours.specs.Colours.{all_members, ids_of}
use Rattle.graph_colours.specs.declared.limits.TheConstants.{COLOURS}
use Rattle.graph_colours.specs.declared.member.Member.{Member}
use Rattle.impulse_ledger.specs.Given.{AreTotalsWithin}
use Rattle.impulse_ledger.specs.Totals.{total_in, total_over}
use Rattle.impulse_ledger.specs.declared.entry.Entry.{Entry}
use Rattle.impulse_ledger.specs.declared.totals.Totals.{Totals}
use Rattle.islands.specs.Labels.{Labels}
use Rattle.plain_world.specs.Formed.{is_surface, mixed_of, no_surface, shape_with_id, surface_of}
use Rattle.plain_world.specs.Plain.{Plain}
use Rattle.plain_world.specs.declared.body.Body.{Body}
use Rattle.plain_world.specs.declared.joint.BodyJoint.{BodyJoint}
use Rattle.world_file.proofs.Tests.{at_most, at_most_z, both_true}
use Rattle.shapes.specs.declared.shape.ShapeDef.{ShapeDef}
use Rattle.sleep_wake.specs.Acting.{Acting, IsConsistent, acting}
use Rattle.sleep_wake.proofs.StandLemmas.{fewer_coloured}
use Rattle.solver_sets.specs.Ties.{Lists, members_of, ties_of}
use Rattle.world_rules.proofs.KeptChanges.{IsRoomy-kept}
use Rattle.world_rules.proofs.SoundLaws.{kept_sound}
use Rattle.world_rules.specs.Settled.{settled_world}
use Rattle.world_rules.specs.Sets.{acting_of}
use Rattle.world_rules.specs.Sound.{HasBodies, IsSound}
use Rattle.world_rules.specs.World.{World, joints_in_slots}
use Rattle.world_core_base.specs.Sleeping.{Sleeping}
use Rattle.world_core_base.specs.Asleep.{AreContactSets, AreJointSets}
use Rattle.world_core.specs.Inside.{IsWhole, IsWorldCore}
use Rattle.world_core.proofs.CoreLaws.{core_all}

-- ---- the ledger

without_entries : (z : ℤ) (n m : ℕ) → n ≤ m → unsigned_abs (pos 0 +ℤ z) ≤ n → unsigned_abs z ≤ m
without_entries z n m le h = omega (arith, ints, le, h)

-- the totals are within their ranges
pub totals_within : (p : Plain) (t : Totals) → IsSound (settled_world p t) → AreTotalsWithin t
totals_within p t sound =
    let roomy = IsRoomy-kept (settled_world p t) 0 (kept_sound (settled_world p t) sound) in
    record {
      x = without_entries (total_over t).x (2 ^ 100) (2 ^ 126) (omega arith) roomy.x;
      y = without_entries (total_over t).y (2 ^ 100) (2 ^ 126) (omega arith) roomy.y;
      causes_x = λ cause. without_entries (total_in cause t).x (2 ^ 126 + 2 ^ 123) (2 ^ 126 + 2 ^ 124) (omega arith) (roomy.causes.x cause);
      causes_y = λ cause. without_entries (total_in cause t).y (2 ^ 126 + 2 ^ 123) (2 ^ 126 + 2 ^ 124) (omega arith) (roomy.causes.y cause);
    }

-- ---- the constraints

-- there is a list for each colour, and one for the overflow
pub colours_there : (p : Plain) → IsConsistent constraint_number (acting_of p) → length p.colours ≡ COLOURS + 1
unfolding acting_of members_of
colours_there p consistent = sym (length-map p.colours _) ∙ consistent.colouring.count

-- what acts, of its three parts
pub acting_by : (p : Plain) (ties : List (Member Constraint)) (labels : Labels) (lists : Lists) → ties ≡ ties_of p.bodies (joints_in_slots p) p.contacts → labels ≡ p.islands → lists ≡ members_of p.bodies (joints_in_slots p) p.colours → acting ties labels lists ≡ acting_of p
unfolding acting_of
acting_by p ties labels lists e f g = λ j. acting (e j) (f j) (g j)

-- no more constraints have a colour than there are
pub few_members : (p : Plain) (ties : List (Member Constraint)) (lists : Lists) → IsConsistent constraint_number (acting_of p) → ties ≡ ties_of p.bodies (joints_in_slots p) p.contacts → lists ≡ members_of p.bodies (joints_in_slots p) p.colours → length ties < 2 ^ 64
    → length (all_members lists) < 2 ^ 64
few_members p ties lists consistent e g few =
    let same = acting_by p ties p.islands lists e refl g in
    let fewer : length (all_members lists) ≤ length ties = fewer_coloured constraint_number (acting ties p.islands lists) (subst (IsConsistent constraint_number) (sym same) consistent) in
    omega (arith, fewer, few)

-- ---- the contacts

surface_is : (s : Surface) → is_surface s ≡ true → IsSurface s
surface_is s e =
    let both = both_true (int_le (pos 0) s.friction && nat_le (unsigned_abs s.friction) MAX_FRICTION) _ e in
    let rubs = both_true (int_le (pos 0) s.friction) (nat_le (unsigned_abs s.friction) MAX_FRICTION) both.0 in
    let bounces = both_true (int_le (pos 0) s.restitution) (nat_le (unsigned_abs s.restitution) MAX_RESTITUTION) both.1 in
    record {
      friction = at_most_z (pos 0) s.friction rubs.0;
      friction_small = at_most _ _ rubs.1;
      restitution = at_most_z (pos 0) s.restitution bounces.0;
      restitution_small = at_most _ _ bounces.1;
    }

no_surface_is : IsSurface no_surface
no_surface_is = record { friction = omega (arith, ints); friction_small = omega arith; restitution = omega (arith, ints); restitution_small = omega arith }

mixed_by : (a b : Surface) (t : Bool) → (is_surface a && is_surface b) ≡ t → IsSurface (cond t (mixed a b) no_surface)
mixed_by a b true e = let both = both_true (is_surface a) (is_surface b) e in mixed_small a b (surface_is a both.0) (surface_is b both.1)
mixed_by a b false e = no_surface_is

mixed_is : (first second : Option ShapeDef) → IsSurface (mixed_of first second)
mixed_is None second = no_surface_is
mixed_is (Some first) None = no_surface_is
mixed_is (Some first) (Some second) = mixed_by (surface_of first) (surface_of second) (is_surface (surface_of first) && is_surface (surface_of second)) refl

-- each contact has what the surfaces of its two shapes mix to
pub contacts_are : (p : Plain) (t : Totals) → IsSound (settled_world p t) → AreContacts p.contacts
contacts_are p t sound = record {
  rising = sound.formed.contacts;
  surfaces = All-weaker (HasBodies p.bodies) (λ (e : ContactEntry). IsSurface e.surface) (λ e has. subst IsSurface (sym has.surface) (mixed_is (shape_with_id p.bodies e.key.first) (shape_with_id p.bodies e.key.second))) p.contacts sound.formed.there;
}

-- ---- the world

-- of what a world is made
pub record Parts : Type 0 where
  pub slot_entries : List SlotEntry
  pub bodies : List (Option Body)
  pub joint_entries : List SlotEntry
  pub joints : List (Option BodyJoint)
  pub contacts : List ContactEntry
  pub acts : Acting Constraint
  pub gravity : Vec2
  pub steps : ℕ
  pub calls : ℕ
  pub entries : List Entry
  pub settled : Totals
  pub events : EventLists

abbrev pub world_by : Parts → World
world_by x = record {
  plain = record { slot_entries = x.slot_entries; bodies = x.bodies; joint_entries = x.joint_entries; joints = x.joints; contacts = x.contacts; islands = x.acts.labels; colours = ids_of x.acts.lists; gravity = x.gravity; steps = x.steps; calls = x.calls };
  entries = x.entries;
  settled = x.settled;
  events = x.events;
}

-- these are the parts of the plain lists, with these totals
pub record ArePartsOf (p : Plain) (t : Totals) (x : Parts) : Type 0 where
  pub places_are : x.slot_entries ≡ p.slot_entries
  pub bodies_are : x.bodies ≡ p.bodies
  pub joint_places_are : x.joint_entries ≡ p.joint_entries
  pub joints_are : x.joints ≡ p.joints
  pub contacts_are : x.contacts ≡ p.contacts
  pub acts_are : x.acts ≡ acting_of p
  pub gravity_is : x.gravity ≡ p.gravity
  pub steps_are : x.steps ≡ p.steps
  pub calls_are : x.calls ≡ p.calls
  pub no_entries : x.entries ≡ []
  pub settled_are : x.settled ≡ t
  pub events_are : x.events ≡ no_events

-- what acts has the labels and the colours of the plain lists
acting_same : (p : Plain) (t : Totals) → IsSound (settled_world p t) → record (settled_world p t) { plain = record p { islands = (acting_of p).labels; colours = ids_of (acting_of p).lists } } ≡ settled_world p t
unfolding acting_of
acting_same p t sound = λ j. settled_world (record p { colours = sound.formed.moved j }) t

pub made_same : (p : Plain) (t : Totals) (x : Parts) → IsSound (settled_world p t) → ArePartsOf p t x → world_by x ≡ settled_world p t
made_same p t x sound e =
    (λ j. world_by (record {
      slot_entries = e.places_are j;
      bodies = e.bodies_are j;
      joint_entries = e.joint_places_are j;
      joints = e.joints_are j;
      contacts = e.contacts_are j;
      acts = e.acts_are j;
      gravity = e.gravity_is j;
      steps = e.steps_are j;
      calls = e.calls_are j;
      entries = e.no_entries j;
      settled = e.settled_are j;
      events = e.events_are j;
    }))
    ∙ acting_same p t sound

made_whole : (p : Plain) (t : Totals) (x : Parts) → IsSound (settled_world p t) → ArePartsOf p t x → IsWhole (world_by x) x.acts
made_whole p t x sound e =
    let is : IsWhole (settled_world p t) (acting_of p) = record { sound = sound; same = refl } in
    let acts : IsWhole (settled_world p t) x.acts = subst (λ (s : Acting Constraint). IsWhole (settled_world p t) s) (sym e.acts_are) is in
    subst (λ (w : World). IsWhole w x.acts) (sym (made_same p t x sound e)) acts

-- with all its bodies marked
pub made_core : (p : Plain) (t : Totals) (x : Parts) (marks : List Bool) → IsSound (settled_world p t) → ArePartsOf p t x → ((slot : ℕ) → slice_index_or marks slot true ≡ true) → (js : Sleeping) → AreJointSets x.bodies x.joints js → (numbered : List (Option NumberedContact)) (cs : Sleeping) → AreContactSets x.bodies numbered cs
    → IsWorldCore (world_by x) x.acts marks js numbered cs
made_core p t x marks sound e all js stand numbered cs hold = core_all (world_by x) x.acts marks (made_whole p t x sound e) all js stand numbered cs hold
