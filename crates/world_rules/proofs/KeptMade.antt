-- A body that is made keeps a world: no constraint changes, and a mover has an awake island of its own.
use Rattle.std.proofs.Common.{◌≡◌, ◌≢◌, ◌⊎◌, ℕ, zero, suc, ◌+◌, ◌-◌, ◌*◌, ◌<◌, ◌≤◌, ◌^◌, List, [], ◌∷◌, ◌++◌, length, Option, Some, None, All, Bool, true, false, cond, inl, inr, arith, refl, sym, ap, ◌∙◌, subst, is_some, nat_lt, eq-eqb, ne_eqb}
use Rattle.std.specs.Prelude.{◌||◌, if◌then◌else◌, slice_set}
use Rattle.std.specs.Option.{is_none, option_flatten}
use Rattle.std.proofs.lemmas.Int.{ints}
use Rattle.std.proofs.lemmas.Bool.{cases_eq}
use Rattle.std.proofs.lemmas.Grind.{common_steps}
use Rattle.std.proofs.lemmas.List.Elements.{All-push, All-set, All-weaker}
use Rattle.std.proofs.lemmas.Option.{same_Some}
use Rattle.fixed_geom.specs.Vectors.{zero_vector}
use Rattle.body_handles.specs.declared.slot_table.SlotEntry.{SlotEntry}
use Rattle.body_handles.specs.declared.slot_table.TheConstants.{MAX_SLOTS}
use Rattle.body_handles.specs.SlotEntries.{IsSlotEntry, generation_at, lowest}
use Rattle.body_handles.proofs.LowestLemmas.{lowest-le-length}
use Rattle.body_handles.proofs.TableLemmas.{IsSlotEntry-given}
use Rattle.contacts_base.specs.declared.contact.ContactEntry.{ContactEntry}
use Rattle.plain_world.specs.Constraints.{constraint_number}
use Rattle.plain_world.specs.declared.constraint.Constraint.{Constraint}
use Rattle.graph_colours.specs.Colours.{ids_of}
use Rattle.islands.specs.Labels.{label_at, padded, sleeping_name}
use Rattle.islands.specs.declared.label.Label.{Label}
use Rattle.islands.proofs.LabelLemmas.{added_here, added_other}
use Rattle.colour_solver.proofs.VectorLaws.{same_x, same_y}
use Rattle.plain_world.specs.declared.body.Body.{Body}
use Rattle.plain_world.specs.declared.body.BodyDef.{BodyDef}
use Rattle.plain_world.specs.declared.joint.BodyJoint.{BodyJoint}
use Rattle.plain_world.specs.Bodies.{IsBody, is_awake, is_mover, is_mover_in, made, moves}
use Rattle.plain_world.specs.Momentum.{momentum_in}
use Rattle.plain_world.specs.Formed.{HaveFilters}
use Rattle.plain_world.specs.Joints.{AreJoints}
use Rattle.plain_world.specs.Sleep.{told}
use Rattle.plain_world.specs.Slots.{body_at, shapes_in, with_body}
use Rattle.sleep_wake.specs.Acting.{Acting, IsConsistent}
use Rattle.sleep_wake.specs.Acting as acting
use Rattle.sleep_wake.specs.Bodies.{mover_made}
use Rattle.sleep_wake.specs.Widened.{widened}
use Rattle.islands.proofs.WideLemmas.{wide_at}
use Rattle.sleep_wake.proofs.LengthLemmas.{made_long, wide_long, wide_consistent}
use Rattle.solver_sets.specs.Tied.{AreTied}
use Rattle.solver_sets.specs.Alike.{IsBetweenEnabled}
use Rattle.solver_sets.specs.Ties.{is_enabled_in, members_of}
use Rattle.world_core_base.specs.ContactBodies.{AreContactsOf}
use Rattle.world_rules.specs.Apply.{body_made, counted, with_made}
use Rattle.world_rules.specs.Sets.{acting_of, body_come}
use Rattle.world_rules.specs.Sound.{AreTimers, AreTold, HasBodies}
use Rattle.world_rules.specs.World.{World, joints_in_slots}
use Rattle.world_rules.proofs.ActingLaws.{AreLists, IsActing, awake_label, awake_name}
use Rattle.world_rules.proofs.LowerLaws.{coming_keeps_ties, making_keeps, movers_come_and_go}
use Rattle.world_rules.proofs.ChangeLemmas.{set_case}
use Rattle.world_rules.proofs.KeptChanges.{counted_kept}
use Rattle.world_rules.proofs.KeptContacts.{MovesMore-with_body, contacts_of_more, has_bodies_with, joints_with}
use Rattle.world_rules.proofs.ShapeLaws.{filters_push, filters_set}
use Rattle.solver_sets.proofs.SlotLemmas.{AreMatched-push, AreMatched-set, lowest-free, none_if, slice_get-with, slice_get-with_own}
use Rattle.world_rules.proofs.SlotLemmas.{AreBodies-push, AreBodies-set, momentum-push, momentum-set}
use Rattle.world_rules.proofs.PutLaws.{IsPut, both_put}
use Rattle.world_rules.proofs.SoundLaws.{IsKept}
use Rattle.world_rules.proofs.ToldLaws.{NobodyFallsAsleep, told_stays}

-- the slot that a new body comes into is free
pub free_slot : (w : World) → IsKept w → body_at w.plain.bodies (lowest w.plain.slot_entries) ≡ None
free_slot w k = none_if (body_at w.plain.bodies (lowest w.plain.slot_entries)) (k.matched.taken (lowest w.plain.slot_entries) ∙ lowest-free w.plain.slot_entries)

-- it is one of those that there are, or the next one
free_below : (w : World) → IsKept w → lowest w.plain.slot_entries ≤ length w.plain.bodies
free_below w k = let same = k.matched.slots in let le = lowest-le-length w.plain.slot_entries in omega (arith, same, le)

-- ---- the lists with one body more

-- the joints and the contacts are of bodies that are there
record AreOf (bodies : List (Option Body)) (joints : List (Option BodyJoint)) (contacts : List ContactEntry) : Type 0 where
  joints_there : AreJoints bodies joints
  pairs : AreContactsOf bodies contacts
  there : All (HasBodies bodies) contacts

are_of : (w : World) (slot : ℕ) (b : Body) → IsKept w → body_at w.plain.bodies slot ≡ None → AreOf (with_body w.plain.bodies slot b) w.plain.joints w.plain.contacts
are_of w slot b k none = record {
  joints_there = joints_with w.plain.bodies slot b w.plain.joints none k.joints;
  pairs = contacts_of_more w.plain.bodies (with_body w.plain.bodies slot b) w.plain.contacts (MovesMore-with_body w.plain.bodies slot b none) k.pairs;
  there = has_bodies_with w.plain.bodies slot b w.plain.contacts none k.there;
}

push_case : (bodies : List (Option Body)) (c : Body) (k : ℕ) (d : Body) → body_at (bodies ++ Some c ∷ []) k ≡ Some d → ((k ≡ length bodies) × (c ≡ d)) ⊎ (body_at bodies k ≡ Some d)
push_case [] c zero d e = inl (refl, same_Some c d e)
push_case [] c (suc k) d e = inr e
push_case (a ∷ bs) c zero d e = inr e
push_case (a ∷ bs) c (suc k) d e = elim (push_case bs c k d e) [ inl p ↦ inl (ap suc p.0, p.1) | inr q ↦ inr q ]

case_by : (t : Bool) (bodies : List (Option Body)) (slot : ℕ) (c : Body) (k : ℕ) (d : Body) → (t ≡ false → slot ≡ length bodies) → body_at (cond t (slice_set bodies slot (Some c)) (bodies ++ Some c ∷ [])) k ≡ Some d → ((k ≡ slot) × (c ≡ d)) ⊎ (body_at bodies k ≡ Some d)
case_by true bodies slot c k d past e = set_case bodies slot c k d e
case_by false bodies slot c k d past e = elim (push_case bodies c k d e) [ inl p ↦ inl (p.0 ∙ sym (past refl), p.1) | inr q ↦ inr q ]

past_is : (slot n : ℕ) → slot ≤ n → nat_lt slot n ≡ false → slot ≡ n
past_is slot n le past = grind (arith, common_steps)

-- what is in a slot of the new list is the new body, or was there before
with_case : (bodies : List (Option Body)) (slot : ℕ) (c : Body) (k : ℕ) (d : Body) → slot ≤ length bodies → body_at (with_body bodies slot c) k ≡ Some d → ((k ≡ slot) × (c ≡ d)) ⊎ (body_at bodies k ≡ Some d)
with_case bodies slot c k d le e = case_by (nat_lt slot (length bodies)) bodies slot c k d (past_is slot (length bodies) le) e

timers_with : (bodies : List (Option Body)) (slot steps : ℕ) (c : Body) → slot ≤ length bodies → c.timer ≡ 0 → AreTimers steps bodies → AreTimers steps (with_body bodies slot c)
timers_with bodies slot steps c le fresh all k d e = elim (with_case bodies slot c k d le e) [
  | inl p ↦ subst (λ (x : Body). x.timer ≤ 8 * steps) p.1 (omega (arith, fresh))
  | inr there ↦ all k d there
]

-- a body that isn't in motion, for a slot that is free
pub record IsNew (b : Body) : Type 0 where
  pub body : IsBody b
  pub none : momentum_in (Some b) ≡ zero_vector
  pub timer : b.timer ≡ 0
  pub filters : HaveFilters b.shapes

lists_by : (t : Bool) (w : World) (slot : ℕ) (place : SlotEntry) (b : Body) → IsKept w → (t ≡ true → slot < length w.plain.bodies) → (t ≡ false → length w.plain.bodies < MAX_SLOTS) → place.live ≡ true → IsSlotEntry place → IsNew b → body_at w.plain.bodies slot ≡ None
    → AreTimers w.plain.steps (cond t (slice_set w.plain.bodies slot (Some b)) (w.plain.bodies ++ Some b ∷ [])) → AreOf (cond t (slice_set w.plain.bodies slot (Some b)) (w.plain.bodies ++ Some b ∷ [])) w.plain.joints w.plain.contacts
    → AreLists (record w { plain = record w.plain { slot_entries = (if t then slice_set w.plain.slot_entries slot place else w.plain.slot_entries ++ place ∷ []); bodies = cond t (slice_set w.plain.bodies slot (Some b)) (w.plain.bodies ++ Some b ∷ []) } })
lists_by true w slot place b s below past live given is none timers of =
    let set = momentum-set w.plain.bodies slot (Some b) (below refl) in
    let old : momentum_in (body_at w.plain.bodies slot) ≡ zero_vector = ap momentum_in none in
    record {
      total_x = let t = s.total_x in omega (arith, ints, same_x set, same_x old, same_x is.none, t);
      total_y = let t = s.total_y in omega (arith, ints, same_y set, same_y old, same_y is.none, t);
      causes = s.causes;
      bodies = AreBodies-set w.plain.bodies slot (Some b) s.bodies (λ c f. let same : b ≡ c = cc in subst IsBody same is.body);
      filters = filters_set w.plain.bodies slot (Some b) (λ c f. subst (λ (x : Body). HaveFilters x.shapes) (same_Some b c f) is.filters) s.filters;
      timers = timers;
      matched = AreMatched-set w.plain.slot_entries w.plain.bodies slot place (Some b) (sym live) s.matched;
      slot_entries = All-set IsSlotEntry w.plain.slot_entries slot place given s.slot_entries;
      joint_slots = s.joint_slots;
      joint_entries = s.joint_entries;
      joints = of.joints_there;
      contacts = s.contacts;
      pairs = of.pairs;
      there = of.there;
      gravity = s.gravity;
      steps = s.steps;
      calls = s.calls;
    }
lists_by false w slot place b s below past live given is none timers of =
    let push = momentum-push w.plain.bodies (Some b) in
    record {
      total_x = let t = s.total_x in omega (arith, ints, same_x push, same_x is.none, t);
      total_y = let t = s.total_y in omega (arith, ints, same_y push, same_y is.none, t);
      causes = s.causes;
      bodies = AreBodies-push w.plain.bodies (Some b) s.bodies (λ c f. let same : b ≡ c = cc in subst IsBody same is.body);
      filters = filters_push w.plain.bodies (Some b) (λ c f. subst (λ (x : Body). HaveFilters x.shapes) (same_Some b c f) is.filters) s.filters;
      timers = timers;
      matched = AreMatched-push w.plain.slot_entries w.plain.bodies place (Some b) (sym live) (past refl) s.matched;
      slot_entries = All-push IsSlotEntry w.plain.slot_entries place s.slot_entries given;
      joint_slots = s.joint_slots;
      joint_entries = s.joint_entries;
      joints = of.joints_there;
      contacts = s.contacts;
      pairs = of.pairs;
      there = of.there;
      gravity = s.gravity;
      steps = s.steps;
      calls = s.calls;
    }

made_lists : (w : World) (b : Body) → IsKept w → lowest w.plain.slot_entries < MAX_SLOTS → IsNew b → AreLists (record w { plain = with_made (lowest w.plain.slot_entries) b w.plain })
made_lists w b k free is =
    let slot = lowest w.plain.slot_entries in
    let none = free_slot w k in
    let le = free_below w k in
    let same = k.matched.slots in
    rw same (lists_by (nat_lt slot (length w.plain.bodies)) w slot (record { generation = generation_at w.plain.slot_entries slot; live = true }) b k
    (λ e. grind (arith, common_steps)) (λ e. let past : slot ≡ length w.plain.bodies = past_is slot (length w.plain.bodies) le e in omega arith) refl (IsSlotEntry-given w.plain.slot_entries k.slot_entries) is none
    (timers_with w.plain.bodies slot w.plain.steps b le is.timer k.timers) (are_of w slot b k none))

-- ---- the constraints, the islands and the colours

enabled_by : (e : Bool) (n i : ℕ) → i < cond e n 0 → e ≡ true
enabled_by true n i h = refl
enabled_by false n i h = absurd (omega arith)

shape_enabled : (o : Option Body) (i : ℕ) → i < shapes_in o → is_enabled_in o ≡ true
shape_enabled None i h = absurd (omega arith)
shape_enabled (Some b) i h = enabled_by b.enabled (length b.shapes) i h

-- the bodies of a contact are enabled
pub contacts_enabled : (bodies : List (Option Body)) (contacts : List ContactEntry) → All (HasBodies bodies) contacts → All (IsBetweenEnabled bodies) contacts
contacts_enabled bodies contacts all = All-weaker (HasBodies bodies) (IsBetweenEnabled bodies) (λ e h. record {
  first = shape_enabled (body_at bodies e.key.first.slot) e.key.first.index h.first_shape;
  second = shape_enabled (body_at bodies e.key.second.slot) e.key.second.index h.second_shape;
}) contacts all

own_body : (bodies : List (Option Body)) (slot : ℕ) (b : Body) → slot ≤ length bodies → body_at (with_body bodies slot b) slot ≡ Some b
own_body bodies slot b le = ap option_flatten (slice_get-with_own (nat_lt slot (length bodies)) bodies slot (Some b) (λ e. grind (arith, common_steps)) (past_is slot (length bodies) le))

other_body : (bodies : List (Option Body)) (slot k : ℕ) (b : Body) → slot ≤ length bodies → k ≢ slot → body_at (with_body bodies slot b) k ≡ body_at bodies k
other_body bodies slot k b le ne = ap option_flatten (slice_get-with (nat_lt slot (length bodies)) bodies slot k (Some b) (past_is slot (length bodies) le) ne)

pub come_ties : (m : Bool) (slot : ℕ) (s : Acting Constraint) → (cond m (mover_made slot s) s).ties ≡ s.ties
unfolding mover_made
come_ties true slot s = refl
come_ties false slot s = refl

pub come_consistent : (m : Bool) (slot : ℕ) (s : Acting Constraint) → IsConsistent constraint_number s → label_at s.labels slot ≡ None → IsConsistent constraint_number (cond m (mover_made slot s) s)
come_consistent true slot s consistent none = making_keeps s slot consistent none
come_consistent false slot s consistent none = consistent

pub come_long : (m : Bool) (slot : ℕ) (s : Acting Constraint) → slot < length s.labels → length (cond m (mover_made slot s) s).labels ≡ length s.labels
come_long true slot s lt = made_long slot s lt
come_long false slot s lt = refl

-- just the new one is a mover more, if it is one
pub come_here : (m : Bool) (slot : ℕ) (s : Acting Constraint) → label_at s.labels slot ≡ None → is_some (label_at (cond m (mover_made slot s) s).labels slot) ≡ m
come_here true slot s none = movers_come_and_go.made s slot slot ∙ ap (λ (t : Bool). t || is_some (label_at s.labels slot)) (eq-eqb slot slot refl)
come_here false slot s none = ap is_some none

pub come_beside : (m : Bool) (slot k : ℕ) (s : Acting Constraint) → k ≢ slot → is_some (label_at (cond m (mover_made slot s) s).labels k) ≡ is_some (label_at s.labels k)
come_beside true slot k s ne = movers_come_and_go.made s slot k ∙ ap (λ (t : Bool). t || is_some (label_at s.labels k)) (ne_eqb k slot ne)
come_beside false slot k s ne = refl

no_label : (o : Option Body) (l : Option Label) → o ≡ None → is_some l ≡ is_mover_in o → l ≡ None
no_label o l none e = none_if l (e ∙ ap is_mover_in none)

-- nobody has the label of a free slot
free_label : (w : World) → IsKept w → label_at w.plain.islands (lowest w.plain.slot_entries) ≡ None
free_label w k = no_label (body_at w.plain.bodies (lowest w.plain.slot_entries)) (label_at w.plain.islands (lowest w.plain.slot_entries)) (free_slot w k) (k.tied (lowest w.plain.slot_entries))

come_tied : (bodies : List (Option Body)) (slot : ℕ) (b : Body) (s : Acting Constraint) → slot ≤ length bodies → label_at s.labels slot ≡ None → AreTied bodies s.labels → AreTied (with_body bodies slot b) (body_come slot b s).labels
come_tied bodies slot b s le none tied k = elim (cases_eq k slot) [
  | inl e ↦ subst (λ (n : ℕ). is_some (label_at (body_come slot b s).labels n) ≡ moves (with_body bodies slot b) n) (sym e) (come_here (is_mover b) slot s none ∙ sym (ap is_mover_in (own_body bodies slot b le)))
  | inr ne ↦ come_beside (is_mover b) slot k s ne ∙ tied k ∙ sym (ap is_mover_in (other_body bodies slot k b le ne))
]

-- the labels with a new slot, if it is one
come_labels : (m : Bool) (slot n : ℕ) (s : Acting Constraint) → length s.labels ≡ n → length (padded (cond m (mover_made slot s) s).labels (slot + 1)) ≡ n + (slot + 1 - n)
unfolding mover_made
come_labels true slot n s e = wide_long true s.labels slot n e
come_labels false slot n s e = wide_long false s.labels slot n e

with_long : (t : Bool) (bodies : List (Option Body)) (slot : ℕ) (o : Option Body) → nat_lt slot (length bodies) ≡ t → slot ≤ length bodies → length (cond t (slice_set bodies slot o) (bodies ++ o ∷ [])) ≡ length bodies + (slot + 1 - length bodies)
with_long true bodies slot o e le = grind (arith, common_steps)
with_long false bodies slot o e le = grind (arith, common_steps)

come_acting : (w : World) (b : Body) → IsKept w → IsActing (with_made (lowest w.plain.slot_entries) b w.plain) (widened (lowest w.plain.slot_entries) (body_come (lowest w.plain.slot_entries) b (acting_of w.plain)))
unfolding acting_of
come_acting w b k =
    let slot = lowest w.plain.slot_entries in
    let s = acting_of w.plain in
    record {
      consistent = wide_consistent constraint_number slot (body_come slot b s) (come_consistent (is_mover b) slot s k.consistent (free_label w k));
      ties = come_ties (is_mover b) slot s
          ∙ sym (coming_keeps_ties w.plain.bodies (joints_in_slots w.plain) w.plain.contacts slot b (free_slot w k) (free_below w k) k.joints (contacts_enabled w.plain.bodies w.plain.contacts k.there));
      tied = λ n. ap (λ (o : Option Label). is_some o) (wide_at (body_come slot b s).labels (slot + 1) n) ∙ come_tied w.plain.bodies slot b s (free_below w k) (free_label w k) k.tied n;
      long = come_labels (is_mover b) slot (length w.plain.bodies) s k.labels ∙ sym (with_long (nat_lt slot (length w.plain.bodies)) w.plain.bodies slot (Some b) refl (free_below w k));
    }

-- ---- who is awake

pub come_own : (m : Bool) (slot : ℕ) (s : Acting Constraint) → m ≡ true → acting.is_mover_awake (cond m (mover_made slot s) s).labels slot ≡ true
unfolding mover_made
come_own true slot s e = ap acting.awake_label (added_here s.labels slot)
come_own false slot s e = cc

pub come_others : (m : Bool) (slot k : ℕ) (s : Acting Constraint) → k ≢ slot → acting.is_mover_awake s.labels k ≡ true → acting.is_mover_awake (cond m (mover_made slot s) s).labels k ≡ true
unfolding mover_made
come_others true slot k s ne h = ap acting.awake_label (added_other s.labels slot k ne) ∙ h
come_others false slot k s ne h = h

mover_of : (m : Bool) (a : Bool) → cond m a false ≡ true → m ≡ true
mover_of true a e = refl
mover_of false a e = cc

come_awake : (w : World) (b : Body) → IsKept w → NobodyFallsAsleep (with_body w.plain.bodies (lowest w.plain.slot_entries) b) (body_come (lowest w.plain.slot_entries) b (acting_of w.plain)).labels
unfolding acting_of
come_awake w b k n d at up =
    let slot = lowest w.plain.slot_entries in
    let s = acting_of w.plain in
    awake_name (label_at (body_come slot b s).labels n) (elim (with_case w.plain.bodies slot b n d (free_below w k) at) [
      | inl p ↦ subst (λ (j : ℕ). acting.is_mover_awake (body_come slot b s).labels j ≡ true) (sym p.0) (come_own (is_mover b) slot s (mover_of (is_mover b) (is_none b.asleep) (ap is_awake p.1 ∙ up)))
      | inr there ↦
          let apart : n ≢ slot = λ e. let none : body_at w.plain.bodies n ≡ None = ap (body_at w.plain.bodies) e ∙ free_slot w k in cc in
          come_others (is_mover b) slot n s apart (awake_label w.plain.bodies w.plain.islands n d k.tied k.told there up)
    ])

-- the same with the slot
wide_awake : (w : World) (b : Body) → IsKept w → NobodyFallsAsleep (with_body w.plain.bodies (lowest w.plain.slot_entries) b) (widened (lowest w.plain.slot_entries) (body_come (lowest w.plain.slot_entries) b (acting_of w.plain))).labels
wide_awake w b k n d at up =
    ap (λ (o : Option Label). sleeping_name o) (wide_at (body_come (lowest w.plain.slot_entries) b (acting_of w.plain)).labels (lowest w.plain.slot_entries + 1) n) ∙ come_awake w b k n d at up

-- ---- CreateBody

-- a new body comes
pub body_made_put : (w : World) (b : Body) → IsKept w → lowest w.plain.slot_entries < MAX_SLOTS → IsNew b → IsPut (record w { plain = with_made (lowest w.plain.slot_entries) b w.plain }) (widened (lowest w.plain.slot_entries) (body_come (lowest w.plain.slot_entries) b (acting_of w.plain)))
body_made_put w b k free is = both_put (record w { plain = with_made (lowest w.plain.slot_entries) b w.plain }) (widened (lowest w.plain.slot_entries) (body_come (lowest w.plain.slot_entries) b (acting_of w.plain))) (made_lists w b k free is) (come_acting w b k) (wide_awake w b k)

pub body_made_kept : (w : World) (b : Body) → IsKept w → lowest w.plain.slot_entries < MAX_SLOTS → IsNew b → IsKept (record w { plain = body_made (lowest w.plain.slot_entries) b w.plain })
body_made_kept w b k free is = (body_made_put w b k free is).kept

resting_part : (m : Bool) → cond m zero_vector zero_vector ≡ zero_vector
resting_part true = refl
resting_part false = refl

pub made_new : (d : BodyDef) → IsBody (made d) → HaveFilters d.shapes → IsNew (made d)
made_new d is filters = record { body = is; none = resting_part (is_mover (made d)); timer = refl; filters = filters }

pub create_kept : (w : World) (d : BodyDef) → IsKept w → w.plain.calls < 2 ^ 40 → lowest w.plain.slot_entries < MAX_SLOTS → IsBody (made d) → HaveFilters d.shapes
    → IsKept (record w { plain = counted (body_made (lowest w.plain.slot_entries) (made d) w.plain) })
create_kept w d k few free is filters = counted_kept (record w { plain = body_made (lowest w.plain.slot_entries) (made d) w.plain }) (body_made_kept w (made d) k free (made_new d is filters)) few

-- ---- the bodies are told already

come_name : (w : World) (b : Body) (n : ℕ) → n ≢ lowest w.plain.slot_entries → label_at (body_come (lowest w.plain.slot_entries) b (acting_of w.plain)).labels n ≡ label_at w.plain.islands n
unfolding acting_of mover_made
come_name w b n ne = by (is_mover b)
  where
    by : (m : Bool) → label_at (cond m (mover_made (lowest w.plain.slot_entries) (acting_of w.plain)) (acting_of w.plain)).labels n ≡ label_at w.plain.islands n
    by true = added_other w.plain.islands (lowest w.plain.slot_entries) n ne
    by false = refl

own_name : (w : World) (b : Body) → IsKept w → sleeping_name (label_at (body_come (lowest w.plain.slot_entries) b (acting_of w.plain)).labels (lowest w.plain.slot_entries)) ≡ None
unfolding acting_of mover_made
own_name w b k = by (is_mover b)
  where
    by : (m : Bool) → sleeping_name (label_at (cond m (mover_made (lowest w.plain.slot_entries) (acting_of w.plain)) (acting_of w.plain)).labels (lowest w.plain.slot_entries)) ≡ None
    by true = ap sleeping_name (added_here w.plain.islands (lowest w.plain.slot_entries))
    by false = ap sleeping_name (free_label w k)

-- all with a new one that is awake
come_told : (w : World) (b : Body) → IsKept w → b.asleep ≡ None → AreTold (with_body w.plain.bodies (lowest w.plain.slot_entries) b) (body_come (lowest w.plain.slot_entries) b (acting_of w.plain)).labels
come_told w b k up n d at =
    let slot = lowest w.plain.slot_entries in
    let labels = (body_come slot b (acting_of w.plain)).labels in
    elim (with_case w.plain.bodies slot b n d (free_below w k) at) [
      | inl p ↦ sym (ap (λ (x : Body). x.asleep) p.1) ∙ up ∙ sym (own_name w b k) ∙ ap (λ (j : ℕ). sleeping_name (label_at labels j)) (sym p.0)
      | inr there ↦
          let apart : n ≢ slot = λ e. let none : body_at w.plain.bodies n ≡ None = ap (body_at w.plain.bodies) e ∙ free_slot w k in cc in
          k.told n d there ∙ ap sleeping_name (sym (come_name w b n apart))
    ]

come_lists : (w : World) (b : Body) → IsKept w → (body_come (lowest w.plain.slot_entries) b (acting_of w.plain)).lists ≡ members_of w.plain.bodies (joints_in_slots w.plain) w.plain.colours
unfolding acting_of mover_made
come_lists w b k = by (is_mover b)
  where
    by : (m : Bool) → (cond m (mover_made (lowest w.plain.slot_entries) (acting_of w.plain)) (acting_of w.plain)).lists ≡ members_of w.plain.bodies (joints_in_slots w.plain) w.plain.colours
    by true = refl
    by false = refl

wide_told : (w : World) (b : Body) → IsKept w → b.asleep ≡ None → AreTold (with_body w.plain.bodies (lowest w.plain.slot_entries) b) (widened (lowest w.plain.slot_entries) (body_come (lowest w.plain.slot_entries) b (acting_of w.plain))).labels
wide_told w b k up n d at =
    come_told w b k up n d at ∙ ap (λ (o : Option Label). sleeping_name o) (sym (wide_at (body_come (lowest w.plain.slot_entries) b (acting_of w.plain)).labels (lowest w.plain.slot_entries + 1) n))

-- A new body that is awake leaves the other bodies and the colours as they are.
pub body_made_is : (w : World) (b : Body) → IsKept w → lowest w.plain.slot_entries < MAX_SLOTS → IsNew b → b.asleep ≡ None
    → body_made (lowest w.plain.slot_entries) b w.plain ≡ record (with_made (lowest w.plain.slot_entries) b w.plain) { islands = (widened (lowest w.plain.slot_entries) (body_come (lowest w.plain.slot_entries) b (acting_of w.plain))).labels }
body_made_is w b k free is up =
    let slot = lowest w.plain.slot_entries in
    let s = widened slot (body_come slot b (acting_of w.plain)) in
    let bodies : told s.labels (with_body w.plain.bodies slot b) ≡ with_body w.plain.bodies slot b = told_stays s.labels (with_body w.plain.bodies slot b) (made_lists w b k free is).bodies (wide_told w b k up) in
    let colours : ids_of s.lists ≡ w.plain.colours = ap ids_of (come_lists w b k) ∙ k.moved in
    λ j. record (with_made slot b w.plain) { bodies = bodies j; islands = s.labels; colours = colours j }
