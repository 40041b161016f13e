-- A world stays kept where a body is enabled.
use Rattle.std.proofs.Common.{◌≡◌, ◌≢◌, ◌⊎◌, ℕ, ◌*◌, ◌<◌, ◌≤◌, ◌^◌, Bool, true, false, cond, List, length, Option, Some, None, is_some, All, inl, inr, refl, sym, ap, ap₂, ◌∙◌, subst, arith}
use Rattle.std.specs.Prelude.{Contains, option_map, slice_set}
use Rattle.std.specs.Option.{is_none}
use Rattle.fixed_geom.specs.Vectors.{zero_vector}
use Rattle.fixed_geom.specs.declared.vectors.Vec2.{Vec2}
use Rattle.graph_colours.specs.FoundMembers.{has_id}
use Rattle.std.proofs.lemmas.Bool.{cases_eq, false≢true}
use Rattle.std.proofs.lemmas.Int.{ints}
use Rattle.std.proofs.lemmas.List.{length-set}
use Rattle.std.proofs.lemmas.Option.{same_Some}
use Rattle.body_handles.specs.declared.handle.Handle.{Handle}
use Rattle.graph_colours.specs.declared.member.Member.{Member}
use Rattle.graph_colours.proofs.Cases.{by_test, true_or_false}
use Rattle.graph_colours.proofs.PlaceLemmas.{not_same}
use Rattle.contacts_base.specs.declared.contact.ContactEntry.{ContactEntry}
use Rattle.plain_world.specs.Constraints.{constraint_number}
use Rattle.plain_world.specs.declared.constraint.Constraint.{Constraint}
use Rattle.islands.specs.declared.label.Label.{Label}
use Rattle.islands.specs.Labels.{Labels, label_at, sleeping_name}
use Rattle.colour_solver.proofs.VectorLaws.{same_vector, same_x, same_y}
use Rattle.plain_world.specs.declared.body.Body.{Body}
use Rattle.plain_world.specs.Bodies.{IsBody, is_mover, is_mover_in, moves}
use Rattle.plain_world.specs.Momentum.{momentum_in}
use Rattle.plain_world.specs.Bodies as bodies
use Rattle.plain_world.specs.Changes.{enabled_body}
use Rattle.plain_world.specs.Formed.{HaveFilters, mixed_of, shape_of_body}
use Rattle.plain_world.specs.Kinds.{is_dynamic}
use Rattle.plain_world.specs.Plain.{Plain}
use Rattle.plain_world.specs.Sleep.{told_body, told_by}
use Rattle.plain_world.specs.Slots.{body_at, shapes_in}
use Rattle.sleep_wake.specs.Acting.{Acting, IsConsistent, are_awake, is_mover_awake}
use Rattle.sleep_wake.specs.Changes.{each_begun}
use Rattle.sleep_wake.specs.ChangeLists.{CanBegin, each_inserted}
use Rattle.solver_sets.specs.Beside.{joined_to}
use Rattle.solver_sets.specs.Tied.{AreTied}
use Rattle.solver_sets.specs.Alike.{AreAlike, AreAlikeBeside, IsBetweenEnabled}
use Rattle.solver_sets.specs.Ties.{is_enabled, is_enabled_in, joint_ties_at, ties_of}
use Rattle.world_core_base.specs.ContactBodies.{IsContactOf}
use Rattle.world_rules.specs.Apply.{counted, enabled}
use Rattle.world_rules.specs.Sets.{acting_of, body_come, with_acting, with_woken}
use Rattle.world_rules.specs.Sound.{HasBodies}
use Rattle.world_rules.specs.World.{World, body_named, joints_in_slots}
use Rattle.world_rules.proofs.ActingLaws.{AreLists, IsWoken, waking_kept}
use Rattle.world_rules.proofs.LowerLaws.{enabling_adds_ties}
use Rattle.world_rules.proofs.AwakeLaws.{both_awake, named_awake, others_stay}
use Rattle.world_rules.proofs.BesideLaws.{alike_beside, joints_taken, matched_beside, own_item, taken_beside, tied_beside, timers_beside}
use Rattle.world_rules.proofs.EnableLaws.{IsMoverOf, joints_among, joints_move}
use Rattle.world_rules.proofs.JoinLaws.{IsNext, next_begun}
use Rattle.world_rules.proofs.KeptChanges.{IsThere, counted_kept, named_at, still_there}
use Rattle.world_rules.proofs.KeptMade.{come_beside, come_here, come_long, come_others, come_own, come_consistent, come_ties, contacts_enabled}
use Rattle.world_rules.proofs.ShapeLaws.{filters_set}
use Rattle.solver_sets.proofs.SlotLemmas.{below_length, item_at-set_other, none_if}
use Rattle.world_rules.proofs.SlotLemmas.{AreBodies-set, body_at-in, momentum-set}
use Rattle.world_rules.proofs.PutLaws.{IsPut, both_put}
use Rattle.world_rules.proofs.SoundLaws.{IsKept}
use Rattle.world_rules.proofs.StirLaws.{joint_slots_of}

-- ---- the body

disabled_rests : (b : Body) → b.enabled ≡ false → is_mover b ≡ false
disabled_rests b off = rw off refl

disabled_sleeps : (b : Body) → b.enabled ≡ false → bodies.is_awake b ≡ false
disabled_sleeps b off = rw off refl

-- who isn't a mover isn't told
told_still : (o : Option Label) (b : Body) → is_mover b ≡ false → told_body o b ≡ b
told_still o b still = by (is_mover b) still
  where
    by : (t : Bool) → t ≡ false → cond t (told_by (sleeping_name o) b) b ≡ b
    by true e = absurd (false≢true (sym e))
    by false e = refl

pub enabled_is : (b : Body) → IsBody b → b.enabled ≡ false → IsBody (enabled_body b)
enabled_is b is off = let still = is.rest (disabled_sleeps b off) in record {
  mass = is.mass;
  motion = is.motion;
  rest = λ e. record { x = still.x; y = still.y; l = still.l };
  asleep = λ e. refl;
  course = is.course;
  halted = λ e. absurd (false≢true (sym e));
  shapes = is.shapes;
  forms = is.forms;
  fats = is.fats;
}

part_zero : (t : Bool) (v : Vec2) → v ≡ zero_vector → cond t v zero_vector ≡ zero_vector
part_zero true v e = e
part_zero false v e = refl

timer_le : (t : Bool) (n m : ℕ) → n ≤ m → cond t 0 n ≤ m
timer_le true n m h = omega arith
timer_le false n m h = h

-- a disabled body is as it was once islands were woken
pub seen_disabled : (w : World) (slots : List ℕ) (slot : ℕ) (b : Body) → IsKept w → body_at w.plain.bodies slot ≡ Some b → b.enabled ≡ false → body_at (with_woken w.plain slots).bodies slot ≡ Some b
seen_disabled w slots slot b k at off = let there : IsThere w slots slot b = still_there w slots slot b k at in there.at ∙ ap Some (told_still there.label b (disabled_rests b off))

-- ---- the lists

-- no contact is of a body that isn't enabled
far_from : (bodies : List (Option Body)) (slot k : ℕ) → is_enabled bodies slot ≡ false → is_enabled bodies k ≡ true → k ≢ slot
far_from bodies slot k off on e = true_or_false (is_enabled bodies k) on (ap (is_enabled bodies) e ∙ off)

-- the contact has its two bodies, which are enabled
record IsBoth (bodies : List (Option Body)) (e : ContactEntry) : Type 0 where
  of : IsContactOf bodies e
  has : HasBodies bodies e
  enabled : IsBetweenEnabled bodies e

contact_stays : (bodies : List (Option Body)) (slot : ℕ) (o : Option Body) (e : ContactEntry) → is_enabled bodies slot ≡ false → IsBetweenEnabled bodies e → IsContactOf bodies e → IsContactOf (slice_set bodies slot o) e
contact_stays bodies slot o e off on is =
    let long : length (slice_set bodies slot o) ≡ length bodies = length-set bodies slot o in
    let a = is.first in
    let b = is.second in
    record {
      first = omega (arith, long, a);
      second = omega (arith, long, b);
      apart = is.apart;
      mover = elim is.mover [
        | inl m ↦ inl (ap is_mover_in (item_at-set_other bodies slot o e.key.first.slot (far_from bodies slot e.key.first.slot off on.first)) ∙ m)
        | inr m ↦ inr (ap is_mover_in (item_at-set_other bodies slot o e.key.second.slot (far_from bodies slot e.key.second.slot off on.second)) ∙ m)
      ];
      contact = is.contact;
    }

bodies_stay : (bodies : List (Option Body)) (slot : ℕ) (o : Option Body) (e : ContactEntry) → is_enabled bodies slot ≡ false → IsBetweenEnabled bodies e → HasBodies bodies e → HasBodies (slice_set bodies slot o) e
bodies_stay bodies slot o e off on h =
    let a = item_at-set_other bodies slot o e.key.first.slot (far_from bodies slot e.key.first.slot off on.first) in
    let b = item_at-set_other bodies slot o e.key.second.slot (far_from bodies slot e.key.second.slot off on.second) in
    record {
      first = ap is_some a ∙ h.first;
      second = ap is_some b ∙ h.second;
      first_shape = rw (ap shapes_in a) h.first_shape;
      second_shape = rw (ap shapes_in b) h.second_shape;
      order = h.order;
      surface = h.surface ∙ sym (ap₂ (λ (x y : Option Body). mixed_of (shape_of_body x e.key.first.index) (shape_of_body y e.key.second.index)) a b);
      named = h.named;
      points = h.points;
    }

all_of : (P Q R : ContactEntry → Type 0) (es : List ContactEntry) → ((e : ContactEntry) → P e → Q e → R e) → All P es → All Q es → All R es
all_of P Q R es f p q = λ k d lt. f _ (p k d lt) (q k d lt)

-- a body that was disabled takes part
part_lists : (w : World) (slot : ℕ) (b : Body) → IsKept w → body_at w.plain.bodies slot ≡ Some b → b.enabled ≡ false → AreLists (record w { plain = record w.plain { bodies = slice_set w.plain.bodies slot (Some (enabled_body b)) } })
part_lists w slot b k at off =
    let old = w.plain.bodies in
    let c : Body = enabled_body b in
    let lt : slot < length old = below_length old slot b at in
    let is : IsBody b = k.bodies slot b (body_at-in old slot b at) in
    let still = is.rest (disabled_sleeps b off) in
    let none : b.motion.p ≡ zero_vector = same_vector b.motion.p zero_vector still.x still.y in
    let set = momentum-set old slot (Some c) lt in
    let was : momentum_in (body_at old slot) ≡ zero_vector = ap momentum_in at ∙ part_zero (is_mover b) b.motion.p none in
    let now : momentum_in (Some c) ≡ zero_vector = part_zero (is_mover c) b.motion.p none in
    let without : is_enabled old slot ≡ false = ap is_enabled_in at ∙ off in
    let between = contacts_enabled old w.plain.contacts k.there in
    record {
      total_x = let t = k.total_x in omega (arith, ints, same_x set, same_x was, same_x now, t);
      total_y = let t = k.total_y in omega (arith, ints, same_y set, same_y was, same_y now, t);
      causes = k.causes;
      bodies = AreBodies-set old slot (Some c) k.bodies (λ d e. subst IsBody (same_Some c d e) (enabled_is b is off));
      filters = filters_set old slot (Some c) (λ d e. subst (λ (a : Body). HaveFilters a.shapes) (same_Some c d e) (k.filters slot b at)) k.filters;
      timers = timers_beside w.plain.steps old slot (Some c) lt (λ d e. subst (λ (a : Body). a.timer ≤ 8 * w.plain.steps) (same_Some c d e) (timer_le (is_dynamic b.kind) b.timer (8 * w.plain.steps) (k.timers slot b at))) k.timers;
      matched = matched_beside w.plain.slot_entries old slot b c at k.matched;
      slot_entries = k.slot_entries;
      joint_slots = k.joint_slots;
      joint_entries = k.joint_entries;
      joints = joints_taken old (slice_set old slot (Some c)) w.plain.joints (taken_beside old slot b c at) k.joints;
      contacts = k.contacts;
      pairs = all_of (IsBetweenEnabled old) (IsContactOf old) (IsContactOf (slice_set old slot (Some c))) w.plain.contacts (λ e on h. contact_stays old slot (Some c) e without on h) between k.pairs;
      there = all_of (IsBetweenEnabled old) (HasBodies old) (HasBodies (slice_set old slot (Some c))) w.plain.contacts (λ e on h. bodies_stay old slot (Some c) e without on h) between k.there;
      gravity = k.gravity;
      steps = k.steps;
      calls = k.calls;
    }

-- ---- what acts

-- the slots are alike before and after, apart from the one of the body
alike_through : (slot : ℕ) (old now new : List (Option Body)) → AreAlike old now → AreAlikeBeside slot now new → AreAlikeBeside slot old new
alike_through slot old now new h f = record { enabled = λ k far. f.enabled k far ∙ h.enabled k; movers = λ k far. f.movers k far ∙ h.movers k }

movers_up : (labels : Labels) (m : Member Constraint) → ((k : ℕ) → IsMoverOf m.movers k → is_mover_awake labels k ≡ true) → are_awake labels m.movers ≡ true
movers_up labels m f = both_awake labels m.movers.first m.movers.second (f m.movers.first (inl refl)) (λ b e. f b (inr e))

-- a body before its joints begin
pub come_label : (w : World) (slot : ℕ) (b : Body) → IsKept w → body_at w.plain.bodies slot ≡ Some b → b.enabled ≡ false → label_at w.plain.islands slot ≡ None
come_label w slot b k at off = none_if (label_at w.plain.islands slot) (k.tied slot ∙ ap is_mover_in at ∙ disabled_rests b off)

-- who was awake is, and the body is if it is a mover
record IsUp (w : World) (slot : ℕ) (c : Body) (labels : Labels) : Type 0 where
  own : is_mover c ≡ true → is_mover_awake labels slot ≡ true
  others : (k : ℕ) → k ≢ slot → is_mover_awake w.plain.islands k ≡ true → is_mover_awake labels k ≡ true

come_up : (w : World) (slot : ℕ) (c : Body) → IsUp w slot c (body_come slot c (acting_of w.plain)).labels
unfolding acting_of
come_up w slot c = record { own = λ e. come_own (is_mover c) slot (acting_of w.plain) e; others = λ k far up. come_others (is_mover c) slot k (acting_of w.plain) far up }

-- a mover of one of its joints is awake
joined_up : (w : World) (slot k : ℕ) (new : List (Option Body)) (labels : Labels) (c : Body) → IsKept w → AreAlikeBeside slot w.plain.bodies new → body_at new slot ≡ Some c
    → IsUp (record w { plain = with_woken w.plain (joined_to w.plain.bodies w.plain.joints slot) }) slot c labels → moves new k ≡ true → (k ≡ slot) ⊎ Contains (joined_to w.plain.bodies w.plain.joints slot) k → is_mover_awake labels k ≡ true
joined_up w slot k new labels c kept alike at up moving of = elim (cases_eq k slot) [
  | inl e ↦ ap (is_mover_awake labels) e ∙ up.own (sym (ap is_mover_in at) ∙ sym (ap (moves new) e) ∙ moving)
  | inr far ↦ elim of [
    | inl e ↦ absurd (far e)
    | inr h ↦ up.others k far (named_awake w (joined_to w.plain.bodies w.plain.joints slot) k kept h (sym (alike.movers k (not_same slot k (λ e. far (sym e)))) ∙ moving))
  ]
]

abbrev pub up_acting : World → ℕ → Body → Acting Constraint
up_acting w slot c = body_come slot c (acting_of (with_woken w.plain (joined_to w.plain.bodies w.plain.joints slot)))

abbrev pub up_bodies : World → ℕ → Option Body → List (Option Body)
up_bodies w slot o = slice_set (with_woken w.plain (joined_to w.plain.bodies w.plain.joints slot)).bodies slot o

abbrev pub up_plain : World → ℕ → Option Body → Plain
up_plain w slot o = record (with_woken w.plain (joined_to w.plain.bodies w.plain.joints slot)) { bodies = up_bodies w slot o }

-- what is known of the joints of a body that is enabled, before they begin
pub record CanStart (w : World) (slot : ℕ) (c : Body) : Type 0 where
  pub consistent : IsConsistent constraint_number (up_acting w slot c)
  pub tied : AreTied (up_bodies w slot (Some c)) (up_acting w slot c).labels
  pub long : length (up_acting w slot c).labels ≡ length (up_bodies w slot (Some c))
  pub can : CanBegin constraint_number (joint_ties_at slot (up_bodies w slot (Some c)) (joints_in_slots w.plain)) (up_acting w slot c)
  pub ties : ties_of (up_bodies w slot (Some c)) (joints_in_slots w.plain) w.plain.contacts ≡ each_inserted constraint_number (joint_ties_at slot (up_bodies w slot (Some c)) (joints_in_slots w.plain)) (up_acting w slot c).ties

pub can_start : (w : World) (slot : ℕ) (b : Body) → IsKept w → body_at (with_woken w.plain (joined_to w.plain.bodies w.plain.joints slot)).bodies slot ≡ Some b → b.enabled ≡ false → CanStart w slot (enabled_body b)
unfolding acting_of
can_start w slot b k at off =
    let slots : List ℕ = joined_to w.plain.bodies w.plain.joints slot in
    let wk : IsWoken w slots = waking_kept w slots k in
    let v : World = record w { plain = with_woken w.plain slots } in
    let old : List (Option Body) = v.plain.bodies in
    let c : Body = enabled_body b in
    let new : List (Option Body) = slice_set old slot (Some c) in
    let lt : slot < length old = below_length old slot b at in
    let s : Acting Constraint = body_come slot c (acting_of v.plain) in
    let none : label_at v.plain.islands slot ≡ None = come_label v slot b wk.kept at off in
    let alike : AreAlikeBeside slot w.plain.bodies new = alike_through slot w.plain.bodies old new wk.alike (alike_beside old slot (Some c)) in
    let taken = enabling_adds_ties slot old new (joints_in_slots v.plain) v.plain.contacts (joint_slots_of v wk.kept) wk.kept.contacts (alike_beside old slot (Some c)) (ap is_enabled_in at ∙ off) (contacts_enabled old v.plain.contacts wk.kept.there) in
    let same : s.ties ≡ (acting_of v.plain).ties = come_ties (is_mover c) slot (acting_of v.plain) in
    let up : IsUp v slot c s.labels = come_up v slot c in
    let ms : List (Member Constraint) = joint_ties_at slot new (joints_in_slots v.plain) in
    record {
      consistent = come_consistent (is_mover c) slot (acting_of v.plain) wk.kept.consistent none;
      tied = tied_beside old slot (Some c) v.plain.islands s.labels lt wk.kept.tied (come_here (is_mover c) slot (acting_of v.plain) none) (λ j far. come_beside (is_mover c) slot j (acting_of v.plain) far);
      long = come_long (is_mover c) slot (acting_of v.plain) (subst (λ (n : ℕ). slot < n) (sym wk.kept.labels) lt) ∙ wk.kept.labels ∙ sym (length-set old slot (Some c));
      can = record {
        rising = taken.rising;
        fresh = λ m h. subst (λ (ties : List (Member Constraint)). has_id constraint_number m.id ties ≡ false) (sym same) (taken.fresh m h);
        awake = λ m h. movers_up s.labels m (λ j is. joined_up w slot j new s.labels c k alike (own_item old slot (Some c) lt) up (joints_move slot new (joints_in_slots v.plain) m j h is) (joints_among slot w.plain.bodies new (joints_in_slots v.plain) m alike h j is));
      };
      ties = taken.ties ∙ ap (each_inserted constraint_number ms) (sym same);
    }

up_next : (w : World) (slot : ℕ) (b : Body) → IsKept w → body_at (with_woken w.plain (joined_to w.plain.bodies w.plain.joints slot)).bodies slot ≡ Some b → b.enabled ≡ false
    → IsNext (up_plain w slot (Some (enabled_body b))) (up_acting w slot (enabled_body b)) (each_begun constraint_number (joint_ties_at slot (up_bodies w slot (Some (enabled_body b))) (joints_in_slots w.plain)) (up_acting w slot (enabled_body b)))
up_next w slot b k at off =
    let c : Body = enabled_body b in
    let start : CanStart w slot c = can_start w slot b k at off in
    next_begun (up_plain w slot (Some c)) (up_acting w slot c) (joint_ties_at slot (up_bodies w slot (Some c)) (joints_in_slots w.plain)) start.consistent start.tied start.long start.can start.ties

-- ---- Enable

abbrev pub enabled_acting : World → ℕ → Body → Option Body → Acting Constraint
enabled_acting w slot c o = each_begun constraint_number (joint_ties_at slot (up_bodies w slot o) (joints_in_slots w.plain)) (up_acting w slot c)

abbrev enabled_with : World → ℕ → Body → Option Body → World
enabled_with w slot c o = record w { plain = with_acting (enabled_acting w slot c o) (up_plain w slot o) }

mover_of : (m a : Bool) → cond m a false ≡ true → m ≡ true
mover_of true a e = refl
mover_of false a e = absurd (false≢true e)

pub up_put : (w : World) (slot : ℕ) (b : Body) → IsKept w → body_at (with_woken w.plain (joined_to w.plain.bodies w.plain.joints slot)).bodies slot ≡ Some b → b.enabled ≡ false → IsPut (record w { plain = up_plain w slot (Some (enabled_body b)) }) (enabled_acting w slot (enabled_body b) (Some (enabled_body b)))
up_put w slot b k at off =
    let slots : List ℕ = joined_to w.plain.bodies w.plain.joints slot in
    let wk : IsWoken w slots = waking_kept w slots k in
    let v : World = record w { plain = with_woken w.plain slots } in
    let c : Body = enabled_body b in
    let s : Acting Constraint = each_begun constraint_number (joint_ties_at slot (up_bodies w slot (Some c)) (joints_in_slots w.plain)) (up_acting w slot c) in
    let next = up_next w slot b k at off in
    let up : IsUp v slot c (up_acting w slot c).labels = come_up v slot c in
    both_put (record w { plain = up_plain w slot (Some c) }) s (part_lists v slot b wk.kept at off) next.acting
    (others_stay v slot (Some c) s.labels wk.kept (λ j far h. next.awake j (up.others j far h)) (λ d e h. next.awake slot (up.own (mover_of (is_mover c) (is_none c.asleep) (ap bodies.is_awake (same_Some c d e) ∙ h)))))

pub enable_kept : (w : World) (h : Handle) (b : Body) → IsKept w → w.plain.calls < 2 ^ 40 → body_named w.plain h ≡ Some b → IsKept (record w { plain = counted (enabled w.plain h b) })
enable_kept w h b k few named =
    let slots : List ℕ = joined_to w.plain.bodies w.plain.joints h.slot in
    by_test (λ (p : Plain). IsKept (record w { plain = counted p })) b.enabled w.plain (enabled_with w h.slot (enabled_body b) (option_map enabled_body (body_at (with_woken w.plain slots).bodies h.slot))).plain
    (λ on. counted_kept w k few)
    (λ off.
    let at : body_at (with_woken w.plain slots).bodies h.slot ≡ Some b = seen_disabled w slots h.slot b k (named_at w.plain h b named) off in
    let kept = (up_put w h.slot b k at off).kept in
    counted_kept (enabled_with w h.slot (enabled_body b) (option_map enabled_body (body_at (with_woken w.plain slots).bodies h.slot)))
    (subst (λ (o : Option Body). IsKept (enabled_with w h.slot (enabled_body b) o)) (sym (ap (option_map enabled_body) at)) kept) few)
