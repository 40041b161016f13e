-- A world stays kept where a body is destroyed, and where one is disabled.
use Rattle.std.proofs.Common.{◌≡◌, ℕ, ◌+◌, ◌*◌, ◌<◌, ◌≤◌, ◌^◌, All, Bool, true, false, cond, List, ◌++◌, length, Option, Some, None, refl, sym, ap, ◌∙◌, subst, arith}
use Rattle.std.specs.Prelude.{option_map, slice_set}
use Rattle.std.specs.Option.{is_none}
use Rattle.std.proofs.lemmas.Bool.{false≢true}
use Rattle.std.proofs.lemmas.Int.{ints}
use Rattle.std.proofs.lemmas.Option.{none-some, same_Some}
use Rattle.fixed_geom.specs.Vectors.{IsWithin, opposite, zero_vector}
use Rattle.fixed_geom.specs.declared.vectors.Vec2.{Vec2}
use Rattle.body_handles.specs.declared.handle.Handle.{Handle}
use Rattle.body_handles.specs.declared.slot_table.SlotEntry.{SlotEntry}
use Rattle.body_handles.specs.SlotEntries.{IsSlotEntry, slot_entries_without}
use Rattle.impulse_ledger.specs.declared.entry.Cause.TheVariants as causes
use Rattle.islands.specs.declared.label.Label.{Label}
use Rattle.islands.specs.Labels.{label_at}
use Rattle.momenta.specs.declared.mass.MassData.{MassData}
use Rattle.colour_solver.proofs.VectorLaws.{same_x, same_y}
use Rattle.plain_world.specs.declared.body.Body.{Body}
use Rattle.plain_world.specs.declared.kind.Kind.{Kind}
use Rattle.plain_world.specs.declared.kind.Kind.TheVariants.{Static, Kinematic, Dynamic}
use Rattle.plain_world.specs.Bodies.{IsBody, IsMassOf, is_awake, is_mover, is_mover_in}
use Rattle.plain_world.specs.Momentum.{momentum_in}
use Rattle.plain_world.specs.Changes.{disabled_body}
use Rattle.plain_world.specs.Formed.{HaveFilters}
use Rattle.plain_world.specs.Joints.{AreJoints, idle_joints}
use Rattle.plain_world.specs.Kinds.{IsCourseOf, carried_by, halted, is_moving, is_static}
use Rattle.plain_world.specs.Sleep.{told_body}
use Rattle.plain_world.specs.Slots.{AreMatched, body_at}
use Rattle.sleep_wake.specs.Acting as acting
use Rattle.sleep_wake.specs.Sleeping.{sleeping_names}
use Rattle.solver_sets.specs.Beside.{stirred_by}
use Rattle.solver_sets.specs.Joining.{unjoined_all}
use Rattle.solver_sets.specs.Alike.{AreJointSlots}
use Rattle.solver_sets.specs.Ties.{JointSlots, is_enabled_in, slots_of}
use Rattle.world_rules.specs.Apply.{departed, destroyed, disabled, world_with}
use Rattle.world_rules.specs.Sets.{acting_of, body_gone, stirred, with_woken}
use Rattle.world_rules.specs.World.{World, body_named, joints_in_slots}
use Rattle.world_rules.proofs.ActingLaws.{AreLists, IsWoken, stay_awake, waking_kept}
use Rattle.world_rules.proofs.LowerLaws.{awake_stay_awake, disabling_takes_ties, going_takes_ties}
use Rattle.world_rules.proofs.BesideLaws.{alike_beside, contacts_beside, have_bodies_beside, idle_ends, idle_matched, joints_beside, joints_idle, joints_taken, keys_beside, matched_beside, own_item, taken_beside, timers_beside}
use Rattle.world_rules.proofs.BookLemmas.{AreSmall-booked, AreSmall-weaker, summed-booked}
use Rattle.world_rules.proofs.KeptChanges.{named_at}
use Rattle.world_rules.proofs.GoneLaws.{CanGo, beside, gone_by}
use Rattle.world_rules.proofs.PlaceLaws.{live_body, places_freed}
use Rattle.world_rules.proofs.ShapeLaws.{filters_set}
use Rattle.solver_sets.proofs.SlotLemmas.{AreMatched-set, below_length}
use Rattle.world_rules.proofs.SlotLemmas.{AreBodies-set, body_at-in, momentum-set, part_le}
use Rattle.world_rules.proofs.PutLaws.{IsPut, both_put}
use Rattle.world_rules.proofs.SoundLaws.{IsKept}
use Rattle.world_rules.proofs.StirLaws.{joint_slots_of, mover_up, stirred_can_end}
use Rattle.world_rules.proofs.ToldLaws.{NobodyFallsAsleep, body_told, told_is, told_part}

-- ---- a body once islands were woken

-- nobody falls asleep where islands wake
pub none_sleep_more : (w : World) (slots : List ℕ) → IsKept w → (slot : ℕ) → acting.is_mover_awake w.plain.islands slot ≡ true → acting.is_mover_awake (with_woken w.plain slots).islands slot ≡ true
unfolding acting_of
none_sleep_more w slots k = awake_stay_awake.waking (acting_of w.plain) (sleeping_names w.plain.islands slots) k.consistent

-- the body once islands were woken
pub record IsSeen (w : World) (slots : List ℕ) (slot : ℕ) (b : Body) : Type 0 where
  pub body : Body
  pub at : body_at (with_woken w.plain slots).bodies slot ≡ Some body
  pub mover : is_mover body ≡ is_mover b
  pub enabled : body.enabled ≡ b.enabled
  pub momentum : momentum_in (Some body) ≡ momentum_in (Some b)

pub seen : (w : World) (slots : List ℕ) (slot : ℕ) (b : Body) → IsKept w → body_at w.plain.bodies slot ≡ Some b → IsSeen w slots slot b
seen w slots slot b k at =
    let l : Option Label = label_at (with_woken w.plain slots).islands slot in
    let stay : NobodyFallsAsleep w.plain.bodies (with_woken w.plain slots).islands = stay_awake w.plain.bodies w.plain.islands (with_woken w.plain slots).islands k.tied k.told (none_sleep_more w slots k) in
    let is : (a : Body) → Some b ≡ Some a → IsBody a = λ a e. subst IsBody (same_Some b a e) (k.bodies slot b (body_at-in w.plain.bodies slot b at)) in
    let up = λ (a : Body) (e : Some b ≡ Some a). stay slot a (at ∙ e) in
    record {
      body = told_body l b;
      at = body_told (with_woken w.plain slots).islands w.plain.bodies slot ∙ ap (option_map (told_body l)) at;
      mover = (told_is l b).mover;
      enabled = (told_is l b).enabled;
      momentum = told_part l (Some b) is up;
    }

-- ---- the lists

-- what is in a slot after its body has left: none, or one that takes no part
record IsOut (steps : ℕ) (o : Option Body) : Type 0 where
  body : (b : Body) → o ≡ Some b → IsBody b
  filters : (b : Body) → o ≡ Some b → HaveFilters b.shapes
  timer : (b : Body) → o ≡ Some b → b.timer ≤ 8 * steps
  mover : is_mover_in o ≡ false
  none : momentum_in o ≡ zero_vector

opposite_le : (v : Vec2) (n : ℕ) → IsWithin n v → IsWithin n (opposite v)
opposite_le v n h = record { x = omega (arith, ints, h.x); y = omega (arith, ints, h.y) }

-- the body b has left, and its momentum with it
out_lists : (w : World) (slot : ℕ) (b c : Body) (o : Option Body) (slot_entries : List SlotEntry) (joints : JointSlots) → IsKept w → w.plain.calls < 2 ^ 40 → body_at w.plain.bodies slot ≡ Some c → momentum_in (Some c) ≡ momentum_in (Some b) → IsBody b
    → IsOut w.plain.steps o → AreMatched slot_entries (slice_set w.plain.bodies slot o) → All IsSlotEntry slot_entries → AreJointSlots joints → AreJoints (slice_set w.plain.bodies slot o) joints.joints
    → AreLists (record w { plain = beside slot o slot_entries joints w.plain; entries = w.entries ++ departed (w.plain.calls + 1) b })
out_lists w slot b c o slot_entries joints k few at same body out matched generations slots are =
    let bodies = w.plain.bodies in
    let call : ℕ = w.plain.calls + 1 in
    let lt : slot < length bodies = below_length bodies slot c at in
    let set = momentum-set bodies slot o lt in
    let old : momentum_in (body_at bodies slot) ≡ momentum_in (Some b) = ap momentum_in at ∙ same in
    let lost : Vec2 = opposite (momentum_in (Some b)) in
    let small : IsWithin (2 ^ 60) lost = opposite_le (momentum_in (Some b)) (2 ^ 60) (part_le (is_mover b) b.motion.p body.motion.p) in
    record {
      total_x = let t = k.total_x in rw (summed-booked w.entries call causes.Departed lost.x lost.y) (omega (arith, ints, same_x set, same_x old, same_x out.none, t));
      total_y = let t = k.total_y in rw (summed-booked w.entries call causes.Departed lost.x lost.y) (omega (arith, ints, same_y set, same_y old, same_y out.none, t));
      causes = AreSmall-weaker (2 ^ 126 + w.plain.calls * 2 ^ 83 + 2 ^ 60) (2 ^ 126 + (w.plain.calls + 1) * 2 ^ 83) _ (omega arith)
          (AreSmall-booked (2 ^ 126 + w.plain.calls * 2 ^ 83) (2 ^ 60) 0 0 w.entries w.settled call causes.Departed lost.x lost.y k.causes small.x small.y);
      bodies = AreBodies-set bodies slot o k.bodies out.body;
      filters = filters_set bodies slot o out.filters k.filters;
      timers = timers_beside w.plain.steps bodies slot o lt out.timer k.timers;
      matched = matched;
      slot_entries = generations;
      joint_slots = slots.matched;
      joint_entries = slots.slot_entries;
      joints = are;
      contacts = keys_beside slot w.plain.contacts k.contacts;
      pairs = contacts_beside bodies slot o w.plain.contacts k.pairs;
      there = have_bodies_beside bodies slot o w.plain.contacts k.there;
      gravity = k.gravity;
      steps = let s = k.steps in omega (arith, s);
      calls = omega (arith, few);
    }

not_awake : (b : Body) → is_mover b ≡ false → is_awake b ≡ true → ⊥
not_awake b still up = false≢true (sym (by (is_mover b) still) ∙ up)
  where
    by : (t : Bool) → t ≡ false → cond t (is_none b.asleep) false ≡ false
    by true e = absurd (false≢true (sym e))
    by false e = refl

out_rests : (steps : ℕ) (o : Option Body) → IsOut steps o → (b : Body) → o ≡ Some b → is_awake b ≡ true → ⊥
out_rests steps o out b e up = not_awake b (sym (ap is_mover_in e) ∙ out.mover) up

-- once it was stirred, a body can go
pub stirred_can_go : (w : World) (slot : ℕ) → IsKept w → CanGo (record w { plain = stirred w.plain slot }) slot
stirred_can_go w slot k =
    let wk : IsWoken w (stirred_by w.plain.bodies w.plain.joints w.plain.contacts slot) = waking_kept w (stirred_by w.plain.bodies w.plain.joints w.plain.contacts slot) k in
    record { can = stirred_can_end w slot k; up = λ e. mover_up w slot k (sym (wk.alike.movers slot) ∙ e) }

-- ---- DestroyBody

none_out : (steps : ℕ) → IsOut steps None
none_out steps = record { body = λ b e. absurd (none-some b e); filters = λ b e. absurd (none-some b e); timer = λ b e. absurd (none-some b e); mover = refl; none = refl }

-- the world in which the body isn't there any more, before what acts is put into it
abbrev pub destroyed_lists : World → Handle → Body → World
destroyed_lists w h b = record w { plain = beside h.slot None (slot_entries_without w.plain.slot_entries h) (unjoined_all h.slot (joints_in_slots w.plain)) (stirred w.plain h.slot); entries = w.entries ++ departed (w.plain.calls + 1) b }

pub destroy_put : (w : World) (h : Handle) (b : Body) → IsKept w → w.plain.calls < 2 ^ 40 → body_named w.plain h ≡ Some b → IsPut (destroyed_lists w h b) (body_gone h.slot (is_mover b) (stirred w.plain h.slot))
destroy_put w h b k few named =
    let slot : ℕ = h.slot in
    let slots : List ℕ = stirred_by w.plain.bodies w.plain.joints w.plain.contacts slot in
    let at : body_at w.plain.bodies slot ≡ Some b = named_at w.plain h b named in
    let wk : IsWoken w slots = waking_kept w slots k in
    let v : World = record w { plain = stirred w.plain slot } in
    let now = seen w slots slot b k at in
    let lt : slot < length v.plain.bodies = below_length v.plain.bodies slot now.body now.at in
    let joints : JointSlots = unjoined_all slot (joints_in_slots v.plain) in
    let slot_entries : List SlotEntry = slot_entries_without w.plain.slot_entries h in
    let went = going_takes_ties slot v.plain.bodies (joints_in_slots v.plain) v.plain.contacts (joint_slots_of v wk.kept) wk.kept.contacts in
    let out : IsOut v.plain.steps None = none_out v.plain.steps in
    let gone = gone_by v slot None slot_entries joints (is_mover b) wk.kept (stirred_can_go w slot k) lt (wk.alike.movers slot ∙ ap is_mover_in at) refl
    (ap is_mover_in (own_item v.plain.bodies slot None lt)) went.1 (out_rests v.plain.steps None out) in
    let lists = out_lists v slot b now.body None slot_entries joints wk.kept few now.at now.momentum (k.bodies slot b (body_at-in w.plain.bodies slot b at)) out
    (AreMatched-set w.plain.slot_entries v.plain.bodies slot _ None refl wk.kept.matched) (places_freed w.plain.slot_entries h k.slot_entries (live_body w.plain h b named)) went.0 (joints_beside v.plain.bodies slot None (joints_in_slots v.plain) wk.kept.joints) in
    both_put (record v { plain = beside slot None slot_entries joints v.plain; entries = w.entries ++ departed (w.plain.calls + 1) b }) (body_gone slot (is_mover b) v.plain) lists gone.acting gone.awake

pub destroy_kept : (w : World) (h : Handle) (b : Body) → IsKept w → w.plain.calls < 2 ^ 40 → body_named w.plain h ≡ Some b → IsKept (world_with w (destroyed w.plain h b))
destroy_kept w h b k few named = (destroy_put w h b k few named).kept

-- ---- Disable

halted_mass : (kind : Kind) (m : MassData) → IsMassOf kind m → IsMassOf (halted kind) m
halted_mass Static m is = is
halted_mass (Kinematic course) m is = is
halted_mass Dynamic m is = is

halted_course : (kind : Kind) → IsCourseOf (halted kind)
halted_course Static = record { velocity = record { x = omega arith; y = omega arith }; spin = omega arith }
halted_course (Kinematic course) = record { velocity = record { x = omega arith; y = omega arith }; spin = omega arith }
halted_course Dynamic = record { velocity = record { x = omega arith; y = omega arith }; spin = omega arith }

halted_stands : (kind : Kind) → is_moving (carried_by (halted kind)) ≡ false
halted_stands Static = refl
halted_stands (Kinematic course) = refl
halted_stands Dynamic = refl

halted_static : (kind : Kind) → is_static (halted kind) ≡ is_static kind
halted_static Static = refl
halted_static (Kinematic course) = refl
halted_static Dynamic = refl

pub disabled_is : (b : Body) → IsBody b → IsBody (disabled_body b)
disabled_is b is = record {
  mass = halted_mass b.kind b.mass is.mass;
  motion = record { p = record { x = omega arith; y = omega arith }; l = omega arith; still = λ e. refl; x = is.motion.x; facing = is.motion.facing };
  rest = λ e. record { x = refl; y = refl; l = refl };
  asleep = λ e. refl;
  course = halted_course b.kind;
  halted = λ e. halted_stands b.kind;
  shapes = rw (halted_static b.kind) is.shapes;
  forms = is.forms;
  fats = is.fats;
}

disabled_out : (steps : ℕ) (b : Body) → IsBody b → HaveFilters b.shapes → b.timer ≤ 8 * steps → IsOut steps (Some (disabled_body b))
disabled_out steps b is filters short = record {
  body = λ c e. subst IsBody (same_Some (disabled_body b) c e) (disabled_is b is);
  filters = λ c e. subst (λ (a : Body). HaveFilters a.shapes) (same_Some (disabled_body b) c e) filters;
  timer = λ c e. subst (λ (a : Body). a.timer ≤ 8 * steps) (same_Some (disabled_body b) c e) short;
  mover = refl;
  none = refl;
}

-- the lists in which another body takes the place of one that is disabled
abbrev pub part_lists : World → Handle → Body → Option Body → World
part_lists w h b o = record w { plain = beside h.slot o w.plain.slot_entries (slots_of w.plain.joint_entries (idle_joints h.slot w.plain.joints)) (stirred w.plain h.slot); entries = w.entries ++ departed (w.plain.calls + 1) b }

out_put : (w : World) (h : Handle) (b : Body) → IsKept w → w.plain.calls < 2 ^ 40 → (at : body_at w.plain.bodies h.slot ≡ Some b) → (now : IsSeen w (stirred_by w.plain.bodies w.plain.joints w.plain.contacts h.slot) h.slot b) → IsPut (part_lists w h b (Some (disabled_body now.body))) (body_gone h.slot (is_mover b) (stirred w.plain h.slot))
out_put w h b k few at now =
    let slot : ℕ = h.slot in
    let slots : List ℕ = stirred_by w.plain.bodies w.plain.joints w.plain.contacts slot in
    let wk : IsWoken w slots = waking_kept w slots k in
    let v : World = record w { plain = stirred w.plain slot } in
    let o : Option Body = Some (disabled_body now.body) in
    let lt : slot < length v.plain.bodies = below_length v.plain.bodies slot now.body now.at in
    let joints : JointSlots = slots_of w.plain.joint_entries (idle_joints slot w.plain.joints) in
    let is : IsBody now.body = wk.kept.bodies slot now.body (body_at-in v.plain.bodies slot now.body now.at) in
    let out : IsOut v.plain.steps o = disabled_out v.plain.steps now.body is (wk.kept.filters slot now.body now.at) (wk.kept.timers slot now.body now.at) in
    let went = disabling_takes_ties slot v.plain.bodies (slice_set v.plain.bodies slot o) (joints_in_slots v.plain) (idle_joints slot v.plain.joints) v.plain.contacts (joint_slots_of v wk.kept) wk.kept.contacts
    (alike_beside v.plain.bodies slot o) (ap is_enabled_in (own_item v.plain.bodies slot o lt)) (idle_ends slot v.plain.joints) in
    let gone = gone_by v slot o w.plain.slot_entries joints (is_mover b) wk.kept (stirred_can_go w slot k) lt (wk.alike.movers slot ∙ ap is_mover_in at) refl
    (ap is_mover_in (own_item v.plain.bodies slot o lt)) went (out_rests v.plain.steps o out) in
    let lists = out_lists v slot b now.body o w.plain.slot_entries joints wk.kept few now.at now.momentum (k.bodies slot b (body_at-in w.plain.bodies slot b at)) out
    (matched_beside w.plain.slot_entries v.plain.bodies slot now.body (disabled_body now.body) now.at wk.kept.matched) k.slot_entries
    (record { matched = idle_matched w.plain.joint_entries slot w.plain.joints k.joint_slots; slot_entries = k.joint_entries })
    (joints_taken v.plain.bodies (slice_set v.plain.bodies slot o) (idle_joints slot v.plain.joints) (taken_beside v.plain.bodies slot now.body (disabled_body now.body) now.at) (joints_idle v.plain.bodies slot v.plain.joints wk.kept.joints)) in
    both_put (record v { plain = beside slot o w.plain.slot_entries joints v.plain; entries = w.entries ++ departed (w.plain.calls + 1) b }) (body_gone slot (is_mover b) v.plain) lists gone.acting gone.awake

-- the body as it is once islands were woken
abbrev pub woken_disabled : World → Handle → Option Body
woken_disabled w h = option_map disabled_body (body_at (stirred w.plain h.slot).bodies h.slot)

pub disable_put : (w : World) (h : Handle) (b : Body) → IsKept w → w.plain.calls < 2 ^ 40 → body_named w.plain h ≡ Some b → IsPut (part_lists w h b (woken_disabled w h)) (body_gone h.slot (is_mover b) (stirred w.plain h.slot))
disable_put w h b k few named =
    let at : body_at w.plain.bodies h.slot ≡ Some b = named_at w.plain h b named in
    let now = seen w (stirred_by w.plain.bodies w.plain.joints w.plain.contacts h.slot) h.slot b k at in
    subst (λ (o : Option Body). IsPut (part_lists w h b o) (body_gone h.slot (is_mover b) (stirred w.plain h.slot))) (sym (ap (option_map disabled_body) now.at)) (out_put w h b k few at now)

pub disable_kept : (w : World) (h : Handle) (b : Body) → IsKept w → w.plain.calls < 2 ^ 40 → body_named w.plain h ≡ Some b → IsKept (world_with w (disabled w.plain h b))
disable_kept w h b k few named = (disable_put w h b k few named).kept
