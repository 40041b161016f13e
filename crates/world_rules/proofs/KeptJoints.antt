-- A world stays kept where a joint is made, and where one goes.
use Rattle.std.proofs.Common.{◌≡◌, ℕ, ◌<◌, ◌^◌, ◌==◌, ◌&&◌, Bool, true, false, cond, List, [], ◌∷◌, Option, Some, None, is_some, ℤ, pos, ◌≤ℤ◌, unsigned_abs, int_le, refl, ap, ◌∙◌, arith}
use Rattle.std.specs.Prelude.{slice_get}
use Rattle.std.proofs.lemmas.Bool.{eqb-false, false≢true}
use Rattle.std.proofs.lemmas.Grind.{common_steps}
use Rattle.std.proofs.lemmas.Int.{ints}
use Rattle.std.proofs.lemmas.Option.{none-some}
use Rattle.body_handles.specs.declared.handle.Handle.{Handle}
use Rattle.body_handles.specs.declared.slot_table.TheConstants.{MAX_SLOTS}
use Rattle.body_handles.specs.SlotEntries.{IsLive, is_live, lowest}
use Rattle.fixed_geom.specs.Vectors.{IsWithin, is_within}
use Rattle.fixed_geom.specs.declared.vectors.Vec2.{Vec2}
use Rattle.fixed_geom.specs.declared.refusal.Refusal.{Refusal}
use Rattle.fixed_geom.specs.declared.refusal.Refusal.TheVariants.{BodyDisabled, OutOfRange, SameBody}
use Rattle.plain_world.specs.declared.constraint.Constraint.TheVariants.{Joint}
use Rattle.islands.proofs.JoinLemmas.{contains_head, contains_tail}
use Rattle.joint_rows.specs.Joints.{IsJoint}
use Rattle.joint_rows.specs.declared.limits.TheConstants.{MAX_ANCHOR, MAX_JOINT_LENGTH}
use Rattle.shapes.specs.Shapes.{is_between}
use Rattle.plain_world.specs.declared.body.Body.{Body}
use Rattle.plain_world.specs.declared.joint.BodyJoint.{BodyJoint}
use Rattle.plain_world.specs.declared.joint.JointDef.{JointDef}
use Rattle.plain_world.specs.Joints.{IsBodyJoint, joint_at, joint_made, joint_of, joint_refusal}
use Rattle.solver_sets.specs.Joining.{handle_at, joined_with, unjoined}
use Rattle.solver_sets.specs.Ties.{JointSlots, begun_with, ended_with, joint_movers}
use Rattle.world_rules.specs.Apply.{counted, join_refusal, joint_come, joint_gone, with_joints}
use Rattle.world_rules.specs.Sets.{acting_of, with_woken}
use Rattle.world_rules.specs.World.{World, body_named, joints_in_slots}
use Rattle.world_rules.proofs.ActingLaws.{IsWoken, waking_kept}
use Rattle.world_rules.proofs.LowerLaws.{joining_adds_ties, unjoining_takes_ties}
use Rattle.world_rules.proofs.JoinLaws.{AreUp, ends_up, joints_gone, joints_put, joints_with, next_begun_with, next_ended_with, woken_up}
use Rattle.world_rules.proofs.KeptChanges.{counted_kept, named_at}
use Rattle.world_rules.proofs.PlaceLaws.{live_at}
use Rattle.world_rules.proofs.PutLaws.{IsPut}
use Rattle.world_rules.proofs.SoundLaws.{IsKept}
use Rattle.world_rules.proofs.StirLaws.{joint_slots_of}

-- the movers of a joint are awake once the islands of both its ends were woken
pub joint_up : (w : World) (j : BodyJoint) → IsKept w → AreUp (with_woken w.plain (j.a ∷ j.b ∷ [])).islands (joint_movers (with_woken w.plain (j.a ∷ j.b ∷ [])).bodies j)
joint_up w j k =
    let slots : List ℕ = j.a ∷ j.b ∷ [] in
    ends_up (with_woken w.plain slots).bodies (with_woken w.plain slots).islands j.a j.b
    (woken_up w slots j.a k (contains_head j.a (j.b ∷ []))) (woken_up w slots j.b k (contains_tail j.a (j.b ∷ []) j.b (contains_head j.b [])))

-- a joint of bodies of which some woke
still_joint : (w : World) (slots : List ℕ) (j : BodyJoint) → IsKept w → IsBodyJoint w.plain.bodies j → IsBodyJoint (with_woken w.plain slots).bodies j
still_joint w slots j k is = let wk : IsWoken w slots = waking_kept w slots k in record { first = wk.slots.taken j.a ∙ is.first; second = wk.slots.taken j.b ∙ is.second; apart = is.apart; joint = is.joint }

-- ---- CreateJoint

pub joint_come_put : (w : World) (j : BodyJoint) → IsKept w → lowest w.plain.joint_entries < MAX_SLOTS → IsBodyJoint w.plain.bodies j
    → IsPut (record w { plain = with_joints (joined_with j (joints_in_slots w.plain)) (with_woken w.plain (j.a ∷ j.b ∷ [])) })
    (begun_with (Joint (handle_at w.plain.joint_entries (lowest w.plain.joint_entries))) (joint_movers (with_woken w.plain (j.a ∷ j.b ∷ [])).bodies j) (acting_of (with_woken w.plain (j.a ∷ j.b ∷ []))))
unfolding acting_of
joint_come_put w j k free is =
    let slots : List ℕ = j.a ∷ j.b ∷ [] in
    let wk : IsWoken w slots = waking_kept w slots k in
    let v : World = record w { plain = with_woken w.plain slots } in
    let h : Handle = handle_at w.plain.joint_entries (lowest w.plain.joint_entries) in
    let joints : JointSlots = joined_with j (joints_in_slots v.plain) in
    let come = joining_adds_ties v.plain.bodies (joints_in_slots v.plain) v.plain.contacts j (joint_slots_of v wk.kept) wk.kept.contacts free in
    let next = next_begun_with v joints (Joint h) (joint_movers v.plain.bodies j) wk.kept come.fresh (joint_up w j k) come.ties in
    joints_put v joints (begun_with (Joint h) (joint_movers v.plain.bodies j) (acting_of v.plain)) wk.kept come.slots
    (joints_with v.plain.bodies w.plain.joints (lowest w.plain.joint_entries) j (still_joint w slots j k is) wk.kept.joints) next

pub joint_come_kept : (w : World) (j : BodyJoint) → IsKept w → lowest w.plain.joint_entries < MAX_SLOTS → IsBodyJoint w.plain.bodies j
    → IsKept (record w { plain = joint_come (handle_at w.plain.joint_entries (lowest w.plain.joint_entries)) j (with_woken w.plain (j.a ∷ j.b ∷ [])) })
joint_come_kept w j k free is = (joint_come_put w j k free is).kept

pub join_kept : (w : World) (j : BodyJoint) → IsKept w → w.plain.calls < 2 ^ 40 → lowest w.plain.joint_entries < MAX_SLOTS → IsBodyJoint w.plain.bodies j
    → IsKept (record w { plain = counted (joint_come (handle_at w.plain.joint_entries (lowest w.plain.joint_entries)) j (with_woken w.plain (j.a ∷ j.b ∷ []))) })
join_kept w j k few free is = counted_kept (record w { plain = joint_come (handle_at w.plain.joint_entries (lowest w.plain.joint_entries)) j (with_woken w.plain (j.a ∷ j.b ∷ [])) }) (joint_come_kept w j k free is) few

-- what the tests of a joint say
first_of : (a b : Bool) → (a && b) ≡ true → a ≡ true
first_of true b e = refl
first_of false b e = absurd (false≢true e)

second_of : (a b : Bool) → (a && b) ≡ true → b ≡ true
second_of true b e = e
second_of false b e = absurd (false≢true e)

within_of : (n : ℕ) (v : Vec2) → is_within n v ≡ true → IsWithin n v
within_of n v e = record { x = grind (arith, common_steps); y = grind (arith, common_steps) }

at_most : (x y : ℤ) → int_le x y ≡ true → x ≤ℤ y
at_most x y e = grind (arith, common_steps)

tests : (a b c : Bool) (e : Refusal) → cond a (cond b (cond c None (Some e)) (Some e)) (Some e) ≡ None → (a ≡ true) × (b ≡ true) × (c ≡ true)
tests true true true e h = (refl, refl, refl)
tests true true false e h = cc
tests true false c e h = cc
tests false b c e h = cc

-- a joint that nothing keeps from being made has its numbers within their limits
pub joint_allowed : (d : JointDef) → joint_refusal d ≡ None → IsJoint (joint_made d).joint
unfolding joint_refusal
joint_allowed d h =
    let t = tests (is_within (unsigned_abs MAX_ANCHOR) d.from) (is_within (unsigned_abs MAX_ANCHOR) d.to) (is_between (pos 0) MAX_JOINT_LENGTH d.length) OutOfRange h in
    let low = at_most (pos 0) d.length (first_of (int_le (pos 0) d.length) (int_le d.length MAX_JOINT_LENGTH) t.2) in
    let high = at_most d.length MAX_JOINT_LENGTH (second_of (int_le (pos 0) d.length) (int_le d.length MAX_JOINT_LENGTH) t.2) in
    record { from = within_of (unsigned_abs MAX_ANCHOR) d.from t.0; to = within_of (unsigned_abs MAX_ANCHOR) d.to t.1; nonnegative = low; length = omega (arith, ints, low, high); impulse = omega arith }

ends_tests : (same a b : Bool) (o : Option Refusal) → cond same (Some SameBody) (cond a (cond b o (Some BodyDisabled)) (Some BodyDisabled)) ≡ None → (same ≡ false) × (o ≡ None)
ends_tests true a b o h = cc
ends_tests false true true o h = (refl, h)
ends_tests false true false o h = cc
ends_tests false false b o h = cc

ends_allowed : (w : World) (d : JointDef) (o u : Option Body) → body_named w.plain d.a ≡ o → body_named w.plain d.b ≡ u → join_refusal o u d ≡ None → IsBodyJoint w.plain.bodies (joint_made d)
ends_allowed w d None u e f h = cc
ends_allowed w d (Some a) None e f h = cc
ends_allowed w d (Some a) (Some b) e f h =
    let t = ends_tests (d.a.slot == d.b.slot) a.enabled b.enabled (joint_refusal d) h in
    record {
      first = ap is_some (named_at w.plain d.a a e);
      second = ap is_some (named_at w.plain d.b b f);
      apart = eqb-false d.a.slot d.b.slot t.0;
      joint = joint_allowed d t.1;
    }

-- and stands between two different bodies that are there
pub join_allowed : (w : World) (d : JointDef) → join_refusal (body_named w.plain d.a) (body_named w.plain d.b) d ≡ None → IsBodyJoint w.plain.bodies (joint_made d)
join_allowed w d h = ends_allowed w d (body_named w.plain d.a) (body_named w.plain d.b) refl refl h

-- ---- DestroyJoint

named_joint : (live : Bool) (o : Option BodyJoint) (j : BodyJoint) → cond live o None ≡ Some j → (live ≡ true) × (o ≡ Some j)
named_joint true o j e = (refl, e)
named_joint false o j e = absurd (none-some j e)

-- a joint that is named is live, and there
pub live_joint : (w : World) (h : Handle) (j : BodyJoint) → joint_of w.plain.joint_entries w.plain.joints h ≡ Some j → IsLive w.plain.joint_entries h × (joint_at w.plain.joints h.slot ≡ Some j)
live_joint w h j named = let is = named_joint (is_live w.plain.joint_entries h) (joint_at w.plain.joints h.slot) j named in (live_at (slice_get w.plain.joint_entries h.slot) h.generation is.0, is.1)

pub joint_gone_put : (w : World) (h : Handle) (j : BodyJoint) → IsKept w → joint_of w.plain.joint_entries w.plain.joints h ≡ Some j → IsPut (record w { plain = with_joints (unjoined h (joints_in_slots w.plain)) (with_woken w.plain (j.a ∷ j.b ∷ [])) })
    (ended_with (Joint h) (joint_movers (with_woken w.plain (j.a ∷ j.b ∷ [])).bodies j) (acting_of (with_woken w.plain (j.a ∷ j.b ∷ []))))
unfolding acting_of
joint_gone_put w h j k named =
    let slots : List ℕ = j.a ∷ j.b ∷ [] in
    let wk : IsWoken w slots = waking_kept w slots k in
    let v : World = record w { plain = with_woken w.plain slots } in
    let is = live_joint w h j named in
    let joints : JointSlots = unjoined h (joints_in_slots v.plain) in
    let went = unjoining_takes_ties v.plain.bodies (joints_in_slots v.plain) v.plain.contacts h j (joint_slots_of v wk.kept) wk.kept.contacts is.0 is.1 in
    let next = next_ended_with v joints (Joint h) (joint_movers v.plain.bodies j) wk.kept went.there (joint_up w j k) went.ties in
    joints_put v joints (ended_with (Joint h) (joint_movers v.plain.bodies j) (acting_of v.plain)) wk.kept went.slots (joints_gone v.plain.bodies w.plain.joints h.slot wk.kept.joints) next

pub joint_gone_kept : (w : World) (h : Handle) (j : BodyJoint) → IsKept w → joint_of w.plain.joint_entries w.plain.joints h ≡ Some j → IsKept (record w { plain = joint_gone h j (with_woken w.plain (j.a ∷ j.b ∷ [])) })
joint_gone_kept w h j k named = (joint_gone_put w h j k named).kept

pub unjoin_kept : (w : World) (h : Handle) (j : BodyJoint) → IsKept w → w.plain.calls < 2 ^ 40 → joint_of w.plain.joint_entries w.plain.joints h ≡ Some j → IsKept (record w { plain = counted (joint_gone h j (with_woken w.plain (j.a ∷ j.b ∷ []))) })
unjoin_kept w h j k few named = counted_kept (record w { plain = joint_gone h j (with_woken w.plain (j.a ∷ j.b ∷ [])) }) (joint_gone_kept w h j k named) few
