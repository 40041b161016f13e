-- What the sets ask for at each of their calls, where a command makes or ends a part of the world: it holds of a kept
-- world.
use Rattle.std.proofs.Common.{◌≡◌, ℕ, ◌<◌, true, false, List, [], ◌∷◌, Some, None, ◌∙◌}
use Rattle.std.specs.Prelude.{Contains, filter}
use Rattle.body_handles.specs.declared.handle.Handle.{Handle}
use Rattle.body_handles.specs.declared.slot_table.TheConstants.{MAX_SLOTS}
use Rattle.body_handles.specs.SlotEntries.{lowest}
use Rattle.graph_colours.specs.declared.member.Movers.{Movers}
use Rattle.graph_colours.specs.FoundMembers.{has_id}
use Rattle.graph_colours.specs.Movers.{has_mover}
use Rattle.plain_world.specs.Constraints.{constraint_number}
use Rattle.plain_world.specs.declared.constraint.Constraint.TheVariants.{Joint}
use Rattle.islands.specs.Labels.{label_at}
use Rattle.plain_world.specs.declared.body.Body.{Body}
use Rattle.plain_world.specs.declared.joint.BodyJoint.{BodyJoint}
use Rattle.plain_world.specs.Changes.{enabled_body}
use Rattle.plain_world.specs.Joints.{joint_of}
use Rattle.plain_world.specs.Slots.{body_at}
use Rattle.sleep_wake.specs.Acting.{are_awake, is_mover_awake}
use Rattle.sleep_wake.specs.ChangeLists.{CanBegin, CanEnd}
use Rattle.solver_sets.specs.Beside.{joined_to, stirred_by}
use Rattle.solver_sets.specs.Joining.{handle_at}
use Rattle.plain_world.specs.Bodies.{moves}
use Rattle.solver_sets.specs.Ties.{joint_movers, joint_ties_at, ties_at}
use Rattle.world_rules.specs.Sets.{acting_of, stirred, ties_ended, with_woken}
use Rattle.world_rules.specs.World.{World, joints_in_slots}
use Rattle.world_rules.proofs.ActingLaws.{IsWoken, waking_kept}
use Rattle.world_rules.proofs.LowerLaws.{joining_adds_ties, unjoining_takes_ties}
use Rattle.world_rules.proofs.GoneLaws.{ended_alone, is_ended}
use Rattle.world_rules.proofs.KeptBodies.{IsSeen, seen, stirred_can_go}
use Rattle.world_rules.proofs.KeptEnabled.{CanStart, can_start, come_label, seen_disabled, up_acting, up_bodies}
use Rattle.world_rules.proofs.KeptJoints.{joint_up, live_joint}
use Rattle.solver_sets.proofs.SlotLemmas.{below_length}
use Rattle.world_rules.proofs.SoundLaws.{IsKept}
use Rattle.world_rules.proofs.StirLaws.{joint_slots_of}

-- ---- DestroyBody and Disable

-- The ties of a body that was stirred can end; then it can be taken out of its island, if it is a mover.
pub record CanLeave (w : World) (slot : ℕ) : Type 0 where
  pub can : CanEnd constraint_number (ties_at slot (stirred w.plain slot).bodies (joints_in_slots w.plain) w.plain.contacts) (acting_of (stirred w.plain slot))
  pub awake : moves w.plain.bodies slot ≡ true → is_mover_awake (ties_ended slot (stirred w.plain slot)).labels slot ≡ true
  pub alone : filter (λ m. has_mover m.movers slot) (ties_ended slot (stirred w.plain slot)).ties ≡ []

pub can_leave : (w : World) (slot : ℕ) (b : Body) → IsKept w → body_at w.plain.bodies slot ≡ Some b → CanLeave w slot
can_leave w slot b k at =
    let slots : List ℕ = stirred_by w.plain.bodies w.plain.joints w.plain.contacts slot in
    let wk : IsWoken w slots = waking_kept w slots k in
    let v : World = record w { plain = stirred w.plain slot } in
    let go = stirred_can_go w slot k in
    let now : IsSeen w slots slot b = seen w slots slot b k at in
    record {
      can = go.can;
      awake = λ e. (is_ended v slot wk.kept go).awake slot (go.up (wk.alike.movers slot ∙ e));
      alone = ended_alone v slot wk.kept go (below_length v.plain.bodies slot now.body now.at);
    }

-- ---- CreateJoint and DestroyJoint

-- the joint isn't there yet, and its movers are awake
pub record CanJoin (w : World) (h : Handle) (j : BodyJoint) : Type 0 where
  pub fresh : has_id constraint_number (Joint h) (acting_of (with_woken w.plain (j.a ∷ j.b ∷ []))).ties ≡ false
  pub awake : (m : Movers) → joint_movers (with_woken w.plain (j.a ∷ j.b ∷ [])).bodies j ≡ Some m → are_awake (acting_of (with_woken w.plain (j.a ∷ j.b ∷ []))).labels m ≡ true

pub can_join : (w : World) (j : BodyJoint) → IsKept w → lowest w.plain.joint_entries < MAX_SLOTS → CanJoin w (handle_at w.plain.joint_entries (lowest w.plain.joint_entries)) j
unfolding acting_of
can_join w j k free =
    let slots : List ℕ = j.a ∷ j.b ∷ [] in
    let wk : IsWoken w slots = waking_kept w slots k in
    let v : World = record w { plain = with_woken w.plain slots } in
    record { fresh = (joining_adds_ties v.plain.bodies (joints_in_slots v.plain) v.plain.contacts j (joint_slots_of v wk.kept) wk.kept.contacts free).fresh; awake = joint_up w j k }

-- the joint is there, and its movers are awake
pub record CanUnjoin (w : World) (h : Handle) (j : BodyJoint) : Type 0 where
  pub there : (m : Movers) → joint_movers (with_woken w.plain (j.a ∷ j.b ∷ [])).bodies j ≡ Some m → Contains (acting_of (with_woken w.plain (j.a ∷ j.b ∷ []))).ties (record { id = Joint h; movers = m })
  pub awake : (m : Movers) → joint_movers (with_woken w.plain (j.a ∷ j.b ∷ [])).bodies j ≡ Some m → are_awake (acting_of (with_woken w.plain (j.a ∷ j.b ∷ []))).labels m ≡ true

pub can_unjoin : (w : World) (h : Handle) (j : BodyJoint) → IsKept w → joint_of w.plain.joint_entries w.plain.joints h ≡ Some j → CanUnjoin w h j
unfolding acting_of
can_unjoin w h j k named =
    let slots : List ℕ = j.a ∷ j.b ∷ [] in
    let wk : IsWoken w slots = waking_kept w slots k in
    let v : World = record w { plain = with_woken w.plain slots } in
    let is = live_joint w h j named in
    record { there = (unjoining_takes_ties v.plain.bodies (joints_in_slots v.plain) v.plain.contacts h j (joint_slots_of v wk.kept) wk.kept.contacts is.0 is.1).there; awake = joint_up w j k }

-- ---- Enable

-- the body has no island yet, and its joints can begin once it has one, if it is a mover
pub record CanEnable (w : World) (slot : ℕ) (b : Body) : Type 0 where
  pub fresh : label_at (acting_of (with_woken w.plain (joined_to w.plain.bodies w.plain.joints slot))).labels slot ≡ None
  pub can : CanBegin constraint_number (joint_ties_at slot (up_bodies w slot (Some (enabled_body b))) (joints_in_slots w.plain)) (up_acting w slot (enabled_body b))

pub can_enable : (w : World) (slot : ℕ) (b : Body) → IsKept w → body_at w.plain.bodies slot ≡ Some b → b.enabled ≡ false → CanEnable w slot b
unfolding acting_of
can_enable w slot b k at off =
    let slots : List ℕ = joined_to w.plain.bodies w.plain.joints slot in
    let wk : IsWoken w slots = waking_kept w slots k in
    let v : World = record w { plain = with_woken w.plain slots } in
    let there : body_at v.plain.bodies slot ≡ Some b = seen_disabled w slots slot b k at off in
    let start : CanStart w slot (enabled_body b) = can_start w slot b k there off in
    record { fresh = come_label v slot b wk.kept there off; can = start.can }
