-- A world in which a part was made or has ended is whole, and its answer is the one that is due.
use Rattle.std.proofs.Common.{◌≡◌, ◌<◌, ◌≤◌, ◌^◌, ℕ, zero, suc, unsigned_abs, List, [], ◌∷◌, length, Bool, true, false, cond, Option, Some, None, Ok, Err, refl, sym, ap, ◌∙◌, subst, arith}
use Rattle.std.specs.Prelude.{Contains, filter, nat_lt, option_map, slice_set}
use Rattle.std.proofs.lemmas.Option.{none-some, same_Some}
use Rattle.std.proofs.lemmas.Grind.{common_steps}
use Rattle.fixed_geom.specs.declared.refusal.Refusal.TheVariants.{BodyDisabled}
use Rattle.body_handles.specs.declared.handle.Handle.{Handle}
use Rattle.body_handles.specs.declared.slot_table.TheConstants.{MAX_SLOTS}
use Rattle.body_handles.specs.SlotEntries.{lowest}
use Rattle.plain_world.specs.Constraints.{constraint_number}
use Rattle.plain_world.specs.declared.constraint.Constraint.{Constraint}
use Rattle.plain_world.specs.declared.constraint.Constraint.TheVariants.{Joint}
use Rattle.graph_colours.specs.FoundMembers.{has_id}
use Rattle.graph_colours.specs.Movers.{has_mover}
use Rattle.graph_colours.specs.declared.member.Member.{Member}
use Rattle.graph_colours.specs.declared.member.Movers.{Movers}
use Rattle.impulse_ledger.specs.Sums.{Book, Fits}
use Rattle.impulse_ledger.specs.declared.entry.Entry.{Entry}
use Rattle.islands.specs.Labels.{label_at}
use Rattle.plain_world.specs.declared.body.Body.{Body}
use Rattle.plain_world.specs.declared.body.BodyDef.{BodyDef}
use Rattle.plain_world.specs.declared.joint.BodyJoint.{BodyJoint}
use Rattle.plain_world.specs.declared.joint.JointDef.{JointDef}
use Rattle.plain_world.specs.Bodies.{AreBodies, IsBody, def_refusal, is_mover_in, moves}
use Rattle.plain_world.specs.Changes.{changed_at, disabled_body}
use Rattle.plain_world.specs.Sleep.{told}
use Rattle.plain_world.specs.Slots.{body_at}
use Rattle.plain_world.specs.Joints.{joint_at, joint_of}
use Rattle.sleep_wake.specs.Acting.{Acting, are_awake, is_mover_awake}
use Rattle.sleep_wake.specs.ChangeLists.{CanEnd}
use Rattle.sleep_wake.specs.Sleeping.{islands_woken}
use Rattle.solver_sets.specs.Joining.{handle_at}
use Rattle.solver_sets.specs.Ties.{joint_movers, ties_at}
use Rattle.world_core.specs.Inside.{IsWhole}
use Rattle.world_rules.specs.Apply.{Answers, Applied, apply_create, apply_destroy, apply_disable, apply_enable, apply_join, apply_unjoin, created, destroyed, disabled, enabled, join_refusal, joined, quietly, world_with}
use Rattle.world_rules.specs.declared.command.Reply.TheVariants as replies
use Rattle.world_rules.specs.Sets.{acting_of, stirred, with_woken}
use Rattle.world_rules.specs.Sound.{IsSound}
use Rattle.world_rules.specs.World.{World, body_named, joints_in_slots}
use Rattle.world_rules.proofs.ActingLaws.{IsWoken, islands_woken_ties, waking_kept}
use Rattle.world_rules.proofs.BookLemmas.{Fits-roomy}
use Rattle.world_rules.proofs.CallLaws.{CanLeave, can_join, can_leave, can_unjoin}
use Rattle.world_rules.proofs.KeptChanges.{IsRoomy-kept, IsRoomy-same, named_at}
use Rattle.world_rules.proofs.KeptJoints.{live_joint}
use Rattle.world_rules.proofs.KeptMade.{free_slot}
use Rattle.world_rules.proofs.PartsLeft.{IsLeft, ended_from, ended_is, ends_of, next_joint, stirred_slots, ties_at_alike, unjoined_of, woken_bodies, woken_from}
use Rattle.solver_sets.proofs.SlotLemmas.{lowest-free, none_if}
use Rattle.world_rules.proofs.SlotLemmas.{AreBodies-set, body_at-in}
use Rattle.world_rules.proofs.KeptBodies.{disabled_is}
use Rattle.world_rules.proofs.SoundLaws.{IsKept, kept_sound, sound_kept}

-- what a whole world keeps
pub kept_of : (w : World) (s : Acting Constraint) → IsWhole w s → IsKept w
kept_of w s is = kept_sound w is.sound

pub whole : (old : World) (a : Applied) (now : World) (s : Acting Constraint) → IsLeft old a now s → IsWhole now s
whole old a now s l = record { sound = subst IsSound (sym l.same) (sound_kept (world_with old a) l.kept); same = l.acting ∙ ap (λ (w : World). acting_of w.plain) (sym l.same) }

-- an entry of a small gain fits the book of a whole world
pub entry_fits : (w : World) (s : Acting Constraint) (b : Book) (e : Entry) → IsWhole w s → b.entries ≡ w.entries → b.settled ≡ w.settled → unsigned_abs e.x ≤ 2 ^ 83 → unsigned_abs e.y ≤ 2 ^ 83 → Fits b e
entry_fits w s b e is entries settled x y = Fits-roomy b e (IsRoomy-same (record { entries = w.entries; settled = w.settled; room = 0 }) b entries settled (IsRoomy-kept w 0 (kept_of w s is))) x y

-- nobody has the label of a free slot
pub free_label : (w : World) → IsKept w → label_at w.plain.islands (lowest w.plain.slot_entries) ≡ None
free_label w k = none_if (label_at w.plain.islands (lowest w.plain.slot_entries)) (k.tied (lowest w.plain.slot_entries) ∙ ap is_mover_in (free_slot w k))

pub same_handle : (h g : Handle) → h.slot ≡ g.slot → h.generation ≡ g.generation → h ≡ g
same_handle h g e f = λ j. record { slot = e j; generation = f j }

pub create_answers : (w : World) (d : BodyDef) (h : Handle) (now : World) (s : Acting Constraint) → None ≡ def_refusal d → lowest w.plain.slot_entries < MAX_SLOTS → h ≡ handle_at w.plain.slot_entries (lowest w.plain.slot_entries) → IsLeft w (created w.plain d) now s
    → Answers (apply_create w.plain d) w (Ok (replies.Body h)) now
create_answers w d h now s due free e l =
    let room : nat_lt (lowest w.plain.slot_entries) MAX_SLOTS ≡ true = grind (arith, common_steps) in
    rw (sym due, room) (ap replies.Body e, l.same)

pub destroy_answers : (w : World) (h : Handle) (b : Body) (now : World) (s : Acting Constraint) → body_named w.plain h ≡ Some b → IsLeft w (destroyed w.plain h b) now s → Answers (apply_destroy w.plain h) w (Ok replies.Done) now
destroy_answers w h b now s named l = rw named (refl, l.same)

disable_on : (t : Bool) (w : World) (a : Applied) (now : World) → t ≡ true → a.reply ≡ replies.Done → now ≡ world_with w a → Answers (cond t (Ok a) (Err BodyDisabled)) w (Ok replies.Done) now
disable_on true w a now e r s = (sym r, s)
disable_on false w a now e r s = cc

pub disable_answers : (w : World) (h : Handle) (b : Body) (now : World) (s : Acting Constraint) → body_named w.plain h ≡ Some b → b.enabled ≡ true → IsLeft w (disabled w.plain h b) now s → Answers (apply_disable w.plain h) w (Ok replies.Done) now
disable_answers w h b now s named on l = rw named (disable_on b.enabled w (disabled w.plain h b) now on refl l.same)

pub enable_answers : (w : World) (h : Handle) (b : Body) (now : World) (s : Acting Constraint) → body_named w.plain h ≡ Some b → IsLeft w (quietly (enabled w.plain h b)) now s → Answers (apply_enable w.plain h) w (Ok replies.Done) now
enable_answers w h b now s named l = rw named (refl, l.same)

pub join_answers : (w : World) (d : JointDef) (h : Handle) (now : World) (s : Acting Constraint) → None ≡ join_refusal (body_named w.plain d.a) (body_named w.plain d.b) d → lowest w.plain.joint_entries < MAX_SLOTS → h ≡ next_joint w.plain → IsLeft w (joined w.plain d (next_joint w.plain)) now s
    → Answers (apply_join w.plain d) w (Ok (replies.Joint h)) now
join_answers w d h now s due free e l =
    let room : nat_lt (lowest w.plain.joint_entries) MAX_SLOTS ≡ true = grind (arith, common_steps) in
    rw (sym due, room) (ap replies.Joint e, l.same)

pub unjoin_answers : (w : World) (h : Handle) (j : BodyJoint) (now : World) (s : Acting Constraint) → joint_of w.plain.joint_entries w.plain.joints h ≡ Some j → IsLeft w (unjoined_of w.plain h j) now s → Answers (apply_unjoin w.plain h) w (Ok replies.Done) now
unjoin_answers w h j now s named l = rw named (refl, l.same)

-- ---- bodies that are told once one has left

pub bodies_without : (bodies : List (Option Body)) (slot : ℕ) → AreBodies bodies → AreBodies (slice_set bodies slot None)
bodies_without bodies slot all = AreBodies-set bodies slot None all (λ b e. absurd (none-some b e))

disabled_in : (bodies : List (Option Body)) (slot : ℕ) (o : Option Body) (b : Body) → AreBodies bodies → body_at bodies slot ≡ o → option_map disabled_body o ≡ Some b → IsBody b
disabled_in bodies slot None b all at e = absurd (none-some b e)
disabled_in bodies slot (Some a) b all at e = subst IsBody (same_Some (disabled_body a) b e) (disabled_is a (all slot a (body_at-in bodies slot a at)))

pub bodies_disabled : (bodies : List (Option Body)) (slot : ℕ) → AreBodies bodies → AreBodies (changed_at disabled_body bodies slot)
bodies_disabled bodies slot all = AreBodies-set bodies slot (option_map disabled_body (body_at bodies slot)) all (λ b e. disabled_in bodies slot (body_at bodies slot) b all refl e)

-- ---- what the calls ask for, of what acts once islands were woken

pub woken_room : (names : List ℕ) (s : Acting Constraint) → length (islands_woken constraint_number names s).ties ≡ length s.ties
woken_room names s = ap length (islands_woken_ties names s)

pub free_joint : (w : World) → IsKept w → joint_at w.plain.joints (lowest w.plain.joint_entries) ≡ None
free_joint w k = none_if (joint_at w.plain.joints (lowest w.plain.joint_entries)) (k.joint_slots.taken (lowest w.plain.joint_entries) ∙ lowest-free w.plain.joint_entries)

-- the joint isn't there yet, and its movers are awake
pub record CanBeginJoint (bodies : List (Option Body)) (woke : Acting Constraint) (h : Handle) (j : BodyJoint) : Type 0 where
  pub fresh : has_id constraint_number (Joint h) woke.ties ≡ false
  pub awake : (m : Movers) → joint_movers bodies j ≡ Some m → are_awake woke.labels m ≡ true

can_join_at : (w : World) (j : BodyJoint) → IsKept w → lowest w.plain.joint_entries < MAX_SLOTS → CanBeginJoint (woken_bodies w.plain (acting_of w.plain) (ends_of j)) (woken_from w.plain (acting_of w.plain) (ends_of j)) (next_joint w.plain) j
can_join_at w j k free =
    let can = can_join w j k free in
    let wk : IsWoken w (ends_of j) = waking_kept w (ends_of j) k in
    subst (λ (a : Acting Constraint). CanBeginJoint (with_woken w.plain (ends_of j)).bodies a (next_joint w.plain) j) wk.acting (record { fresh = can.fresh; awake = can.awake })

pub can_join_from : (w : World) (s : Acting Constraint) (j : BodyJoint) → IsWhole w s → lowest w.plain.joint_entries < MAX_SLOTS → CanBeginJoint (woken_bodies w.plain s (ends_of j)) (woken_from w.plain s (ends_of j)) (next_joint w.plain) j
can_join_from w s j is free = subst (λ (a : Acting Constraint). CanBeginJoint (woken_bodies w.plain a (ends_of j)) (woken_from w.plain a (ends_of j)) (next_joint w.plain) j) (sym is.same) (can_join_at w j (kept_of w s is) free)

-- the joint is there, and its movers are awake
pub record CanEndJoint (bodies : List (Option Body)) (woke : Acting Constraint) (h : Handle) (j : BodyJoint) : Type 0 where
  pub there : (m : Movers) → joint_movers bodies j ≡ Some m → Contains woke.ties (record { id = Joint h; movers = m })
  pub awake : (m : Movers) → joint_movers bodies j ≡ Some m → are_awake woke.labels m ≡ true

can_unjoin_at : (w : World) (h : Handle) (j : BodyJoint) → IsKept w → joint_of w.plain.joint_entries w.plain.joints h ≡ Some j → CanEndJoint (woken_bodies w.plain (acting_of w.plain) (ends_of j)) (woken_from w.plain (acting_of w.plain) (ends_of j)) h j
can_unjoin_at w h j k named =
    let can = can_unjoin w h j k named in
    let wk : IsWoken w (ends_of j) = waking_kept w (ends_of j) k in
    subst (λ (a : Acting Constraint). CanEndJoint (with_woken w.plain (ends_of j)).bodies a h j) wk.acting (record { there = can.there; awake = can.awake })

pub can_unjoin_from : (w : World) (s : Acting Constraint) (h : Handle) (j : BodyJoint) → IsWhole w s → joint_of w.plain.joint_entries w.plain.joints h ≡ Some j → CanEndJoint (woken_bodies w.plain s (ends_of j)) (woken_from w.plain s (ends_of j)) h j
can_unjoin_from w s h j is named = subst (λ (a : Acting Constraint). CanEndJoint (woken_bodies w.plain a (ends_of j)) (woken_from w.plain a (ends_of j)) h j) (sym is.same) (can_unjoin_at w h j (kept_of w s is) named)

-- the ties of a body can end; then it can be taken out of its island, if it is a mover
pub record CanLeaveFrom (w : World) (s : Acting Constraint) (slot : ℕ) : Type 0 where
  pub can : CanEnd constraint_number (ties_at slot w.plain.bodies (joints_in_slots w.plain) w.plain.contacts) (woken_from w.plain s (stirred_slots w.plain slot))
  pub awake : moves w.plain.bodies slot ≡ true → is_mover_awake (ended_from w.plain s slot).labels slot ≡ true
  pub alone : filter (λ m. has_mover m.movers slot) (ended_from w.plain s slot).ties ≡ []

can_leave_at : (w : World) (slot : ℕ) (b : Body) → IsKept w → body_at w.plain.bodies slot ≡ Some b → CanLeaveFrom w (acting_of w.plain) slot
can_leave_at w slot b k at =
    let can : CanLeave w slot = can_leave w slot b k at in
    let wk : IsWoken w (stirred_slots w.plain slot) = waking_kept w (stirred_slots w.plain slot) k in
    let ties = ties_at_alike slot w.plain.bodies (stirred w.plain slot).bodies (joints_in_slots w.plain) w.plain.contacts wk.alike in
    record {
      can = subst (λ (a : Acting Constraint). CanEnd constraint_number (ties_at slot w.plain.bodies (joints_in_slots w.plain) w.plain.contacts) a) wk.acting
          (subst (λ (ms : List (Member Constraint)). CanEnd constraint_number ms (acting_of (stirred w.plain slot))) ties can.can);
      awake = λ e. subst (λ (a : Acting Constraint). is_mover_awake a.labels slot ≡ true) (sym (ended_is w slot k)) (can.awake e);
      alone = subst (λ (a : Acting Constraint). filter (λ m. has_mover m.movers slot) a.ties ≡ []) (sym (ended_is w slot k)) can.alone;
    }

pub can_leave_from : (w : World) (s : Acting Constraint) (h : Handle) (b : Body) → IsWhole w s → body_named w.plain h ≡ Some b → CanLeaveFrom w s h.slot
can_leave_from w s h b is named = subst (λ (a : Acting Constraint). CanLeaveFrom w a h.slot) (sym is.same) (can_leave_at w h.slot b (kept_of w s is) (named_at w.plain h b named))

pub below_joints : (joints : List (Option BodyJoint)) (slot : ℕ) (j : BodyJoint) → joint_at joints slot ≡ Some j → slot < length joints
below_joints [] slot j e = absurd (none-some j e)
below_joints (o ∷ joints) zero j e = omega arith
below_joints (o ∷ joints) (suc slot) j e = let lt = below_joints joints slot j e in omega (arith, lt)

pub joint_below : (w : World) (h : Handle) (j : BodyJoint) → IsKept w → joint_of w.plain.joint_entries w.plain.joints h ≡ Some j → h.slot < length w.plain.joints
joint_below w h j k named = below_joints w.plain.joints h.slot j (live_joint w h j named).1
