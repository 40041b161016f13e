-- What a body that is destroyed and one that is disabled have in common: those are woken whom that wakes, its ties end,
-- and a mover leaves its island.
use Rattle.std.proofs.Common.{◌≡◌, ◌∙◌, ◌<◌, ℕ, Bool, true, cond, filter, List, [], Option, Some, None, length, slice_set, refl, ap, arith}
use Rattle.std.proofs.lemmas.List.{length-set}
use Rattle.body_handles.specs.declared.handle.Handle.{Handle}
use Rattle.plain_world.specs.Constraints.{constraint_number}
use Rattle.plain_world.specs.declared.constraint.Constraint.{Constraint}
use Rattle.contacts.specs.declared.number_book.NumberedContact.{NumberedContact}
use Rattle.contacts.specs.Numbered.{AreNumbered, IsTurnover}
use Rattle.contacts_base.specs.Contacts.{contacts_without}
use Rattle.graph_colours.specs.declared.member.Member.{Member}
use Rattle.graph_colours.specs.Movers.{has_mover}
use Rattle.islands.specs.Labels.{Labels}
use Rattle.plain_world.specs.declared.body.Body.{Body}
use Rattle.plain_world.specs.Bodies.{is_mover, is_mover_in}
use Rattle.plain_world.specs.Joints.{is_end_in, joint_at}
use Rattle.plain_world.specs.Sleep.{told}
use Rattle.sleep_wake.specs.Acting.{Acting, is_mover_awake}
use Rattle.sleep_wake.specs.Bodies.{mover_gone}
use Rattle.sleep_wake.specs.Changes.{each_ended}
use Rattle.sleep_wake.specs.ChangeLists.{CanEnd}
use Rattle.sleep_wake.specs.Sleeping.{islands_woken, sleeping_names}
use Rattle.solver_sets.specs.Beside.{stirred_by}
use Rattle.solver_sets.specs.Ties.{ties_at}
use Rattle.world_rules.specs.World.{World, body_named, joints_in_slots}
use Rattle.world_rules.proofs.KeptChanges.{named_at}
use Rattle.world_rules.proofs.PartsLeft.{stirred_slots, woken_bodies}
use Rattle.world_rules.proofs.ToldLaws.{length_told}
use Rattle.world_core_base.specs.Asleep.{AreContactSets, joint_sleep}
use Rattle.world_core_base.specs.Sleeping.{Sleeping}
use Rattle.world_core.specs.Inside.{IsWhole}
use Rattle.world_core.proofs.ChangedJointLaws.{set_beside}
use Rattle.world_core.proofs.EnableLaws.{body_below}
use Rattle.world_core.proofs.LeavingLaws.{gone_now}
use Rattle.world_core.proofs.PartLaws.{can_leave_from}
use Rattle.world_core.proofs.UpContactLaws.{contacts_leave, own_contact_up}
use Rattle.world_core.proofs.UpJointLaws.{own_stirred_up}

-- of what acts once those are woken, with the body's ties as they were listed: what is asked for before it leaves, and
-- what it leaves
pub record IsGoing (w : World) (s now : Acting Constraint) (h : Handle) (b : Body) (mover : Bool) (ties : List (Member Constraint)) : Type 0 where
  pub can : CanEnd constraint_number ties now
  pub awake : mover ≡ true → is_mover_awake (each_ended constraint_number ties now).labels h.slot ≡ true
  pub alone : mover ≡ true → filter (λ m. has_mover m.movers h.slot) (each_ended constraint_number ties now).ties ≡ []
  pub gone : cond mover (mover_gone constraint_number h.slot (each_ended constraint_number ties now)) (each_ended constraint_number ties now) ≡ gone_now w s h b
  pub bodies : told now.labels w.plain.bodies ≡ woken_bodies w.plain s (stirred_slots w.plain h.slot)

pub is_going : (w : World) (s now : Acting Constraint) (h : Handle) (b : Body) (mover : Bool) (ties : List (Member Constraint)) (names : List _) → IsWhole w s → body_named w.plain h ≡ Some b → mover ≡ is_mover b
    → ties ≡ ties_at h.slot w.plain.bodies (joints_in_slots w.plain) w.plain.contacts → names ≡ sleeping_names w.plain.islands (stirred_by w.plain.bodies w.plain.joints w.plain.contacts h.slot) → now ≡ islands_woken constraint_number names s
    → IsGoing w s now h b mover ties
is_going w s now h b mover ties names is named mover_is ties_are names_are woke =
    let from = can_leave_from w s h b is named in
    rw (woke, names_are, ties_are, mover_is) (record {
      can = from.can;
      awake = λ e. from.awake (ap is_mover_in (named_at w.plain h b named) ∙ e);
      alone = λ e. from.alone;
      gone = refl;
      bodies = refl;
    })

-- the body stays in its slot while others are woken
pub there_still : (w : World) (h : Handle) (b : Body) (labels : Labels) (bodies : List (Option Body)) → body_named w.plain h ≡ Some b → bodies ≡ told labels w.plain.bodies → h.slot < length bodies
there_still w h b labels bodies named are = rw (are, length_told labels w.plain.bodies) (body_below w h b named)

-- ---- the sets once those are woken

module _ {w : World} {s now : Acting Constraint} {h : Handle} {b : Body} {mover : Bool} {ties : List (Member Constraint)} (going : IsGoing w s now h b mover ties) (is : IsWhole w s) (woke : List (Option Body)) (told_is : woke ≡ told now.labels w.plain.bodies) where
  -- no joint of the body sleeps
  pub joints_up : (k : ℕ) → is_end_in h.slot (joint_at w.plain.joints k) ≡ true → joint_sleep woke w.plain.joints k ≡ None
  joints_up k own = rw (told_is, going.bodies) (own_stirred_up w s h.slot k is own)

  -- something else is in its slot now, and its contacts have gone
  pub contacts_gone : (new : List (Option Body)) (o : Option Body) → new ≡ slice_set woke h.slot o → (old numbered : List (Option NumberedContact)) (made gone : List ℕ) (sets : Sleeping) → AreNumbered w.plain.contacts old → AreNumbered (contacts_without h.slot w.plain.contacts) numbered
      → IsTurnover old numbered made gone → made ≡ [] → AreContactSets woke old sets → AreContactSets new numbered sets
  contacts_gone new o set old numbered made gone sets was is_now turn none standing =
      contacts_leave woke new h.slot w.plain.contacts old numbered made gone sets was is_now turn none
      (λ e there own touch. rw (told_is, going.bodies) (own_contact_up w s h.slot e is there own touch))
      (rw set (set_beside woke h.slot o))
      (let long = ap (λ (os : List (Option Body)). length os) set ∙ length-set woke h.slot o in omega (arith, long))
      standing
