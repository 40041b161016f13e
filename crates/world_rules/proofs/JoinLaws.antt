-- Constraints that begin and end while their movers are awake, and joints that come and go: what acts then.
use Rattle.std.proofs.Common.{◌≡◌, ◌⊎◌, ℕ, zero, suc, ◌&&◌, Bool, true, false, cond, nat_lt, List, [], ◌∷◌, ◌++◌, length, Option, Some, None, inl, inr, refl, sym, ap, ◌∙◌, subst, arith}
use Rattle.std.specs.Prelude.{Contains, slice_set}
use Rattle.std.proofs.lemmas.Option.{none-some, same_Some}
use Rattle.graph_colours.specs.declared.member.Movers.{Movers}
use Rattle.graph_colours.specs.declared.member.Member.{Member}
use Rattle.graph_colours.specs.Members.{AreRising, inserted, without_member}
use Rattle.graph_colours.specs.FoundMembers.{has_id}
use Rattle.plain_world.specs.Constraints.{constraint_number}
use Rattle.plain_world.specs.declared.constraint.Constraint.{Constraint}
use Rattle.islands.specs.Labels.{Labels}
use Rattle.islands.proofs.JoinLemmas.{contains_cases}
use Rattle.plain_world.specs.declared.body.Body.{Body}
use Rattle.plain_world.specs.declared.joint.BodyJoint.{BodyJoint}
use Rattle.plain_world.specs.Joints.{AreJoints, IsBodyJoint, joint_at}
use Rattle.plain_world.specs.Plain.{Plain}
use Rattle.plain_world.specs.Slots.{with_item}
use Rattle.sleep_wake.proofs.LengthLemmas.{each_begun_long, each_ended_long}
use Rattle.sleep_wake.specs.Acting.{Acting, IsConsistent, are_awake, is_mover_awake}
use Rattle.sleep_wake.specs.Changes.{begun, each_begun, each_ended, ended}
use Rattle.sleep_wake.specs.ChangeLists.{CanBegin, CanEnd, each_inserted, each_without}
use Rattle.solver_sets.specs.Laws.{with_tie, without_tie}
use Rattle.solver_sets.specs.Tied.{AreTied}
use Rattle.solver_sets.specs.Alike.{AreJointSlots}
use Rattle.plain_world.specs.Bodies.{moves}
use Rattle.solver_sets.specs.Ties.{JointSlots, begun_with, ended_with, is_enabled, movers_if, movers_with, ties_of}
use Rattle.world_rules.specs.Apply.{with_joints}
use Rattle.world_rules.specs.Sets.{acting_of, with_woken}
use Rattle.world_rules.specs.World.{World, joints_in_slots}
use Rattle.world_rules.proofs.ActingLaws.{AreLists, IsActing, IsWoken, lists_kept, waking_kept}
use Rattle.world_rules.proofs.LowerLaws.{awake_stay_awake, beginning_each_keeps, ending_each_keeps, movers_stay}
use Rattle.world_rules.proofs.AwakeLaws.{all_stay, named_awake}
use Rattle.world_rules.proofs.PutLaws.{IsPut, both_put}
use Rattle.world_rules.proofs.SoundLaws.{IsKept}

-- ---- several begin

begun_ties : (m : Member Constraint) (s : Acting Constraint) → (begun constraint_number m s).ties ≡ inserted constraint_number m s.ties
unfolding begun
begun_ties m s = refl

each_begun_ties : (ms : List (Member Constraint)) (s : Acting Constraint) → (each_begun constraint_number ms s).ties ≡ each_inserted constraint_number ms s.ties
each_begun_ties [] s = refl
each_begun_ties (m ∷ ms) s = each_begun_ties ms (begun constraint_number m s) ∙ ap (each_inserted constraint_number ms) (begun_ties m s)

-- what acts in the lists of u after a change of what acted as s, and nobody who was awake then fell asleep
pub record IsNext (u : Plain) (s new : Acting Constraint) : Type 0 where
  pub acting : IsActing u new
  pub awake : (k : ℕ) → is_mover_awake s.labels k ≡ true → is_mover_awake new.labels k ≡ true

pub next_begun : (u : Plain) (s : Acting Constraint) (ms : List (Member Constraint)) → IsConsistent constraint_number s → AreTied u.bodies s.labels → length s.labels ≡ length u.bodies → CanBegin constraint_number ms s → ties_of u.bodies (joints_in_slots u) u.contacts ≡ each_inserted constraint_number ms s.ties
    → IsNext u s (each_begun constraint_number ms s)
next_begun u s ms consistent tied long can ties = record {
  acting = record {
    consistent = beginning_each_keeps s ms consistent can;
    ties = each_begun_ties ms s ∙ sym ties;
    tied = λ k. movers_stay.begun s ms k ∙ tied k;
    long = each_begun_long constraint_number ms s ∙ long;
  };
  awake = awake_stay_awake.begun s ms consistent can;
}

-- ---- several end

ended_ties : (m : Member Constraint) (s : Acting Constraint) → (ended constraint_number m s).ties ≡ without_member constraint_number m.id s.ties
unfolding ended
ended_ties m s = refl

pub each_ended_ties : (ms : List (Member Constraint)) (s : Acting Constraint) → (each_ended constraint_number ms s).ties ≡ each_without constraint_number ms s.ties
each_ended_ties [] s = refl
each_ended_ties (m ∷ ms) s = each_ended_ties ms (ended constraint_number m s) ∙ ap (each_without constraint_number ms) (ended_ties m s)

pub next_ended : (u : Plain) (s : Acting Constraint) (ms : List (Member Constraint)) → IsConsistent constraint_number s → AreTied u.bodies s.labels → length s.labels ≡ length u.bodies → CanEnd constraint_number ms s → ties_of u.bodies (joints_in_slots u) u.contacts ≡ each_without constraint_number ms s.ties
    → IsNext u s (each_ended constraint_number ms s)
next_ended u s ms consistent tied long can ties = record {
  acting = record {
    consistent = ending_each_keeps s ms consistent can;
    ties = each_ended_ties ms s ∙ sym ties;
    tied = λ k. movers_stay.ended s ms k ∙ tied k;
    long = each_ended_long constraint_number ms s ∙ long;
  };
  awake = awake_stay_awake.ended s ms consistent can;
}

-- ---- one begins or ends

none_in : (m x : Member Constraint) → Contains [] x → m ≡ x
none_in m x h = absurd (omega (arith, h.1))

only_one : (m x : Member Constraint) → Contains (m ∷ []) x → m ≡ x
only_one m x h = elim (contains_cases m [] x h) [ inl e ↦ e | inr q ↦ none_in m x q ]

one_rises : (m : Member Constraint) → AreRising constraint_number (m ∷ [])
one_rises m = λ i j d lt within. absurd (omega (arith, lt, within))

-- it can begin if it isn't there yet and its movers are awake
pub one_can_begin : (m : Member Constraint) (s : Acting Constraint) → has_id constraint_number m.id s.ties ≡ false → are_awake s.labels m.movers ≡ true → CanBegin constraint_number (m ∷ []) s
one_can_begin m s fresh up = record {
  rising = one_rises m;
  fresh = λ x h. subst (λ (v : Member Constraint). has_id constraint_number v.id s.ties ≡ false) (only_one m x h) fresh;
  awake = λ x h. subst (λ (v : Member Constraint). are_awake s.labels v.movers ≡ true) (only_one m x h) up;
}

-- it can end if it is there and its movers are awake
pub one_can_end : (m : Member Constraint) (s : Acting Constraint) → Contains s.ties m → are_awake s.labels m.movers ≡ true → CanEnd constraint_number (m ∷ []) s
one_can_end m s there up = record {
  rising = one_rises m;
  there = λ x h. subst (Contains s.ties) (only_one m x h) there;
  awake = λ x h. subst (λ (v : Member Constraint). are_awake s.labels v.movers ≡ true) (only_one m x h) up;
}

-- the constraint of this name has movers that are awake, or none
abbrev pub AreUp : Labels → Option Movers → Type 0
AreUp labels o = (m : Movers) → o ≡ Some m → are_awake labels m ≡ true

pub next_begun_with : (w : World) (joints : JointSlots) (id : Constraint) (o : Option Movers) → IsKept w → has_id constraint_number id (ties_of w.plain.bodies (joints_in_slots w.plain) w.plain.contacts) ≡ false → AreUp w.plain.islands o
    → ties_of w.plain.bodies joints w.plain.contacts ≡ with_tie id o (ties_of w.plain.bodies (joints_in_slots w.plain) w.plain.contacts) → IsNext (with_joints joints w.plain) (acting_of w.plain) (begun_with id o (acting_of w.plain))
unfolding acting_of
next_begun_with w joints id None k fresh up ties = record { acting = record { consistent = k.consistent; ties = sym ties; tied = k.tied; long = k.labels }; awake = λ j h. h }
next_begun_with w joints id (Some m) k fresh up ties =
    let member : Member Constraint = record { id = id; movers = m } in
    next_begun (with_joints joints w.plain) (acting_of w.plain) (member ∷ []) k.consistent k.tied k.labels (one_can_begin member (acting_of w.plain) fresh (up m refl)) ties

pub next_ended_with : (w : World) (joints : JointSlots) (id : Constraint) (o : Option Movers) → IsKept w → ((m : Movers) → o ≡ Some m → Contains (ties_of w.plain.bodies (joints_in_slots w.plain) w.plain.contacts) (record { id = id; movers = m })) → AreUp w.plain.islands o
    → ties_of w.plain.bodies joints w.plain.contacts ≡ without_tie id o (ties_of w.plain.bodies (joints_in_slots w.plain) w.plain.contacts) → IsNext (with_joints joints w.plain) (acting_of w.plain) (ended_with id o (acting_of w.plain))
unfolding acting_of
next_ended_with w joints id None k there up ties = record { acting = record { consistent = k.consistent; ties = sym ties; tied = k.tied; long = k.labels }; awake = λ j h. h }
next_ended_with w joints id (Some m) k there up ties =
    let member : Member Constraint = record { id = id; movers = m } in
    next_ended (with_joints joints w.plain) (acting_of w.plain) (member ∷ []) k.consistent k.tied k.labels (one_can_end member (acting_of w.plain) (there m refl) (up m refl)) ties

-- ---- the movers of two bodies that were woken

both_up : (labels : Labels) (a b : ℕ) → is_mover_awake labels a ≡ true → is_mover_awake labels b ≡ true → are_awake labels (record { first = a; second = Some b }) ≡ true
both_up labels a b e f = rw (e, f) refl

one_up : (labels : Labels) (a : ℕ) → is_mover_awake labels a ≡ true → are_awake labels (record { first = a; second = None }) ≡ true
one_up labels a e = rw e refl

pair_up : (labels : Labels) (t x y : Bool) (a b : ℕ) (m : Movers) → cond t (movers_if x y a b) None ≡ Some m → (x ≡ true → is_mover_awake labels a ≡ true) → (y ≡ true → is_mover_awake labels b ≡ true) → are_awake labels m ≡ true
pair_up labels true true true a b m e f g = subst (λ (v : Movers). are_awake labels v ≡ true) (same_Some (record { first = a; second = Some b }) m e) (both_up labels a b (f refl) (g refl))
pair_up labels true true false a b m e f g = subst (λ (v : Movers). are_awake labels v ≡ true) (same_Some (record { first = a; second = None }) m e) (one_up labels a (f refl))
pair_up labels true false true a b m e f g = subst (λ (v : Movers). are_awake labels v ≡ true) (same_Some (record { first = b; second = None }) m e) (one_up labels b (g refl))
pair_up labels true false false a b m e f g = absurd (none-some m e)
pair_up labels false x y a b m e f g = absurd (none-some m e)

-- those of two bodies are awake if each of the two is, where it is a mover
pub ends_up : (bodies : List (Option Body)) (labels : Labels) (a b : ℕ) → (moves bodies a ≡ true → is_mover_awake labels a ≡ true) → (moves bodies b ≡ true → is_mover_awake labels b ≡ true) → AreUp labels (movers_with bodies a b)
ends_up bodies labels a b f g m e = pair_up labels (is_enabled bodies a && is_enabled bodies b) (moves bodies a) (moves bodies b) a b m e f g

-- one that was woken is awake if it is a mover
pub woken_up : (w : World) (slots : List ℕ) (slot : ℕ) → IsKept w → Contains slots slot → moves (with_woken w.plain slots).bodies slot ≡ true → is_mover_awake (with_woken w.plain slots).islands slot ≡ true
woken_up w slots slot k h moving = let wk : IsWoken w slots = waking_kept w slots k in named_awake w slots slot k h (sym (wk.alike.movers slot) ∙ moving)

-- ---- a kept world with other joints

pub joints_put : (w : World) (joints : JointSlots) (s : Acting Constraint) → IsKept w → AreJointSlots joints → AreJoints w.plain.bodies joints.joints → IsNext (with_joints joints w.plain) (acting_of w.plain) s → IsPut (record w { plain = with_joints joints w.plain }) s
unfolding acting_of
joints_put w joints s k slots are next =
    let l : AreLists w = lists_kept w k in
    both_put (record w { plain = with_joints joints w.plain }) s (record {
      total_x = l.total_x;
      total_y = l.total_y;
      causes = l.causes;
      bodies = l.bodies;
      filters = l.filters;
      timers = l.timers;
      matched = l.matched;
      slot_entries = l.slot_entries;
      joint_slots = slots.matched;
      joint_entries = slots.slot_entries;
      joints = are;
      contacts = l.contacts;
      pairs = l.pairs;
      there = l.there;
      gravity = l.gravity;
      steps = l.steps;
      calls = l.calls;
    }) next.acting (all_stay w s.labels k next.awake)

-- ---- joints by slot

set_in : (joints : List (Option BodyJoint)) (slot k : ℕ) (j i : BodyJoint) → joint_at (slice_set joints slot (Some j)) k ≡ Some i → (j ≡ i) ⊎ (joint_at joints k ≡ Some i)
set_in [] slot k j i e = inr e
set_in (o ∷ joints) zero zero j i e = inl (same_Some j i e)
set_in (o ∷ joints) zero (suc k) j i e = inr e
set_in (o ∷ joints) (suc slot) zero j i e = inr e
set_in (o ∷ joints) (suc slot) (suc k) j i e = set_in joints slot k j i e

push_in : (joints : List (Option BodyJoint)) (k : ℕ) (j i : BodyJoint) → joint_at (joints ++ Some j ∷ []) k ≡ Some i → (j ≡ i) ⊎ (joint_at joints k ≡ Some i)
push_in [] zero j i e = inl (same_Some j i e)
push_in [] (suc k) j i e = inr e
push_in (o ∷ joints) zero j i e = inr e
push_in (o ∷ joints) (suc k) j i e = push_in joints k j i e

with_in : (t : Bool) (joints : List (Option BodyJoint)) (slot k : ℕ) (j i : BodyJoint) → joint_at (cond t (slice_set joints slot (Some j)) (joints ++ Some j ∷ [])) k ≡ Some i → (j ≡ i) ⊎ (joint_at joints k ≡ Some i)
with_in true joints slot k j i e = set_in joints slot k j i e
with_in false joints slot k j i e = push_in joints k j i e

-- with a joint that is made
pub joints_with : (bodies : List (Option Body)) (joints : List (Option BodyJoint)) (slot : ℕ) (j : BodyJoint) → IsBodyJoint bodies j → AreJoints bodies joints → AreJoints bodies (with_item joints slot j)
joints_with bodies joints slot j is all k i at = elim (with_in (nat_lt slot (length joints)) joints slot k j i at) [
  | inl e ↦ subst (IsBodyJoint bodies) e is
  | inr e ↦ all k i e
]

gone_in : (joints : List (Option BodyJoint)) (slot k : ℕ) (i : BodyJoint) → joint_at (slice_set joints slot None) k ≡ Some i → joint_at joints k ≡ Some i
gone_in [] slot k i e = e
gone_in (o ∷ joints) zero zero i e = absurd (none-some i e)
gone_in (o ∷ joints) zero (suc k) i e = e
gone_in (o ∷ joints) (suc slot) zero i e = e
gone_in (o ∷ joints) (suc slot) (suc k) i e = gone_in joints slot k i e

-- without one that goes
pub joints_gone : (bodies : List (Option Body)) (joints : List (Option BodyJoint)) (slot : ℕ) → AreJoints bodies joints → AreJoints bodies (slice_set joints slot None)
joints_gone bodies joints slot all k i at = all k i (gone_in joints slot k i at)
