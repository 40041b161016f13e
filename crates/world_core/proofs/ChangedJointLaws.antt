-- The sets of joints where a body leaves, comes, is disabled or is enabled, and where a joint goes: they stay as they
-- are, since whoever sleeps does so as before.
use Rattle.std.proofs.Common.{◌≡◌, ◌≢◌, ℕ, zero, suc, ◌<◌, ◌≤◌, Bool, true, false, cond, List, [], ◌∷◌, length, slice_set, pos, Option, Some, None, is_some, inl, inr, refl, sym, ap, ◌∙◌, subst, arith}
use Rattle.std.specs.Prelude.{option_map}
use Rattle.std.proofs.lemmas.Bool.{cases_eq, false≢true}
use Rattle.std.proofs.lemmas.List.{length-set}
use Rattle.plain_world.specs.declared.body.Body.{Body}
use Rattle.plain_world.specs.declared.joint.BodyJoint.{BodyJoint}
use Rattle.plain_world.specs.Bodies.{is_mover_in}
use Rattle.plain_world.specs.Changes.{changed_at, disabled_body, enabled_body}
use Rattle.plain_world.specs.Joints.{AreJoints, idle_if, idle_joints, is_end_in, is_joint_of, joint_at}
use Rattle.plain_world.specs.Slots.{body_at, with_body}
use Rattle.solver_sets.proofs.SlotLemmas.{item_at-set_none, item_at-set_other}
use Rattle.solver_sets.specs.Joining.{handle_at, unjoined, unjoined_all, unjoined_up}
use Rattle.solver_sets.specs.Ties.{JointSlots, is_enabled, is_enabled_in}
use Rattle.islands.proofs.JoinLemmas.{contains_head}
use Rattle.world_core_base.proofs.AsleepLaws.{alike_own, with_item_other}
use Rattle.world_core_base.proofs.JointAsleepLaws.{joint_alike, joint_named, joints_as, joints_by_ends}
use Rattle.world_core_base.proofs.TieSleepLaws.{both_far}
use Rattle.world_core_base.proofs.JointEndLaws.{item_at-same}
use Rattle.world_core_base.proofs.OwnJointLaws.{below_if}
use Rattle.world_core_base.specs.Following.{CanFollow}
use Rattle.world_core_base.proofs.SolvingJoints.{bare_entry, bare_joints, joint_bare}
use Rattle.world_core_base.specs.JointEnds.{KeepEnds, ends_of}
use Rattle.world_core_base.specs.Asleep.{AreJointSets, AreNamedAsleep, IsOfNone, IsSleepAlike, asleep_in, joint_sleep, movers_of_joint, sleep_with}
use Rattle.world_core_base.specs.Sleeping.{Sleeping, sleep_at}

-- ---- joints of a body that leaves

-- of a joint, once those of the body in the slots below n are gone
record IsWithout (body n k : ℕ) (old new : List (Option BodyJoint)) : Type 0 where
  gone : k < n → is_end_in body (joint_at old k) ≡ true → joint_at new k ≡ None
  left : is_end_in body (joint_at old k) ≡ false → joint_at new k ≡ joint_at old k
  late : n ≤ k → joint_at new k ≡ joint_at old k

without_own : (body n k : ℕ) (old before : List (Option BodyJoint)) → IsWithout body n k old before → IsWithout body n n old before → is_end_in body (joint_at before n) ≡ true → IsWithout body (suc n) k old (slice_set before n None)
without_own body n k old before was here own = elim (cases_eq k n) [
  | inl same ↦ record {
    gone = λ lt e. ap (joint_at (slice_set before n None)) same ∙ item_at-set_none before n;
    left = λ e. absurd (false≢true (sym e ∙ ap (λ (m : ℕ). is_end_in body (joint_at old m)) same ∙ ap (is_end_in body) (sym (here.late (omega arith))) ∙ own));
    late = λ le. absurd (omega (arith, le, same));
  }
  | inr far ↦ record {
    gone = λ lt e. item_at-set_other before n None k far ∙ was.gone (omega (arith, lt, far)) e;
    left = λ e. item_at-set_other before n None k far ∙ was.left e;
    late = λ le. item_at-set_other before n None k far ∙ was.late (omega (arith, le));
  }
]

without_other : (body n k : ℕ) (old before : List (Option BodyJoint)) → IsWithout body n k old before → IsWithout body n n old before → is_end_in body (joint_at before n) ≡ false → IsWithout body (suc n) k old before
without_other body n k old before was here off = elim (cases_eq k n) [
  | inl same ↦ record {
    gone = λ lt e. absurd (false≢true (sym off ∙ ap (is_end_in body) (here.late (omega arith)) ∙ ap (λ (m : ℕ). is_end_in body (joint_at old m)) (sym same) ∙ e));
    left = was.left;
    late = λ le. was.late (omega (arith, le));
  }
  | inr far ↦ record { gone = λ lt e. was.gone (omega (arith, lt, far)) e; left = was.left; late = λ le. was.late (omega (arith, le)) }
]

without_up : (body n : ℕ) (s : JointSlots) (k : ℕ) → IsWithout body n k s.joints (unjoined_up body n s).joints
without_up body zero s k = record { gone = λ lt e. absurd (omega (arith, lt)); left = λ e. refl; late = λ le. refl }
without_up body (suc n) s k = by (unjoined_up body n s) (without_up body n s k) (without_up body n s n) (is_end_in body (joint_at (unjoined_up body n s).joints n)) refl
  where
    by : (before : JointSlots) → IsWithout body n k s.joints before.joints → IsWithout body n n s.joints before.joints → (t : Bool) → is_end_in body (joint_at before.joints n) ≡ t → IsWithout body (suc n) k s.joints (cond t (unjoined (handle_at before.slot_entries n) before) before).joints
    by before was here true own = without_own body n k s.joints before.joints was here own
    by before was here false off = without_other body n k s.joints before.joints was here off

without_all : (body : ℕ) (s : JointSlots) (k : ℕ) → IsWithout body (length s.joints) k s.joints (unjoined_all body s).joints
without_all body s k = without_up body (length s.joints) s k

-- no joint that is left has an end at the body
left_apart : (body : ℕ) (s : JointSlots) (k : ℕ) (j : BodyJoint) → joint_at (unjoined_all body s).joints k ≡ Some j → is_joint_of body j ≡ false
left_apart body s k j at = by (is_end_in body (joint_at s.joints k)) refl
  where
    by : (t : Bool) → is_end_in body (joint_at s.joints k) ≡ t → is_joint_of body j ≡ false
    by true e = let none : None ≡ Some j = sym ((without_all body s k).gone (below_if body s.joints k e) e) ∙ at in cc
    by false e = ap (is_end_in body) (sym at ∙ (without_all body s k).left e) ∙ e

-- ---- joints of other bodies

-- a joint that has no end at the slot in which the body is another
pub joint_far : (old new : List (Option Body)) (slot : ℕ) (o : Option BodyJoint) → ((other : ℕ) → other ≢ slot → IsSleepAlike (body_at old other) (body_at new other)) → is_end_in slot o ≡ false → sleep_with new (movers_of_joint new o) ≡ sleep_with old (movers_of_joint old o)
joint_far old new slot o others off = joint_alike old new o (λ j at. both_far old new slot j.a j.b others (ap (is_end_in slot) (sym at) ∙ off))

-- whoever is in another slot than one that is set is as before
pub set_beside : (bodies : List (Option Body)) (slot : ℕ) (o : Option Body) (other : ℕ) → other ≢ slot → IsSleepAlike (body_at bodies other) (body_at (slice_set bodies slot o) other)
set_beside bodies slot o other far = subst (IsSleepAlike (body_at bodies other)) (sym (item_at-set_other bodies slot o other far)) (alike_own (body_at bodies other))

-- a body leaves its slot with its joints, of which none sleeps
pub body_leaves : (bodies : List (Option Body)) (body : ℕ) (s : JointSlots) (sets : Sleeping) → ((k : ℕ) → is_end_in body (joint_at s.joints k) ≡ true → joint_sleep bodies s.joints k ≡ None) → AreJointSets bodies s.joints sets → AreJointSets (slice_set bodies body None) (unjoined_all body s).joints sets
body_leaves bodies body s sets up are = joints_as bodies now s.joints next sets sets (λ k. each k (is_end_in body (joint_at s.joints k)) refl) (λ k. refl) (λ k. items k (is_end_in body (joint_at s.joints k)) refl) (let long = length-set bodies body None in let room = are.named in omega (arith, long, room)) are
  where
    now : List (Option Body)
    now = slice_set bodies body None

    next : List (Option BodyJoint)
    next = (unjoined_all body s).joints

    each : (k : ℕ) (t : Bool) → is_end_in body (joint_at s.joints k) ≡ t → joint_sleep now next k ≡ joint_sleep bodies s.joints k
    each k true e = ap (λ (o : Option BodyJoint). sleep_with now (movers_of_joint now o)) ((without_all body s k).gone (below_if body s.joints k e) e) ∙ sym (up k e)
    each k false e = ap (λ (o : Option BodyJoint). sleep_with now (movers_of_joint now o)) ((without_all body s k).left e) ∙ joint_far bodies now body (joint_at s.joints k) (set_beside bodies body None) e

    items : (k : ℕ) (t : Bool) → is_end_in body (joint_at s.joints k) ≡ t → is_some (joint_at next k) ≡ true → k < length sets.names
    items k true e on = absurd (false≢true (sym (ap (λ (o : Option BodyJoint). is_some o) ((without_all body s k).gone (below_if body s.joints k e) e)) ∙ on))
    items k false e on = are.items k (sym (ap (λ (o : Option BodyJoint). is_some o) ((without_all body s k).left e)) ∙ on)

-- a body comes into a free slot, at which no joint has an end
pub body_comes : (bodies : List (Option Body)) (joints : List (Option BodyJoint)) (slot : ℕ) (b : Body) (before after : Sleeping) → AreJoints bodies joints → body_at bodies slot ≡ None → slot ≤ length bodies → ((k : ℕ) → sleep_at after.names k ≡ sleep_at before.names k) → length before.names ≤ length after.names → length (with_body bodies slot b) ≤ length after.sets
    → AreJointSets bodies joints before → AreJointSets (with_body bodies slot b) joints after
body_comes bodies joints slot b before after there free le same more room are = joints_as bodies (with_body bodies slot b) joints joints before after (λ k. joint_alike bodies (with_body bodies slot b) (joint_at joints k) (λ j e. (beside j.a (there k j e).first, beside j.b (there k j e).second))) same
    (λ k on. let lt = are.items k on in omega (arith, lt, more)) room are
  where
    beside : (k : ℕ) → is_some (body_at bodies k) ≡ true → IsSleepAlike (body_at bodies k) (body_at (with_body bodies slot b) k)
    beside k on = subst (IsSleepAlike (body_at bodies k)) (sym (with_item_other bodies slot b k le (λ e. false≢true (sym (ap (λ (i : ℕ). is_some (body_at bodies i)) e ∙ ap (λ (o : Option Body). is_some o) free) ∙ on)))) (alike_own (body_at bodies k))

-- ---- one joint that goes, and doesn't sleep

pub joint_leaves : (bodies : List (Option Body)) (joints : List (Option BodyJoint)) (slot : ℕ) (sets : Sleeping) → joint_sleep bodies joints slot ≡ None → AreJointSets bodies joints sets → AreJointSets bodies (slice_set joints slot None) sets
joint_leaves bodies joints slot sets up are = joints_as bodies bodies joints (slice_set joints slot None) sets sets each (λ k. refl) items are.named are
  where
    each : (k : ℕ) → joint_sleep bodies (slice_set joints slot None) k ≡ joint_sleep bodies joints k
    each k = elim (cases_eq k slot) [
      | inl same ↦ subst (λ (i : ℕ). joint_sleep bodies (slice_set joints slot None) i ≡ joint_sleep bodies joints i) (sym same) (ap (λ (o : Option BodyJoint). sleep_with bodies (movers_of_joint bodies o)) (item_at-set_none joints slot) ∙ sym up)
      | inr far ↦ ap (λ (o : Option BodyJoint). sleep_with bodies (movers_of_joint bodies o)) (item_at-set_other joints slot None k far)
    ]

    items : (k : ℕ) → is_some (joint_at (slice_set joints slot None) k) ≡ true → k < length sets.names
    items k on = elim (cases_eq k slot) [
      | inl same ↦ absurd (false≢true (sym (ap (λ (i : ℕ). is_some (joint_at (slice_set joints slot None) i)) same ∙ ap (λ (o : Option BodyJoint). is_some o) (item_at-set_none joints slot)) ∙ on))
      | inr far ↦ are.items k (sym (ap (λ (o : Option BodyJoint). is_some o) (item_at-set_other joints slot None k far)) ∙ on)
    ]

-- ---- a body that is changed in its slot

-- with joints that keep their ends, of which those of the body didn't sleep and don't
pub body_changed : (old new : List (Option Body)) (joints next : List (Option BodyJoint)) (slot : ℕ) (sets : Sleeping) → length new ≤ length old → KeepEnds joints next → ((other : ℕ) → other ≢ slot → IsSleepAlike (body_at old other) (body_at new other))
    → ((k : ℕ) → is_end_in slot (joint_at joints k) ≡ true → joint_sleep old joints k ≡ None) → ((k : ℕ) → is_end_in slot (joint_at joints k) ≡ true → joint_sleep new joints k ≡ None) → AreJointSets old joints sets → AreJointSets new next sets
body_changed old new joints next slot sets long keep others was is are = joints_by_ends new joints next sets keep (joints_as old new joints joints sets sets (λ k. each k (is_end_in slot (joint_at joints k)) refl) (λ k. refl) are.items (let room = are.named in omega (arith, long, room)) are)
  where
    each : (k : ℕ) (t : Bool) → is_end_in slot (joint_at joints k) ≡ t → joint_sleep new joints k ≡ joint_sleep old joints k
    each k true e = is k e ∙ sym (was k e)
    each k false e = joint_far old new slot (joint_at joints k) others e

-- ---- a body that is disabled or enabled

pub disabled_off : (bodies : List (Option Body)) (slot : ℕ) → slot < length bodies → is_enabled (changed_at disabled_body bodies slot) slot ≡ false
disabled_off bodies slot lt = ap is_enabled_in (item_at-same bodies slot (option_map disabled_body (body_at bodies slot)) lt) ∙ by (body_at bodies slot)
  where
    by : (o : Option Body) → is_enabled_in (option_map disabled_body o) ≡ false
    by None = refl
    by (Some b) = refl

-- nobody that was just enabled sleeps
pub enabled_named : (bodies : List (Option Body)) (slot : ℕ) → slot < length bodies → AreNamedAsleep bodies → AreNamedAsleep (changed_at enabled_body bodies slot)
enabled_named bodies slot lt named k name mover h = elim (cases_eq k slot) [
  | inl same ↦ absurd (up (body_at bodies slot) (sym (ap asleep_in (ap (body_at (changed_at enabled_body bodies slot)) same ∙ item_at-same bodies slot (option_map enabled_body (body_at bodies slot)) lt)) ∙ h))
  | inr far ↦ (let here : body_at (changed_at enabled_body bodies slot) k ≡ body_at bodies k = item_at-set_other bodies slot (option_map enabled_body (body_at bodies slot)) k far in
      let below = named k name (sym (ap is_mover_in here) ∙ mover) (sym (ap asleep_in here) ∙ h) in
      let long = length-set bodies slot (option_map enabled_body (body_at bodies slot)) in
      omega (arith, below, long))
]
  where
    up : (o : Option Body) → asleep_in (option_map enabled_body o) ≡ Some name → ⊥
    up None e = cc
    up (Some b) e = cc

joint_slept : (bodies : List (Option Body)) (o : Option BodyJoint) (name : ℕ) → sleep_with bodies (movers_of_joint bodies o) ≡ Some name → is_some o ≡ true
joint_slept bodies None name h = cc
joint_slept bodies (Some j) name h = refl

-- the joints can follow, where those of the body didn't sleep
pub changed_can_follow : (old new : List (Option Body)) (joints : List (Option BodyJoint)) (slot : ℕ) (sets : Sleeping) → length new ≤ length old → ((other : ℕ) → other ≢ slot → IsSleepAlike (body_at old other) (body_at new other)) → ((k : ℕ) → is_end_in slot (joint_at joints k) ≡ true → joint_sleep old joints k ≡ None) → AreNamedAsleep new
    → AreJointSets old joints sets → CanFollow (sleep_at sets.names) (joint_sleep new joints) (length sets.names) (length sets.sets)
changed_can_follow old new joints slot sets long others up named are = record {
  keeps = λ k name h. inl (still k name h);
  whole = λ k other name h now. still k name h;
  named = λ k name h. let below = joint_named new (joint_at joints k) name named h in let room = are.named in omega (arith, below, room, long);
  below = λ k name h. are.items k (joint_slept new (joint_at joints k) name h);
}
  where
    by_end : (k name : ℕ) → sleep_at sets.names k ≡ Some name → (t : Bool) → is_end_in slot (joint_at joints k) ≡ t → joint_sleep new joints k ≡ Some name
    by_end k name h true t = let both : None ≡ Some name = sym (are.asleep k ∙ up k t) ∙ h in cc
    by_end k name h false t = joint_far old new slot (joint_at joints k) others t ∙ sym (are.asleep k) ∙ h

    still : (k name : ℕ) → sleep_at sets.names k ≡ Some name → joint_sleep new joints k ≡ Some name
    still k name h = by_end k name h (is_end_in slot (joint_at joints k)) refl

-- those with no end at the slot
pub changed_beside : (old new : List (Option Body)) (joints : List (Option BodyJoint)) (slot : ℕ) (sets : Sleeping) → ((other : ℕ) → other ≢ slot → IsSleepAlike (body_at old other) (body_at new other)) → AreJointSets old joints sets
    → (k : ℕ) → IsOfNone (slot ∷ []) (joint_at joints k) → joint_sleep new joints k ≡ sleep_at sets.names k
changed_beside old new joints slot sets others are k off = joint_far old new slot (joint_at joints k) others (off slot (contains_head slot [])) ∙ sym (are.asleep k)

-- ---- joints without their impulses

idle_at : (slot : ℕ) (joints : List (Option BodyJoint)) (k : ℕ) → joint_at (idle_joints slot joints) k ≡ option_map (idle_if slot) (joint_at joints k)
idle_at slot [] k = refl
idle_at slot (o ∷ joints) zero = refl
idle_at slot (o ∷ joints) (suc k) = idle_at slot joints k

idle_end : (slot : ℕ) (j : BodyJoint) → ends_of (idle_if slot j) ≡ ends_of j
idle_end slot j = by (is_joint_of slot j)
  where
    by : (t : Bool) → ends_of (cond t (record j { joint = record j.joint { impulse = pos 0 } }) j) ≡ ends_of j
    by true = refl
    by false = refl

idle_in : (slot : ℕ) (o : Option BodyJoint) → option_map ends_of (option_map (idle_if slot) o) ≡ option_map ends_of o
idle_in slot None = refl
idle_in slot (Some j) = ap Some (idle_end slot j)

-- they keep their ends
pub idle_ends : (slot : ℕ) (joints : List (Option BodyJoint)) (k : ℕ) → option_map ends_of (joint_at (idle_joints slot joints) k) ≡ option_map ends_of (joint_at joints k)
idle_ends slot joints k = ap (option_map ends_of) (idle_at slot joints k) ∙ idle_in slot (joint_at joints k)

idle_is_end : (slot : ℕ) (o : Option BodyJoint) → is_end_in slot (option_map (idle_if slot) o) ≡ is_end_in slot o
idle_is_end slot None = refl
idle_is_end slot (Some j) = by (is_joint_of slot j)
  where
    by : (t : Bool) → is_joint_of slot (cond t (record j { joint = record j.joint { impulse = pos 0 } }) j) ≡ is_joint_of slot j
    by true = refl
    by false = refl

pub idle_own : (slot : ℕ) (joints : List (Option BodyJoint)) (k : ℕ) → is_end_in slot (joint_at (idle_joints slot joints) k) ≡ is_end_in slot (joint_at joints k)
idle_own slot joints k = ap (is_end_in slot) (idle_at slot joints k) ∙ idle_is_end slot (joint_at joints k)

-- joints that differ in their impulses at most

bare_ends : (o : Option BodyJoint) → option_map ends_of (bare_entry o) ≡ option_map ends_of o
bare_ends None = refl
bare_ends (Some j) = refl

pub barely_ends : (joints later : List (Option BodyJoint)) → bare_joints later ≡ bare_joints joints → KeepEnds joints later
barely_ends joints later same slot =
    sym (bare_ends (joint_at later slot)) ∙ sym (ap (option_map ends_of) (joint_bare later slot)) ∙ ap (λ (l : List (Option BodyJoint)). option_map ends_of (joint_at l slot)) same
    ∙ ap (option_map ends_of) (joint_bare joints slot) ∙ bare_ends (joint_at joints slot)
