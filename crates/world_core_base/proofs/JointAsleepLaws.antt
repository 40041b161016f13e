-- Joints that sleep: with the first of their bodies that is a mover.
use Rattle.std.proofs.Common.{◌≡◌, ℕ, ◌<◌, ◌≤◌, true, false, List, [], length, Option, Some, None, is_some, inl, inr, refl, sym, ap, ◌∙◌, subst, arith}
use Rattle.std.specs.Option.{option_flatten}
use Rattle.std.specs.Prelude.{Contains, option_map}
use Rattle.std.proofs.lemmas.Bool.{cases_eq}
use Rattle.std.proofs.lemmas.Option.{slice_get_past}
use Rattle.graph_colours.specs.declared.member.Movers.{Movers}
use Rattle.islands.specs.Labels.{Labels}
use Rattle.plain_world.specs.declared.body.Body.{Body}
use Rattle.plain_world.specs.declared.joint.BodyJoint.{BodyJoint}
use Rattle.plain_world.specs.Bodies.{moves}
use Rattle.plain_world.specs.Joints.{joint_at}
use Rattle.plain_world.specs.Sleep.{told}
use Rattle.plain_world.specs.Slots.{body_at, with_item}
use Rattle.solver_sets.specs.Ties.{joint_movers}
use Rattle.world_core_base.specs.Asleep.{AreJointSets, AreNamedAsleep, IsOfNone, IsSleepAlike, SleepAlike, joint_sleep, movers_of_joint, sleep_with}
use Rattle.world_core_base.specs.Following.{CanFollow}
use Rattle.world_core_base.specs.JointEnds.{KeepEnds, ends_of}
use Rattle.world_core_base.specs.Sleeping.{Sleeping, sleep_at}
use Rattle.world_core_base.specs.Telling.{KeepSets}
use Rattle.world_core_base.proofs.AsleepLaws.{can_follow_told, first_of, tie_alike, told_movers, with_item_here, with_item_other}
use Rattle.world_core_base.proofs.TieSleepLaws.{both_beside, named_below}

-- ---- one joint

-- its first mover is one of its bodies, and moves
pub joint_moves : (bodies : List (Option Body)) (o : Option BodyJoint) (m : Movers) → movers_of_joint bodies o ≡ Some m → moves bodies m.first ≡ true
joint_moves bodies None m e = cc
joint_moves bodies (Some j) m e = (first_of bodies j.a j.b m e).mover

told_joint : (labels : Labels) (bodies : List (Option Body)) (o : Option BodyJoint) → movers_of_joint (told labels bodies) o ≡ movers_of_joint bodies o
told_joint labels bodies None = refl
told_joint labels bodies (Some j) = told_movers labels bodies j.a j.b

-- no joint is past the last slot
pub joint_past : (joints : List (Option BodyJoint)) (slot : ℕ) → length joints ≤ slot → joint_at joints slot ≡ None
joint_past joints slot le = ap option_flatten (slice_get_past joints slot le)

-- what has movers is there
joint_there : (bodies : List (Option Body)) (o : Option BodyJoint) (m : Movers) → movers_of_joint bodies o ≡ Some m → is_some o ≡ true
joint_there bodies None m e = cc
joint_there bodies (Some j) m e = refl

-- a joint sleeps under a name under which a body does
pub joint_named : (bodies : List (Option Body)) (o : Option BodyJoint) (name : ℕ) → AreNamedAsleep bodies → sleep_with bodies (movers_of_joint bodies o) ≡ Some name → name < length bodies
joint_named bodies o name = named_below bodies (movers_of_joint bodies o) name (joint_moves bodies o)

-- ---- all joints, where bodies wake or fall asleep

pub joints_can_follow : (labels : Labels) (bodies : List (Option Body)) (joints : List (Option BodyJoint)) (sets : Sleeping) → AreJointSets bodies joints sets → KeepSets labels bodies → CanFollow (sleep_at sets.names) (joint_sleep (told labels bodies) joints) (length sets.names) (length sets.sets)
joints_can_follow labels bodies joints sets are keep = can_follow_told labels bodies (λ slot. movers_of_joint bodies (joint_at joints slot)) (sleep_at sets.names) (joint_sleep (told labels bodies) joints) (length sets.names) (length sets.sets)
    (λ slot m e. joint_moves bodies (joint_at joints slot) m e)
    (λ slot m e. are.items slot (joint_there bodies (joint_at joints slot) m e))
    are.asleep (λ slot. ap (sleep_with (told labels bodies)) (told_joint labels bodies (joint_at joints slot))) are.named keep

-- ---- joints of bodies that are alike

pub joint_alike : (old new : List (Option Body)) (o : Option BodyJoint) → ((j : BodyJoint) → o ≡ Some j → IsSleepAlike (body_at old j.a) (body_at new j.a) × IsSleepAlike (body_at old j.b) (body_at new j.b)) → sleep_with new (movers_of_joint new o) ≡ sleep_with old (movers_of_joint old o)
joint_alike old new None alike = refl
joint_alike old new (Some j) alike = let both = alike j refl in tie_alike old new j.a j.b both.0 both.1

pub joints_alike : (old new : List (Option Body)) (joints : List (Option BodyJoint)) (sets : Sleeping) → length new ≤ length old → SleepAlike old new → AreJointSets old joints sets → AreJointSets new joints sets
joints_alike old new joints sets long alike are = record {
  asleep = λ slot. are.asleep slot ∙ sym (joint_alike old new (joint_at joints slot) (λ j e. (alike j.a, alike j.b)));
  items = are.items;
  named = let room = are.named in omega (arith, long, room);
}

-- ---- joints that come, go and change

-- the sets as they are, for other bodies and joints of which each sleeps as it did
pub joints_as : (bodies new : List (Option Body)) (joints next : List (Option BodyJoint)) (sets again : Sleeping) → ((slot : ℕ) → joint_sleep new next slot ≡ joint_sleep bodies joints slot) → ((slot : ℕ) → sleep_at again.names slot ≡ sleep_at sets.names slot) → ((slot : ℕ) → is_some (joint_at next slot) ≡ true → slot < length again.names) → length new ≤ length again.sets
    → AreJointSets bodies joints sets → AreJointSets new next again
joints_as bodies new joints next sets again each same items named are = record {
  asleep = λ slot. same slot ∙ are.asleep slot ∙ sym (each slot);
  items = items;
  named = named;
}

ends_sleep : (bodies : List (Option Body)) (o p : Option BodyJoint) → option_map ends_of p ≡ option_map ends_of o → movers_of_joint bodies p ≡ movers_of_joint bodies o
ends_sleep bodies None None e = refl
ends_sleep bodies None (Some k) e = cc
ends_sleep bodies (Some j) None e = cc
ends_sleep bodies (Some j) (Some k) e = let same : ends_of k ≡ ends_of j = cc in λ i. joint_movers bodies (record k { a = (same i).a; b = (same i).b })

-- joints with the ends that they had, such as with other impulses
pub joints_by_ends : (bodies : List (Option Body)) (joints next : List (Option BodyJoint)) (sets : Sleeping) → KeepEnds joints next → AreJointSets bodies joints sets → AreJointSets bodies next sets
joints_by_ends bodies joints next sets same are = record {
  asleep = λ slot. are.asleep slot ∙ sym (ap (sleep_with bodies) (ends_sleep bodies (joint_at joints slot) (joint_at next slot) (same slot)));
  items = λ slot on. are.items slot (sym (there_by_ends (joint_at joints slot) (joint_at next slot) (same slot)) ∙ on);
  named = are.named;
}
  where
    there_by_ends : (o p : Option BodyJoint) → option_map ends_of p ≡ option_map ends_of o → is_some p ≡ is_some o
    there_by_ends None None e = refl
    there_by_ends None (Some k) e = cc
    there_by_ends (Some j) None e = cc
    there_by_ends (Some j) (Some k) e = refl

-- a joint that comes, and doesn't sleep
pub joint_put : (bodies : List (Option Body)) (joints : List (Option BodyJoint)) (slot : ℕ) (j : BodyJoint) (sets : Sleeping) → slot ≤ length joints → joint_at joints slot ≡ None → sleep_with bodies (joint_movers bodies j) ≡ None → slot < length sets.names
    → AreJointSets bodies joints sets → AreJointSets bodies (with_item joints slot j) sets
joint_put bodies joints slot j sets le free up lt are = joints_as bodies bodies joints (with_item joints slot j) sets sets each (λ k. refl) items are.named are
  where
    items : (k : ℕ) → is_some (joint_at (with_item joints slot j) k) ≡ true → k < length sets.names
    items k on = elim (cases_eq k slot) [
      | inl same ↦ subst (λ (i : ℕ). i < length sets.names) (sym same) lt
      | inr apart ↦ are.items k (sym (ap (λ (o : Option BodyJoint). is_some o) (with_item_other joints slot j k le apart)) ∙ on)
    ]

    each : (k : ℕ) → joint_sleep bodies (with_item joints slot j) k ≡ joint_sleep bodies joints k
    each k = elim (cases_eq k slot) [
      | inl same ↦ subst (λ (i : ℕ). joint_sleep bodies (with_item joints slot j) i ≡ joint_sleep bodies joints i) (sym same)
          (ap (λ (o : Option BodyJoint). sleep_with bodies (movers_of_joint bodies o)) (with_item_here joints slot j le) ∙ up ∙ sym (ap (λ (o : Option BodyJoint). sleep_with bodies (movers_of_joint bodies o)) free))
      | inr apart ↦ ap (λ (o : Option BodyJoint). sleep_with bodies (movers_of_joint bodies o)) (with_item_other joints slot j k le apart)
    ]

-- a world with no bodies and no joints
pub joints_none : (bodies : List (Option Body)) (joints : List (Option BodyJoint)) (sets : Sleeping) → bodies ≡ [] → joints ≡ [] → sets.names ≡ [] → AreJointSets bodies joints sets
joints_none bodies joints sets e f g = subst (λ (bs : List (Option Body)). AreJointSets bs joints sets) (sym e) (subst (λ (js : List (Option BodyJoint)). AreJointSets [] js sets) (sym f) (record {
  asleep = λ slot. ap (λ (l : List (Option ℕ)). sleep_at l slot) g;
  items = λ slot on. (let both : false ≡ true = on in cc);
  named = omega arith;
}))

-- ---- joints of listed bodies

-- one of none of the bodies that may sleep otherwise now
pub joint_beside : (old new : List (Option Body)) (slots : List ℕ) (o : Option BodyJoint) → ((slot : ℕ) → (Contains slots slot → ⊥) → IsSleepAlike (body_at old slot) (body_at new slot)) → IsOfNone slots o → sleep_with new (movers_of_joint new o) ≡ sleep_with old (movers_of_joint old o)
joint_beside old new slots None others off = refl
joint_beside old new slots (Some j) others off = let both = both_beside old new slots j.a j.b others off in tie_alike old new j.a j.b both.0 both.1
