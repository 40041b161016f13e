-- What a table of joints keeps, as joints come, go and change.
use Rattle.std.proofs.Common.{◌≡◌, ℕ, zero, suc, ◌<◌, ◌≤◌, Bool, true, false, cond, List, [], ◌∷◌, ◌++◌, length, get_or, Option, Some, None, ℤ, pos, slice_set, nat_lt, ltb-false, refl, sym, ap, ◌∙◌, subst, arith}
use Rattle.std.specs.Prelude.{◌↔◌, option_map}
use Rattle.std.specs.List.{Contains, dedup}
use Rattle.std.specs.List.Sorted.{IsPermutation}
use Rattle.std.proofs.lemmas.List.{length-append, length-set}
use Rattle.std.proofs.lemmas.List.Kept.{Contains-dedup_nat, Contains-from_dedup}
use Rattle.std.proofs.lemmas.List.Sorted.{Contains-permutation, IsPermutation-sym}
use Rattle.std.proofs.Common.{eqb}
use Rattle.body_handles.specs.declared.slot_table.TheConstants.{MAX_SLOTS}
use Rattle.graph_colours.proofs.Cases.{by_test}
use Rattle.plain_world.specs.declared.joint.BodyJoint.{BodyJoint}
use Rattle.plain_world.specs.Joints.{idle_if, idle_joints, is_joint_of, joint_at}
use Rattle.plain_world.specs.InSlots.{with_impulse}
use Rattle.plain_world.specs.Slots.{with_item}
use Rattle.world_core_base.specs.declared.joint_ends.Ends.{Ends}
use Rattle.world_core_base.specs.JointEnds.{AreEnds, ends_of}
use Rattle.world_core_base.proofs.JointEndLaws.{ends_stay}

-- ---- slots of the joints with some ends, ascending

pub same_slots : (halves sorted kept : List ℕ) → IsPermutation halves sorted → kept ≡ dedup eqb sorted → (slot : ℕ) → Contains kept slot ↔ Contains halves slot
same_slots halves sorted kept moved is slot = (
  (λ h. Contains-permutation sorted halves slot (IsPermutation-sym halves sorted moved) (Contains-from_dedup eqb sorted slot (subst (λ (l : List ℕ). Contains l slot) is h))),
  (λ h. subst (λ (l : List ℕ). Contains l slot) (sym is) (Contains-dedup_nat sorted slot (Contains-permutation halves sorted slot moved h))),
)

-- ---- room

pub few_with : (joints : List (Option BodyJoint)) (slot : ℕ) (j : BodyJoint) → length joints ≤ MAX_SLOTS → slot < MAX_SLOTS → slot ≤ length joints → length (with_item joints slot j) ≤ MAX_SLOTS
few_with joints slot j few below le =
    by_test (λ (l : List (Option BodyJoint)). length l ≤ MAX_SLOTS) (nat_lt slot (length joints)) (slice_set joints slot (Some j)) (joints ++ Some j ∷ [])
    (λ q. rw (length-set joints slot (Some j)) few)
    (λ q. let past : length joints ≤ slot = ltb-false slot (length joints) q in rw (length-append joints (Some j ∷ [])) (omega (arith, past, below)))

-- ---- joints whose ends stay

pub set_ends : (f : Option BodyJoint → Option BodyJoint) → ((o : Option BodyJoint) → option_map ends_of (f o) ≡ option_map ends_of o) → (joints : List (Option BodyJoint)) (slot : ℕ) (d : Option BodyJoint) → slot < length joints
    → (k : ℕ) → option_map ends_of (joint_at (slice_set joints slot (f (get_or joints slot d))) k) ≡ option_map ends_of (joint_at joints k)
set_ends f same [] slot d lt k = absurd (omega (arith, lt))
set_ends f same (o ∷ joints) zero d lt zero = same o
set_ends f same (o ∷ joints) zero d lt (suc k) = refl
set_ends f same (o ∷ joints) (suc slot) d lt zero = refl
set_ends f same (o ∷ joints) (suc slot) d lt (suc k) = set_ends f same joints slot d (omega (arith, lt)) k

with_ends : (impulse : ℤ) (o : Option BodyJoint) → option_map ends_of (option_map (with_impulse impulse) o) ≡ option_map ends_of o
with_ends impulse None = refl
with_ends impulse (Some j) = refl

pub impulse_ends : (joints : List (Option BodyJoint)) (sets : List (List ℕ)) (slot : ℕ) (impulse : ℤ) (d : Option BodyJoint) → slot < length joints → AreEnds joints sets → AreEnds (slice_set joints slot (option_map (with_impulse impulse) (get_or joints slot d))) sets
impulse_ends joints sets slot impulse d lt e = ends_stay joints _ sets (set_ends (option_map (with_impulse impulse)) (with_ends impulse) joints slot d lt) e

idle_ends : (body : ℕ) (o : Option BodyJoint) → option_map ends_of (option_map (idle_if body) o) ≡ option_map ends_of o
idle_ends body None = refl
idle_ends body (Some j) = ap (λ (x : Ends). Some x) (by_end (is_joint_of body j))
  where
    by_end : (t : Bool) → ends_of (cond t (record j { joint = record j.joint { impulse = pos 0 } }) j) ≡ ends_of j
    by_end true = refl
    by_end false = refl

joint_at-idle : (body : ℕ) (joints : List (Option BodyJoint)) (slot : ℕ) → joint_at (idle_joints body joints) slot ≡ option_map (idle_if body) (joint_at joints slot)
joint_at-idle body [] slot = refl
joint_at-idle body (o ∷ os) zero = refl
joint_at-idle body (o ∷ os) (suc slot) = joint_at-idle body os slot

pub ends_idle : (joints : List (Option BodyJoint)) (sets : List (List ℕ)) (body : ℕ) → AreEnds joints sets → AreEnds (idle_joints body joints) sets
ends_idle joints sets body e = ends_stay joints (idle_joints body joints) sets (λ k. ap (option_map ends_of) (joint_at-idle body joints k) ∙ idle_ends body (joint_at joints k)) e

pub length_idle : (body : ℕ) (joints : List (Option BodyJoint)) → length (idle_joints body joints) ≡ length joints
length_idle body [] = refl
length_idle body (o ∷ os) = ap suc (length_idle body os)
