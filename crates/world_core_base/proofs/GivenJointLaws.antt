-- A table of joints from a list.
use Rattle.std.proofs.Common.{◌≡◌, ℕ, suc, ◌+◌, ◌≤◌, List, length, take, Option, Some, None, Bool, true, false, add-one, ◌==◌, sym, ap, ◌∙◌, refl}
use Rattle.std.specs.Prelude.{option_map}
use Rattle.plain_world.specs.declared.joint.BodyJoint.{BodyJoint}
use Rattle.plain_world.specs.Joints.{joint_at}
use Rattle.body_handles.specs.declared.slot_table.TheConstants.{MAX_SLOTS}
use Rattle.graph_colours.proofs.Cases.{true_or_false}
use Rattle.graph_colours.proofs.PlaceLemmas.{is_same, same_from}
use Rattle.packed_sets.specs.Packs.{Packs}
use Rattle.world_core_base.specs.JointEnds.{AreEnds, AreNoted, ends_of}
use Rattle.world_core_base.specs.JointTables.{IsJointTable}
use Rattle.world_core_base.proofs.JointEndLaws.{ends_more, ends_stay, take_here, take_next, take_other}

pub table_given : (joints kept : List (Option BodyJoint)) (sets : Packs ℕ) (joints_left : ℕ) → kept ≡ joints → length joints ≤ MAX_SLOTS → AreEnds joints sets.sets → IsJointTable kept sets None joints_left
table_given joints kept sets joints_left same few ends = rw same (record { few = few; ends = ends; ready = tt })

-- ---- the ends of the first joints

-- an empty slot
pub ends_passed : (joints : List (Option BodyJoint)) (sets : List (List ℕ)) (slot : ℕ) → joint_at joints slot ≡ None → AreEnds (take slot joints) sets → AreEnds (take (slot + 1) joints) sets
ends_passed joints sets slot free e = rw add-one (ends_stay (take slot joints) (take (suc slot) joints) sets (λ k. ap (option_map ends_of) (by_slot k (k == slot) refl)) e)
  where
    by_slot : (k : ℕ) (t : Bool) → (k == slot) ≡ t → joint_at (take (suc slot) joints) k ≡ joint_at (take slot joints) k
    by_slot k true q = let same : k ≡ slot = same_from k slot q in rw same (take_next joints slot ∙ free ∙ sym (take_here joints slot))
    by_slot k false q = take_other joints slot k (λ e. true_or_false (k == slot) (is_same k slot e) q)

pub ends_added : (joints : List (Option BodyJoint)) (old new : List (List ℕ)) (slot : ℕ) (j : BodyJoint) → joint_at joints slot ≡ Some j → AreNoted old new slot (ends_of j) → AreEnds (take slot joints) old → AreEnds (take (slot + 1) joints) new
ends_added joints old new slot j there noted e = rw add-one (ends_more (take slot joints) (take (suc slot) joints) old new slot j e noted (take_next joints slot ∙ there) (λ k ne. take_other joints slot k ne))
