-- A joint that gets another impulse.
use Rattle.std.proofs.Common.{◌≡◌, ℕ, zero, suc, ◌<◌, List, [], ◌∷◌, length, get_or, Option, Some, None, ℤ, slice_set, refl, sym, ap, ◌∙◌, arith}
use Rattle.std.specs.Prelude.{option_map}
use Rattle.plain_world.specs.declared.joint.BodyJoint.{BodyJoint}
use Rattle.plain_world.specs.Joints.{joint_at}
use Rattle.plain_world.specs.InSlots.{impulse_set, with_impulse}

behind : (p o : Option BodyJoint) (os : List (Option BodyJoint)) (slot : ℕ) (impulse : ℤ) → impulse_set (suc slot) impulse (o ∷ os) p ≡ o ∷ impulse_set slot impulse os p
behind None o os slot impulse = refl
behind (Some j) o os slot impulse = refl

first_set : (o : Option BodyJoint) (os : List (Option BodyJoint)) (impulse : ℤ) → option_map (with_impulse impulse) o ∷ os ≡ impulse_set 0 impulse (o ∷ os) o
first_set None os impulse = refl
first_set (Some j) os impulse = refl

pub impulse_put : (joints : List (Option BodyJoint)) (slot : ℕ) (impulse : ℤ) (d : Option BodyJoint) → slot < length joints → slice_set joints slot (option_map (with_impulse impulse) (get_or joints slot d)) ≡ impulse_set slot impulse joints (joint_at joints slot)
impulse_put [] slot impulse d h = absurd (omega arith)
impulse_put (o ∷ os) zero impulse d h = first_set o os impulse
impulse_put (o ∷ os) (suc slot) impulse d h = ap (λ (l : List (Option BodyJoint)). o ∷ l) (impulse_put os slot impulse d (omega arith)) ∙ sym (behind (joint_at os slot) o os slot impulse)
