-- A body that is in a slot, and the stretch of a joint that is seen.
use Rattle.std.proofs.Common.{◌≡◌, ◌-ℤ◌, ℤ, ℕ, List, Option, Some, None, slice_get, ap, refl, subst}
use Rattle.std.proofs.lemmas.Option.{none-some}
use Rattle.std.specs.Option.{option_flatten}
use Rattle.fixed_geom.specs.Facings.{rotate}
use Rattle.fixed_geom.specs.Vectors.{minus, plus, span}
use Rattle.joint_rows.specs.Joints.{IsJoint}
use Rattle.joint_rows.specs.declared.joint.Joint.{Joint}
use Rattle.momenta.specs.declared.motion.Motion.{Motion}
use Rattle.plain_world.specs.Bodies.{AreBodies, IsBody}
use Rattle.plain_world.specs.Slots.{body_at}
use Rattle.plain_world.specs.Joints.{AreJoints, joint_at}
use Rattle.plain_world.specs.declared.body.Body.{Body}
use Rattle.plain_world.specs.declared.joint.BodyJoint.{BodyJoint}
use Rattle.shapes.specs.Poses.{transformed}
use Rattle.world_script_base.specs.JointViews.{IsStretchOfTheRow}

-- what a slot contains
item_there : {X : Type 0} (o : Option (Option X)) (x : X) → option_flatten o ≡ Some x → o ≡ Some (Some x)
item_there None x e = absurd (none-some x e)
item_there (Some o) x e = ap Some e

-- a body that is in a slot is sound
pub body_there : (bodies : List (Option Body)) → AreBodies bodies → (slot : ℕ) (b : Body) → body_at bodies slot ≡ Some b → IsBody b
body_there bodies are slot b e = are slot b (item_there (slice_get bodies slot) b e)

-- the numbers of a joint that is in a slot are within their limits
pub joint_there : (bodies : List (Option Body)) (joints : List (Option BodyJoint)) → AreJoints bodies joints → (slot : ℕ) (j : BodyJoint) → joint_at joints slot ≡ Some j → IsJoint j.joint
joint_there bodies joints are slot j e = (are slot j e).joint

-- the stretch of a joint between bodies with these motions
abbrev stretch_of : Joint → Motion → Motion → ℤ
stretch_of j a b = span (minus (plus b.x (rotate b.rot j.to)) (plus a.x (rotate a.rot j.from))) -ℤ j.length

same_stretch : (j : Joint) (a b m n : Motion) → m ≡ a → n ≡ b → stretch_of j a b ≡ stretch_of j m n
same_stretch j a b m n e f = subst (λ (x : Motion). stretch_of j x b ≡ stretch_of j m n) e (subst (λ (y : Motion). stretch_of j m y ≡ stretch_of j m n) f refl)

pub stretch_of_the_row : IsStretchOfTheRow
unfolding transformed
stretch_of_the_row a b j set start e f = same_stretch j.joint a.motion b.motion start.a.motion start.b.motion e f
