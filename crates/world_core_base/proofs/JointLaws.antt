-- The joints as a step finds them, and the impulses given back to them.
use Rattle.std.proofs.Common.{ℤ, ◌≡◌, inl, inr, ℕ, zero, suc, ◌<◌, List, [], ◌∷◌, length, Option, Some, None, All, true, is_some, arith, refl, sym, ap, ◌∙◌, subst, slice_set}
use Rattle.std.specs.Prelude.{option_map}
use Rattle.std.specs.Option.{ForSome}
use Rattle.std.proofs.lemmas.Bool.{cases_eq}
use Rattle.std.proofs.lemmas.List.Elements.{All-nil, All-cons, All-head, All-tail}
use Rattle.std.proofs.lemmas.Option.{none-some, same_Some}
use Rattle.joint_rows.specs.Rows.{IsJointRow, joint_row}
use Rattle.momenta.specs.ImpulseBounds.{AreStates}
use Rattle.momenta.specs.declared.state.BodyState.{BodyState}
use Rattle.joint_rows.specs.declared.row.JointRow.{JointRow}
use Rattle.colour_solver_base.specs.Rows.{IsRow}
use Rattle.colour_solver_base.specs.declared.row.ContactRow.{ContactRow}
use Rattle.colour_solver.specs.States.{AreAllStates, nobody}
use Rattle.colour_solver.specs.ConstraintVisits.{AreRowsBelow, IsRowBelow, contacts_among, joints_among}
use Rattle.colour_solver.specs.declared.constraint_row.ConstraintRow.{ConstraintRow}
use Rattle.colour_solver.specs.declared.constraint_row.ConstraintRow.TheVariants as rows
use Rattle.plain_world.specs.declared.body.Body.{Body}
use Rattle.plain_world.specs.declared.joint.BodyJoint.{BodyJoint}
use Rattle.plain_world.specs.Joints.{AreJoints, IsBodyJoint, joint_at}
use Rattle.plain_world.specs.InSlots.{impulse_set, with_impulse}
use Rattle.plain_world.specs.Slots.{body_at}
use Rattle.world_core_base.specs.ConstraintRows.{IsJointOn, IsJointThere, joint_bodies, joint_ends, joint_row_in, put_joint_row, with_joint_rows}
use Rattle.world_core_base.specs.Gather.{HasMovable, IsContactRowBelow, states_of}
use Rattle.world_core_base.proofs.GatherLaws.{length-states, state_at}
use Rattle.world_core_base.proofs.SolvingJoints.{bare_joints, bare_put, joint_put_other, joint_put_same}

-- ---- the rows of joints, and those of contacts

pub joint_rows_whole : (n : ℕ) (rs : List ConstraintRow) → AreRowsBelow n rs → All IsJointRow (joints_among rs)
joint_rows_whole n [] all = All-nil IsJointRow
joint_rows_whole n (rows.Joint r ∷ rs) all =
    let here : IsRowBelow n (rows.Joint r) = All-head (IsRowBelow n) (rows.Joint r) rs all in
    All-cons IsJointRow r (joints_among rs) here.row (joint_rows_whole n rs (All-tail (IsRowBelow n) (rows.Joint r) rs all))
joint_rows_whole n (rows.Contact r ∷ rs) all = joint_rows_whole n rs (All-tail (IsRowBelow n) (rows.Contact r) rs all)

pub contact_rows_whole : (n : ℕ) (rs : List ConstraintRow) → AreRowsBelow n rs → All IsRow (contacts_among rs)
contact_rows_whole n [] all = All-nil IsRow
contact_rows_whole n (rows.Contact r ∷ rs) all =
    let here : IsRowBelow n (rows.Contact r) = All-head (IsRowBelow n) (rows.Contact r) rs all in
    All-cons IsRow r (contacts_among rs) here.row (contact_rows_whole n rs (All-tail (IsRowBelow n) (rows.Contact r) rs all))
contact_rows_whole n (rows.Joint r ∷ rs) all = contact_rows_whole n rs (All-tail (IsRowBelow n) (rows.Joint r) rs all)

-- ---- the impulses given back

joint_kept : (bodies : List (Option Body)) (r : JointRow) (j : BodyJoint) → IsJointRow r → IsBodyJoint bodies j → IsBodyJoint bodies (with_impulse r.impulse j)
joint_kept bodies r j row is = record {
  first = is.first;
  second = is.second;
  apart = is.apart;
  joint = record { from = is.joint.from; to = is.joint.to; nonnegative = is.joint.nonnegative; length = is.joint.length; impulse = row.impulse };
}

joints_put : (bodies : List (Option Body)) (r : JointRow) (joints : List (Option BodyJoint)) (o : Option BodyJoint) → joint_at joints r.bodies.index ≡ o → IsJointRow r → AreJoints bodies joints → AreJoints bodies (impulse_set r.bodies.index r.impulse joints o)
joints_put bodies r joints None e row all = all
joints_put bodies r joints (Some j) e row all = λ slot k is. elim (cases_eq r.bodies.index slot) [
  | inl same ↦
      let here : joint_at (slice_set joints r.bodies.index (Some (with_impulse r.impulse j))) r.bodies.index ≡ Some (with_impulse r.impulse j) = joint_put_same joints r.bodies.index j (with_impulse r.impulse j) e in
      let there : Some (with_impulse r.impulse j) ≡ Some k = sym here ∙ ap (λ (n : ℕ). joint_at (slice_set joints r.bodies.index (Some (with_impulse r.impulse j))) n) same ∙ is in
      subst (IsBodyJoint bodies) (same_Some (with_impulse r.impulse j) k there) (joint_kept bodies r j row (all r.bodies.index j e))
  | inr ne ↦ all slot k (sym (joint_put_other joints r.bodies.index slot (Some (with_impulse r.impulse j)) ne) ∙ is)
]

pub joints_stay : (bodies : List (Option Body)) (joints : List (Option BodyJoint)) (rs : List JointRow) → All IsJointRow rs → AreJoints bodies joints → AreJoints bodies (with_joint_rows joints rs)
joints_stay bodies joints [] whole all = all
joints_stay bodies joints (r ∷ rs) whole all =
    joints_stay bodies (put_joint_row r joints) rs (All-tail IsJointRow r rs whole) (joints_put bodies r joints (joint_at joints r.bodies.index) refl (All-head IsJointRow r rs whole) all)

-- ---- the joints as a step finds them

slot_low : (bodies : List (Option Body)) (slot : ℕ) → is_some (body_at bodies slot) ≡ true → slot < length bodies
slot_low [] slot e = absurd (cc e)
slot_low (o ∷ os) zero e = omega arith
slot_low (o ∷ os) (suc slot) e = let rest : slot < length os = slot_low os slot e in omega (arith, rest)

pub joint_on : (bodies : List (Option Body)) (j : BodyJoint) → IsBodyJoint bodies j → HasMovable (states_of bodies) j.a j.b → IsJointOn (states_of bodies) j
joint_on bodies j is mover =
    let long = length-states bodies in
    let a : j.a < length bodies = slot_low bodies j.a is.first in
    let b : j.b < length bodies = slot_low bodies j.b is.second in
    record { first = omega (arith, a, long); second = omega (arith, b, long); apart = is.apart; mover = mover; joint = is.joint }

pub joint_states : (states : List BodyState) (j : BodyJoint) → AreAllStates states → j.a < length states → j.b < length states → AreStates (joint_ends states j)
joint_states states j all first second = record { a = state_at states j.a nobody all first; b = state_at states j.b nobody all second }

-- ---- the rows made of them

pub joint_below : (states : List BodyState) (slot : ℕ) (o : Option BodyJoint) (x : ConstraintRow) → IsJointThere states o → ForSome (joint_row_in states slot o) IsJointRow → option_map rows.Joint (joint_row_in states slot o) ≡ Some x → IsRowBelow (length states) x
unfolding joint_row
joint_below states slot None x on whole e = absurd (none-some x e)
joint_below states slot (Some j) x on whole e =
    let is : IsJointOn states j = on j refl in
    let r : JointRow = joint_row (joint_bodies slot j) (joint_ends states j) j.joint in
    let below : IsRowBelow (length states) (rows.Joint r) = record { row = whole r refl; a = is.first; b = is.second; apart = is.apart } in
    subst (IsRowBelow (length states)) (same_Some (rows.Joint r) x e) below

pub contact_below : (n : ℕ) (o : Option ContactRow) (x : ConstraintRow) → ForSome o (IsContactRowBelow n) → option_map rows.Contact o ≡ Some x → IsRowBelow n x
contact_below n None x below e = absurd (none-some x e)
contact_below n (Some r) x below e =
    let is : IsContactRowBelow n r = below r refl in
    let here : IsRowBelow n (rows.Contact r) = record { row = is.row; a = is.a; b = is.b; apart = is.apart } in
    subst (IsRowBelow n) (same_Some (rows.Contact r) x e) here

-- ---- what the impulses given back leave of the joints

bare_set : (joints : List (Option BodyJoint)) (slot : ℕ) (impulse : ℤ) (o : Option BodyJoint) → joint_at joints slot ≡ o → bare_joints (impulse_set slot impulse joints o) ≡ bare_joints joints
bare_set joints slot impulse None e = refl
bare_set joints slot impulse (Some j) e = bare_put joints slot j (with_impulse impulse j) e refl

pub bare_rows : (joints : List (Option BodyJoint)) (rs : List JointRow) → bare_joints (with_joint_rows joints rs) ≡ bare_joints joints
bare_rows joints [] = refl
bare_rows joints (r ∷ rs) = bare_rows (put_joint_row r joints) rs ∙ bare_set joints r.bodies.index r.impulse (joint_at joints r.bodies.index) refl
