-- A pass over a joint in 64 bits from its impulse.
use Rattle.std.proofs.Common.{◌≡◌, ◌^◌, ◌≤◌, neg_ℤ, pos, ◌≤ℤ◌, ℤ, unsigned_abs, refl, ap, arith}
use Rattle.std.proofs.lemmas.Int.{ints}
use Rattle.momenta.specs.declared.state.BodyState.{BodyState}
use Rattle.momenta.specs.declared.line_64.MomentaPair64.{MomentaPair64}
use Rattle.momenta.specs.declared.line_64.Exerted64.{Exerted64}
use Rattle.momenta.specs.Impulses.{solved_impulse}
use Rattle.momenta.specs.Line64.{IsImpulse, both_ends, ends_with}
use Rattle.joint_rows.specs.declared.row.JointRow.{JointRow}
use Rattle.joint_rows.specs.declared.solve.JointAfter.{JointAfter}
use Rattle.joint_rows.specs.Joints.{joint_bias}
use Rattle.joint_rows.specs.Rows.{IsJointRow, joint_solved, stretch_now, with_exerted}
use Rattle.joint_rows.specs.Row64.{IsJointAfter64, IsRowAfter64, with_impulse}

-- what impulses change has no part in the stretch
pub same_stretch : (r : JointRow) (a b : BodyState) (n : MomentaPair64) → stretch_now r (both_ends a b) ≡ stretch_now r (ends_with a b n)
unfolding stretch_now
same_stretch r a b n = refl

row_with : (r : JointRow) (impulse : ℤ) → IsJointRow r → unsigned_abs impulse ≤ 2 ^ 42 → IsJointRow (with_impulse r impulse)
row_with r impulse h k = record { line = h.line; stretch = h.stretch; impulse = k }

pub after_of : (t : JointAfter) (r : JointRow) (a b : BodyState) (old : MomentaPair64) (n : Exerted64) → IsJointRow r → t ≡ record { row = with_impulse r n.total; ends = ends_with a b n.now } → IsImpulse a b old n.now → unsigned_abs n.total ≤ 2 ^ 42
    → IsJointAfter64 t r a b old n
after_of t r a b old n row value impulse small = record { value = value; row = row_with r n.total row small; states = impulse.states; same = impulse.same; kept = impulse.kept }

pub within_by : (x : ℤ) → neg_ℤ (pos (2 ^ 42)) ≤ℤ x → x ≤ℤ pos (2 ^ 42) → unsigned_abs x ≤ 2 ^ 42
within_by x low high = omega (arith, ints)

pub solved_after : (r : JointRow) (a b : BodyState) (old : MomentaPair64) (n : Exerted64) → IsJointRow r
    → solved_impulse r.line (joint_bias (stretch_now r (ends_with a b old))) (neg_ℤ (pos (2 ^ 42))) (pos (2 ^ 42)) r.impulse (ends_with a b old) ≡ record { ends = ends_with a b n.now; total = n.total }
    → IsImpulse a b old n.now → neg_ℤ (pos (2 ^ 42)) ≤ℤ n.total → n.total ≤ℤ pos (2 ^ 42) → IsJointAfter64 (joint_solved r (ends_with a b old)) r a b old n
unfolding joint_solved
solved_after r a b old n row value impulse low high = after_of (joint_solved r (ends_with a b old)) r a b old n row (ap (with_exerted r) value) impulse (within_by n.total low high)

-- the same of the bodies as they stand
pub row_after : (t : JointAfter) (r : JointRow) (a b : BodyState) (old : MomentaPair64) (n : Exerted64) → ends_with a b old ≡ both_ends a b → IsJointAfter64 t r a b old n → IsRowAfter64 t r a b n
row_after t r a b old n same h = record { value = h.value; row = h.row; states = h.states; same = rw same at h.same; kept = rw same at h.kept }
