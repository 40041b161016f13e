-- The impulses of a joint in 64 bits.
use Rattle.std.specs.Prelude.{◌≡◌, ◌<◌, ◌^◌, ℤ, neg_ℤ, unsigned_abs}
use Rattle.momenta.specs.declared.state.BodyState.{BodyState}
use Rattle.momenta.specs.declared.state.Ends.{Ends}
use Rattle.momenta.specs.declared.line_64.MomentaPair64.{MomentaPair64}
use Rattle.momenta.specs.declared.line_64.Exerted64.{Exerted64}
use Rattle.momenta.specs.ImpulseBounds.{AreStates, AreSameBodies, IsMomentumKept}
use Rattle.momenta.specs.Line64.{FitsIn64, HasRoom64, both_ends, ends_with}
use Rattle.joint_rows.specs.declared.limits.TheConstants.{MAX_JOINT_IMPULSE}
use Rattle.joint_rows.specs.declared.row.JointRow.{JointRow}
use Rattle.joint_rows.specs.declared.solve.JointAfter.{JointAfter}
use Rattle.joint_rows.specs.Joints.{joint_bias}
use Rattle.joint_rows.specs.Rows.{IsJointRow, stretch_now}

-- the row with this accumulated impulse
abbrev pub with_impulse : JointRow → ℤ → JointRow
with_impulse r impulse = record r { impulse = impulse }

-- what stands in n is t, which a pass has left of the row r and of the bodies a and b with the momenta `old`
pub record IsJointAfter64 (t : JointAfter) (r : JointRow) (a b : BodyState) (old : MomentaPair64) (n : Exerted64) : Type 0 where
  pub value : t ≡ record { row = with_impulse r n.total; ends = ends_with a b n.now }
  pub row : IsJointRow (with_impulse r n.total)
  pub states : AreStates (ends_with a b n.now)
  pub same : AreSameBodies (ends_with a b old) (ends_with a b n.now)
  pub kept : IsMomentumKept (ends_with a b old) (ends_with a b n.now)

-- what stands in n is t, which a pass has left of the row r and of the bodies a and b
pub record IsRowAfter64 (t : JointAfter) (r : JointRow) (a b : BodyState) (n : Exerted64) : Type 0 where
  pub value : t ≡ record { row = with_impulse r n.total; ends = ends_with a b n.now }
  pub row : IsJointRow (with_impulse r n.total)
  pub states : AreStates (ends_with a b n.now)
  pub same : AreSameBodies (both_ends a b) (ends_with a b n.now)
  pub kept : IsMomentumKept (both_ends a b) (ends_with a b n.now)

-- ---- for what there is room in 64 bits

-- the impulse of a pass
abbrev pub HasLineRoom64 : JointRow → Ends → Type 0
HasLineRoom64 r e = HasRoom64 r.line (joint_bias (stretch_now r e)) (neg_ℤ MAX_JOINT_IMPULSE) MAX_JOINT_IMPULSE r.impulse e

-- a solver pass
pub record HasSolveRoom64 (r : JointRow) (a b : BodyState) : Type 0 where
  pub first : FitsIn64 a.motion
  pub second : FitsIn64 b.motion
  pub line : HasLineRoom64 r (both_ends a b)

-- the warm start
pub record HasWarmRoom64 (r : JointRow) (a b : BodyState) : Type 0 where
  pub first : FitsIn64 a.motion
  pub second : FitsIn64 b.motion
  pub impulse : unsigned_abs r.impulse < 2 ^ 29
