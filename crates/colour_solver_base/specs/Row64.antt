-- A pass over a contact in 64 bits.
use Rattle.std.specs.Prelude.{◌≡◌, ◌<◌, ◌^◌, option_map, ℤ, pos, neg_ℤ, unsigned_abs}
use Rattle.std.specs.Option.{ForSome}
use Rattle.fixed_geom.specs.declared.limits.TheConstants.{MAX_NORMAL_IMPULSE}
use Rattle.momenta.specs.declared.state.BodyState.{BodyState}
use Rattle.momenta.specs.declared.state.Ends.{Ends}
use Rattle.momenta.specs.ImpulseBounds.{AreStates, AreSameBodies, IsMomentumKept}
use Rattle.momenta.specs.Line64.{HasRoom64, FitsIn64, both_ends, ends_with}
use Rattle.colour_solver_base.specs.declared.row.PointRow.{PointRow}
use Rattle.colour_solver_base.specs.declared.row.ContactRow.{ContactRow}
use Rattle.colour_solver_base.specs.declared.solve.PointAfter.{PointAfter}
use Rattle.colour_solver_base.specs.RowsAfter.{RowAfter}
use Rattle.colour_solver_base.specs.declared.row_64.PointImpulses.{PointImpulses}
use Rattle.colour_solver_base.specs.declared.row_64.PointAfter64.{PointAfter64}
use Rattle.colour_solver_base.specs.declared.row_64.RowAfter64.{RowAfter64}
use Rattle.colour_solver_base.specs.Rows.{IsPointRow, IsRow, normal_line, normal_solved, point_solved, separation_now, tangent_line}
use Rattle.colour_solver_base.specs.ContactSolving.{overlap_bias, most_friction}

-- the point with these accumulated impulses
abbrev pub with_impulses : PointRow → ℤ → ℤ → PointRow
with_impulses p normal_impulse tangent_impulse = record p { normal_impulse = normal_impulse; tangent_impulse = tangent_impulse }

abbrev pub with_point_impulses : PointImpulses → PointRow → PointRow
with_point_impulses i p = with_impulses p i.normal i.tangent

-- what stands in n is t, which a pass has left of the point p and of the two bodies: they are a and b, and stood as e
-- has them before it
pub record IsPointAfter64 (t : PointAfter) (p : PointRow) (a b : BodyState) (e : Ends) (n : PointAfter64) : Type 0 where
  pub value : t ≡ record { point = with_point_impulses n.impulses p; ends = ends_with a b n.now }
  pub point : IsPointRow (with_point_impulses n.impulses p)
  pub states : AreStates (ends_with a b n.now)
  pub same : AreSameBodies e (ends_with a b n.now)
  pub kept : IsMomentumKept e (ends_with a b n.now)

-- the contact with these accumulated impulses at its first point, and those at its second, if it has one
abbrev pub with_row_impulses : ContactRow → PointImpulses → PointImpulses → ContactRow
with_row_impulses r first second = record r { first = with_point_impulses first r.first; second = option_map (with_point_impulses second) r.second }

-- what stands in n is t, which a pass has left of the contact r and of the bodies a and b
pub record IsRowAfter64 (t : RowAfter ContactRow) (r : ContactRow) (a b : BodyState) (n : RowAfter64) : Type 0 where
  pub value : t ≡ record { row = with_row_impulses r n.first n.second; ends = ends_with a b n.now }
  pub row : IsRow (with_row_impulses r n.first n.second)
  pub states : AreStates (ends_with a b n.now)
  pub same : AreSameBodies (both_ends a b) (ends_with a b n.now)
  pub kept : IsMomentumKept (both_ends a b) (ends_with a b n.now)

-- ---- for what there is room in 64 bits

-- the normal impulse
abbrev pub HasNormalRoom64 : PointRow → Ends → Type 0
HasNormalRoom64 p e = HasRoom64 (normal_line p) (overlap_bias (separation_now p e)) (pos 0) MAX_NORMAL_IMPULSE p.normal_impulse e

-- friction
abbrev pub HasTangentRoom64 : ℤ → PointRow → Ends → Type 0
HasTangentRoom64 friction p e = HasRoom64 (tangent_line p) (pos 0) (neg_ℤ (most_friction friction p.normal_impulse)) (most_friction friction p.normal_impulse) p.tangent_impulse e

abbrev pub HasTangentRoomAfter64 : ℤ → PointAfter → Type 0
HasTangentRoomAfter64 friction t = HasTangentRoom64 friction t.point t.ends

-- the normal impulse, then friction
pub record HasPointRoom64 (friction : ℤ) (p : PointRow) (e : Ends) : Type 0 where
  pub normal_impulse : HasNormalRoom64 p e
  pub tangent_impulse : HasTangentRoomAfter64 friction (normal_solved (overlap_bias (separation_now p e)) p e)

-- the bodies' momenta
pub record AreSmall64 (a b : BodyState) : Type 0 where
  pub first : FitsIn64 a.motion
  pub second : FitsIn64 b.motion

-- a solver pass over a contact: its second point, if it has one, comes after the first
pub record HasSolveRoom64 (r : ContactRow) (a b : BodyState) : Type 0 where
  pub bodies : AreSmall64 a b
  pub first : HasPointRoom64 r.bodies.friction r.first (both_ends a b)
  pub second : ForSome r.second (λ p. HasPointRoom64 r.bodies.friction p (point_solved r.bodies.friction r.first (both_ends a b)).ends)

-- the warm start of a point, however its bodies stand
pub record HasWarmPointRoom64 (p : PointRow) : Type 0 where
  pub normal_impulse : unsigned_abs p.normal_impulse < 2 ^ 29
  pub tangent_impulse : unsigned_abs p.tangent_impulse < 2 ^ 29

-- that of a contact
pub record HasWarmRoom64 (r : ContactRow) (a b : BodyState) : Type 0 where
  pub bodies : AreSmall64 a b
  pub first : HasWarmPointRoom64 r.first
  pub second : ForSome r.second HasWarmPointRoom64
