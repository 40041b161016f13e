-- A joint between the centres of its bodies, whose impulses turn neither, in 64 bits.
use Rattle.std.specs.Prelude.{◌≡◌, ◌<◌, ◌^◌, pos, unsigned_abs}
use Rattle.fixed_geom.specs.Vectors.{zero_vector}
use Rattle.fixed_geom.specs.declared.vectors.Vec2.{Vec2}
use Rattle.momenta.specs.declared.state.BodyState.{BodyState}
use Rattle.momenta.specs.declared.line.Line.{Line}
use Rattle.momenta.specs.declared.line_64.MomentaPair64.{MomentaPair64}
use Rattle.momenta.specs.declared.line_64.Exerted64.{Exerted64}
use Rattle.momenta.specs.Line64.{ends_with}
use Rattle.joint_rows.specs.declared.row.JointRow.{JointRow}
use Rattle.joint_rows.specs.declared.centres_64.MomentumPair.{MomentumPair}
use Rattle.joint_rows.specs.declared.centres_64.Pushed64.{Pushed64}
use Rattle.joint_rows.specs.declared.solve.JointAfter.{JointAfter}
use Rattle.joint_rows.specs.Row64.{HasLineRoom64, IsRowAfter64}

-- the line leads from centre to centre
pub record IsBetweenCentres (line : Line) : Type 0 where
  pub ra : line.ra ≡ zero_vector
  pub rb : line.rb ≡ zero_vector

-- the momenta of the two bodies, with no angular momenta
abbrev pub without_turning : BodyState → BodyState → MomentaPair64
without_turning a b = record { a = record { p = a.motion.p; l = pos 0 }; b = record { p = b.motion.p; l = pos 0 } }

-- these momenta, with the angular momenta that the two bodies have
abbrev pub with_own_turning : BodyState → BodyState → MomentumPair → MomentaPair64
with_own_turning a b n = record { a = record { p = n.a; l = a.motion.l }; b = record { p = n.b; l = b.motion.l } }

abbrev pub all_pushed : BodyState → BodyState → Pushed64 → Exerted64
all_pushed a b n = record { now = with_own_turning a b n.now; total = n.total }

-- what stands in n is t, which a pass has left of the row r and of the bodies a and b, whose angular momenta are as
-- they were
abbrev pub IsPushedAfter64 : JointAfter → JointRow → BodyState → BodyState → Pushed64 → Type 0
IsPushedAfter64 t r a b n = IsRowAfter64 t r a b (all_pushed a b n)

-- ---- for what there is room in 64 bits

-- momenta so small that there is room for them
pub record AreMomentaSmall (p q : Vec2) : Type 0 where
  pub a_x : unsigned_abs p.x < 2 ^ 40
  pub a_y : unsigned_abs p.y < 2 ^ 40
  pub b_x : unsigned_abs q.x < 2 ^ 40
  pub b_y : unsigned_abs q.y < 2 ^ 40

-- a solver pass
pub record HasCentreSolveRoom64 (r : JointRow) (a b : BodyState) : Type 0 where
  pub centres : IsBetweenCentres r.line
  pub small : AreMomentaSmall a.motion.p b.motion.p
  pub line : HasLineRoom64 r (ends_with a b (without_turning a b))

-- the warm start
pub record HasCentreWarmRoom64 (r : JointRow) (a b : BodyState) : Type 0 where
  pub centres : IsBetweenCentres r.line
  pub small : AreMomentaSmall a.motion.p b.motion.p
  pub impulse : unsigned_abs r.impulse < 2 ^ 29
