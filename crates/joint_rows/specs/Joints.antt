-- Trusted: One joint in a step: what stays for the step, and what its impulses do to it and to its two bodies. `start`
-- is the two bodies as they stand when the step begins, `e` as they stand now. All that the solver computes once a step
-- is computed here where it is used.
use Rattle.std.specs.Prelude.{Bool, ◌&&◌, ◌≤◌, cond, ℤ, pos, neg_ℤ, ◌+ℤ◌, ◌-ℤ◌, ◌≤ℤ◌, unsigned_abs}
use Rattle.std.specs.Ordering.{int_eq}
use Rattle.fixed_geom.specs.Numbers.{rdiv}
use Rattle.fixed_geom.specs.Facings.{rotate}
use Rattle.fixed_geom.specs.Vectors.{IsWithin, dot, minus, plus, span, unit, unit_length}
use Rattle.fixed_geom.specs.declared.vectors.Vec2.{Vec2}
use Rattle.momenta.specs.declared.state.BodyState.{BodyState}
use Rattle.momenta.specs.declared.state.Ends.{Ends}
use Rattle.momenta.specs.declared.line.Line.{Line}
use Rattle.momenta.specs.declared.line.Exerted.{Exerted}
use Rattle.momenta.specs.Impulses.{between, line_along, solved_impulse, travelled, warmed}
use Rattle.joint_rows.specs.declared.limits.TheConstants.{MAX_ANCHOR, MAX_JOINT_BIAS, MAX_JOINT_IMPULSE, MAX_JOINT_LENGTH}
use Rattle.joint_rows.specs.declared.joint.Joint.{Joint}

-- what must hold of a joint
pub record IsJoint (j : Joint) : Type 0 where
  pub from : IsWithin (unsigned_abs MAX_ANCHOR) j.from
  pub to : IsWithin (unsigned_abs MAX_ANCHOR) j.to
  pub nonnegative : pos 0 ≤ℤ j.length
  pub length : unsigned_abs j.length ≤ unsigned_abs MAX_JOINT_LENGTH
  pub impulse : unsigned_abs j.impulse ≤ unsigned_abs MAX_JOINT_IMPULSE

-- ---- what stays for a whole step

-- the offset of a body's anchor from its centre, in the axes of the world
abbrev pub arm : Vec2 → BodyState → Vec2
arm anchor s = rotate s.motion.rot anchor

-- the point of a body at the offset r
abbrev pub anchor_of : Vec2 → BodyState → Vec2
anchor_of r s = plus s.motion.x r

-- the way from the first body's point at ra to the second's at rb
abbrev pub gap : Vec2 → Vec2 → Ends → Vec2
gap ra rb e = minus (anchor_of rb e.b) (anchor_of ra e.a)

abbrev pub is_zero : Vec2 → Bool
is_zero d = int_eq d.x (pos 0) && int_eq d.y (pos 0)

-- the direction of a way: upwards where it leads nowhere
unfoldable pub direction_along : Vec2 → Vec2
direction_along d = cond (is_zero d) (record { x = pos 0; y = unit_length }) (unit d)

-- the way from one anchor to the other when the step begins
abbrev pub joint_gap : Joint → Ends → Vec2
joint_gap j start = gap (arm j.from start.a) (arm j.to start.b) start

-- the line of the joint's impulses: along that way, through the two anchors
abbrev pub joint_line : Joint → Ends → Line
joint_line j start = line_along (direction_along (joint_gap j start)) (arm j.from start.a) (arm j.to start.b) start

-- by how much the anchors' distance exceeds the joint's length when the step begins
abbrev pub joint_stretch : Joint → Ends → ℤ
joint_stretch j start = span (joint_gap j start) -ℤ j.length

-- ---- in a tick

-- how far the centres have parted along n since the step began
abbrev pub parted_along : Vec2 → Ends → ℤ
parted_along n e = rdiv (dot (minus (travelled e.b) (travelled e.a)) n) unit_length

-- the speed of parting that takes an error away: an eighth of it in a tick, and at most the greatest bias either way
unfoldable pub joint_bias : ℤ → ℤ
joint_bias stretch = between (neg_ℤ MAX_JOINT_BIAS) MAX_JOINT_BIAS (neg_ℤ (rdiv stretch (pos 8)))

-- a joint with its two bodies
pub record SolvedJoint : Type 0 where
  pub joint : Joint
  pub ends : Ends

-- the kept impulse given once more
abbrev pub joint_warmed : Ends → Joint → Ends → SolvedJoint
joint_warmed start j e = record { joint = j; ends = warmed (joint_line j start) j.impulse e }

abbrev pub with_total : Joint → Exerted → SolvedJoint
with_total j x = record { joint = record j { impulse = x.total }; ends = x.ends }

-- one impulse towards the bias: pulling or pushing
abbrev pub joint_solved : Ends → Joint → Ends → SolvedJoint
joint_solved start j e =
    with_total j (solved_impulse (joint_line j start) (joint_bias (joint_stretch j start +ℤ parted_along (direction_along (joint_gap j start)) e)) (neg_ℤ MAX_JOINT_IMPULSE) MAX_JOINT_IMPULSE j.impulse e)
