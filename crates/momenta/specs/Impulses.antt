-- Trusted: Impulses: what a body gets of one, what two bodies give one another, and one impulse of the sequential
-- solver along a line.
use Rattle.std.specs.Prelude.{zero, ◌^◌, Bool, false, cond, nat_le, Option, Some, None, ℤ, pos, neg_ℤ, ◌+ℤ◌, ◌-ℤ◌, ◌*ℤ◌, unsigned_abs, int_lt, unwrap_or}
use Rattle.std.specs.Option.{option_map_or}
use Rattle.fixed_geom.specs.Numbers.{rdiv}
use Rattle.fixed_geom.specs.Reciprocals.{over_inverse_reciprocal}
use Rattle.fixed_geom.specs.Vectors.{is_within, unit_length, dot, cross, plus, minus, opposite}
use Rattle.fixed_geom.specs.declared.vectors.Vec2.{Vec2}
use Rattle.momenta.specs.declared.limits.TheConstants.{MAX_ANGULAR_MOMENTUM, MAX_MOMENTUM}
use Rattle.momenta.specs.declared.motion.Motion.{Motion}
use Rattle.momenta.specs.declared.state.BodyState.{BodyState}
use Rattle.momenta.specs.declared.state.Ends.{Ends}
use Rattle.momenta.specs.declared.line.Line.{Line}
use Rattle.momenta.specs.declared.line.Exerted.{Exerted}
use Rattle.momenta.specs.Motions.{velocity, spin}

-- the velocity of a point at the offset r, of a body with the velocity v and the spin w
abbrev pub carried : Vec2 → Vec2 → ℤ → Vec2
carried r v w = record { x = v.x -ℤ rdiv (w *ℤ r.y) unit_length; y = v.y +ℤ rdiv (w *ℤ r.x) unit_length }

-- the velocity of the body's point at the offset r
unfoldable pub velocity_at : Vec2 → BodyState → Vec2
velocity_at r s = carried r (velocity s.mass.mass s.motion.p) (spin s.mass.inertia s.motion.l)

-- how far the centre has come since the step began
abbrev pub travelled : BodyState → Vec2
travelled s = minus s.motion.x s.start

-- ---- an impulse given

-- the angular momentum with the impulse's moment, of a body that turns
abbrev pub turned_by : ℤ → ℤ → ℤ → ℤ
turned_by (pos zero) l moment = l
turned_by inertia l moment = l +ℤ moment

-- the body with the impulse j, given at the offset r: an immovable body gets nothing
unfoldable pub given : Vec2 → Vec2 → BodyState → BodyState
given j r s = cond s.movable (record s { motion = record s.motion { p = plus s.motion.p j; l = turned_by s.mass.inertia s.motion.l (cross r j) } }) s

-- its momenta are within their limits
abbrev pub fits : Motion → Bool
fits m = cond (is_within (unsigned_abs MAX_MOMENTUM) m.p) (nat_le (unsigned_abs m.l) (unsigned_abs MAX_ANGULAR_MOMENTUM)) false

unfoldable pub taken : Vec2 → Vec2 → BodyState → Option BodyState
taken j r s = cond (fits (given j r s).motion) (Some (given j r s)) None

abbrev pub both : Option BodyState → Option BodyState → Option Ends
both (Some a) (Some b) = Some (record { a = a; b = b })
both (Some a) None = None
both None b = None

-- the impulse j given to the second body and taken from the first; neither where a momentum would leave its limits
unfoldable pub impulse_pair : Vec2 → Vec2 → Vec2 → Ends → Option Ends
impulse_pair j ra rb e = both (taken (opposite j) ra e.a) (taken j rb e.b)

-- ---- along a line

-- the velocity at which the second body's point at rb leaves the first's at ra
unfoldable pub parting : Vec2 → Vec2 → Ends → Vec2
parting ra rb e = minus (velocity_at rb e.b) (velocity_at ra e.a)

-- the speed along the line at which the second body's point leaves the first's
unfoldable pub speed_along : Line → Ends → ℤ
speed_along line e = rdiv (dot (parting line.ra line.rb e) line.direction) unit_length

-- what turning adds to a body's share, g being the lever of the line
abbrev pub turning_share : ℤ → ℤ → ℤ
turning_share (pos zero) g = pos 0
turning_share inertia g = rdiv (pos (2 ^ 40) *ℤ (g *ℤ g)) inertia

-- a body's share of the inverse effective mass, times 2^40
abbrev pub inverse_share : Vec2 → Vec2 → BodyState → ℤ
inverse_share n r s = cond s.movable (rdiv (pos (2 ^ 40)) s.mass.mass +ℤ turning_share s.mass.inertia (rdiv (cross r n) unit_length)) (pos 0)

-- the inverse of the mass that the two bodies show along n at these offsets, times 2^40
unfoldable pub inverse_mass : Vec2 → Vec2 → Vec2 → Ends → ℤ
inverse_mass n ra rb e = inverse_share n ra e.a +ℤ inverse_share n rb e.b

-- the line along n through the points at these offsets from the two centres
abbrev pub line_along : Vec2 → Vec2 → Vec2 → Ends → Line
line_along n ra rb e = record { direction = n; ra = ra; rb = rb; inverse_mass = inverse_mass n ra rb e; reciprocal = over_inverse_reciprocal (inverse_mass n ra rb e) }

-- the impulse that brings the speed to the bias
unfoldable pub wanted : ℤ → ℤ → ℤ → ℤ
wanted speed bias inverse = rdiv (neg_ℤ (speed -ℤ bias) *ℤ pos (2 ^ 40)) inverse

-- z, or the limit that it passes
abbrev pub between : ℤ → ℤ → ℤ → ℤ
between low high z = cond (int_lt z low) low (cond (int_lt high z) high z)

-- the impulse of this size along n
unfoldable pub along : Vec2 → ℤ → Vec2
along n size = record { x = rdiv (size *ℤ n.x) unit_length; y = rdiv (size *ℤ n.y) unit_length }

abbrev pub or_dropped : ℤ → Ends → ℤ → Option Ends → Exerted
or_dropped old e new given = option_map_or (λ after. record { ends = after; total = new }) given (record { ends = e; total = old })

-- the accumulated impulse brought from the old total to the new; it stays where the impulse is dropped
unfoldable pub exerted : Line → ℤ → ℤ → Ends → Exerted
exerted line old new e = or_dropped old e new (impulse_pair (along line.direction (new -ℤ old)) line.ra line.rb e)

-- one impulse of the solver: towards the bias, its total kept within its range
unfoldable pub solved_impulse : Line → ℤ → ℤ → ℤ → ℤ → Ends → Exerted
solved_impulse line bias low high total e = exerted line total (between low high (total +ℤ wanted (speed_along line e) bias line.inverse_mass)) e

-- the warm start: the whole kept impulse given once; its total stays
unfoldable pub warmed : Line → ℤ → Ends → Ends
warmed line total e = unwrap_or (impulse_pair (along line.direction total) line.ra line.rb e) e
