-- Trusted: One contact in a step: what its impulses do to it and to its two bodies. All that the solver computes once a
-- step is computed here where it is used.
use Rattle.std.specs.Prelude.{Bool, false, cond, Option, Some, None, ℤ, pos, neg_ℤ, ◌+ℤ◌, ◌*ℤ◌, int_lt, ◌-ℤ◌}
use Rattle.fixed_geom.specs.Numbers.{rdiv, fdiv}
use Rattle.fixed_geom.specs.Vectors.{unit_length, dot, minus}
use Rattle.fixed_geom.specs.declared.limits.TheConstants.{MAX_NORMAL_IMPULSE}
use Rattle.fixed_geom.specs.declared.vectors.Vec2.{Vec2}
use Rattle.colour_solver_base.specs.declared.limits.TheConstants.{BOUNCE_SPEED, MAX_BIAS, SLOP}
use Rattle.momenta.specs.declared.state.Ends.{Ends}
use Rattle.momenta.specs.declared.line.Line.{Line}
use Rattle.momenta.specs.declared.line.Exerted.{Exerted}
use Rattle.momenta.specs.Impulses.{line_along, speed_along, solved_impulse, warmed, travelled}
use Rattle.contacts_base.specs.declared.contact.ContactPoint.{ContactPoint}
use Rattle.contacts_base.specs.declared.contact.Contact.{Contact}

-- a point of a contact with its two bodies, and a contact with them
pub record SolvedPoint : Type 0 where
  pub point : ContactPoint
  pub ends : Ends

pub record SolvedContact : Type 0 where
  pub contact : Contact
  pub ends : Ends

-- ---- lines

-- the direction of friction: the normal turned to the right
abbrev pub tangent : Vec2 → Vec2
tangent n = record { x = n.y; y = neg_ℤ n.x }

abbrev pub normal_line : ContactPoint → Ends → Line
normal_line p e = line_along p.normal p.ra p.rb e

abbrev pub tangent_line : ContactPoint → Ends → Line
tangent_line p e = line_along (tangent p.normal) p.ra p.rb e

-- ---- one point

abbrev pub with_normal_impulse : ContactPoint → Exerted → SolvedPoint
with_normal_impulse p x = record { point = record p { normal_impulse = x.total }; ends = x.ends }

abbrev pub with_tangent_impulse : ContactPoint → Exerted → SolvedPoint
with_tangent_impulse p x = record { point = record p { tangent_impulse = x.total }; ends = x.ends }

-- the separation of the collide, and how far the centres have parted along the normal since the step began
abbrev pub separation_now : ContactPoint → Ends → ℤ
separation_now p e = p.separation +ℤ rdiv (dot (minus (travelled e.b) (travelled e.a)) p.normal) unit_length

-- the speed at which an overlap beyond the slop is taken away: an eighth of it in a tick, and at most the greatest bias
unfoldable pub overlap_bias : ℤ → ℤ
overlap_bias separation = cond (int_lt (neg_ℤ SLOP) separation) (pos 0) (cond (int_lt MAX_BIAS (fdiv (neg_ℤ separation -ℤ SLOP) (pos 8))) MAX_BIAS (fdiv (neg_ℤ separation -ℤ SLOP) (pos 8)))

-- an impulse along the normal towards the bias: never pulling
abbrev pub normal_solved : ℤ → ContactPoint → Ends → SolvedPoint
normal_solved bias p e = with_normal_impulse p (solved_impulse (normal_line p e) bias (pos 0) MAX_NORMAL_IMPULSE p.normal_impulse e)

-- the most friction that a normal impulse allows, the coefficient being in 256ths
abbrev pub most_friction : ℤ → ℤ → ℤ
most_friction friction normal_impulse = fdiv (friction *ℤ normal_impulse) (pos 256)

-- friction: as much as the normal impulse allows
abbrev pub tangent_solved : ℤ → SolvedPoint → SolvedPoint
tangent_solved friction s = with_tangent_impulse s.point (solved_impulse (tangent_line s.point s.ends) (pos 0) (neg_ℤ (most_friction friction s.point.normal_impulse)) (most_friction friction s.point.normal_impulse) s.point.tangent_impulse s.ends)

-- the normal impulse, which takes overlaps beyond the slop away, and then friction
abbrev pub point_solved : ℤ → ContactPoint → Ends → SolvedPoint
point_solved friction p e = tangent_solved friction (normal_solved (overlap_bias (separation_now p e)) p e)

-- the kept impulses given once more
abbrev pub point_warmed : ContactPoint → Ends → Ends
point_warmed p e = warmed (tangent_line p (warmed (normal_line p e) p.normal_impulse e)) p.tangent_impulse (warmed (normal_line p e) p.normal_impulse e)

-- whether the point bounces: its bodies, standing as when the step began, come together faster than the bounce speed,
-- and the last tick has left it a normal impulse
abbrev pub bounces : ℤ → Ends → ContactPoint → Bool
bounces restitution start p = cond (int_lt (pos 0) restitution) (cond (int_lt (speed_along (normal_line p start) start) (neg_ℤ BOUNCE_SPEED)) (int_lt (pos 0) p.normal_impulse) false) false

-- one impulse along the normal towards the speed of restitution, in 256ths of the speed at the start
abbrev pub point_bounced : ℤ → Ends → ContactPoint → Ends → SolvedPoint
point_bounced restitution start p e =
    cond (bounces restitution start p) (normal_solved (neg_ℤ (rdiv (restitution *ℤ speed_along (normal_line p start) start) (pos 256))) p e) (record { point = p; ends = e })

-- ---- a whole contact, point by point

abbrev pub then_second : (ContactPoint → Ends → SolvedPoint) → Contact → SolvedPoint → Option ContactPoint → SolvedContact
then_second f c first None = record { contact = record c { first = Some first.point }; ends = first.ends }
then_second f c first (Some p) = let second = f p first.ends in record { contact = record c { first = Some first.point; second = Some second.point }; ends = second.ends }

abbrev pub from_first : (ContactPoint → Ends → SolvedPoint) → Contact → Ends → Option ContactPoint → SolvedContact
from_first f c e None = record { contact = c; ends = e }
from_first f c e (Some p) = then_second f c (f p e) c.second

-- what is done at the first point, and then at the second; at a contact that doesn't touch nothing
abbrev pub at_points : (ContactPoint → Ends → SolvedPoint) → Contact → Ends → SolvedContact
at_points f c e = from_first f c e c.first

unfoldable pub contact_warmed : Contact → Ends → SolvedContact
contact_warmed c e = at_points (λ p e. record { point = p; ends = point_warmed p e }) c e

unfoldable pub contact_solved : ℤ → Contact → Ends → SolvedContact
contact_solved friction c e = at_points (point_solved friction) c e

unfoldable pub contact_bounced : ℤ → Ends → Contact → Ends → SolvedContact
contact_bounced restitution start c e = at_points (point_bounced restitution start) c e
