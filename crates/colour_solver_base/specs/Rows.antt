-- Trusted: the row that the solver makes of a contact for a step, and what its impulses do to it and to its two bodies.
use Rattle.std.specs.Prelude.{◌≤◌, ◌+◌, ◌^◌, Bool, false, cond, Option, Some, None, option_map, ℤ, pos, neg_ℤ, ◌+ℤ◌, ◌*ℤ◌, ◌≤ℤ◌, unsigned_abs, int_lt}
use Rattle.std.specs.Option.{ForSome}
use Rattle.fixed_geom.specs.Numbers.{rdiv}
use Rattle.fixed_geom.specs.Reciprocals.{over_inverse_reciprocal}
use Rattle.fixed_geom.specs.Vectors.{unit_length, dot, minus}
use Rattle.fixed_geom.specs.declared.limits.TheConstants.{MAX_LINE_IMPULSE, MAX_NORMAL_IMPULSE, MAX_OFFSET}
use Rattle.shapes.specs.declared.limits.TheConstants.{MAX_FRICTION, MAX_RESTITUTION}
use Rattle.colour_solver_base.specs.declared.limits.TheConstants.{BOUNCE_SPEED}
use Rattle.momenta.specs.declared.state.Ends.{Ends}
use Rattle.momenta.specs.declared.line.Line.{Line}
use Rattle.momenta.specs.declared.line.Exerted.{Exerted}
use Rattle.momenta.specs.Impulses.{inverse_mass, speed_along, solved_impulse, warmed, travelled}
use Rattle.momenta.specs.ImpulseBounds.{IsLine}
use Rattle.contacts_base.specs.declared.key.ContactKey.{ContactKey}
use Rattle.contacts_base.specs.declared.contact.ContactPoint.{ContactPoint}
use Rattle.contacts_base.specs.declared.contact.Contact.{Contact}
use Rattle.colour_solver_base.specs.declared.row.PointRow.{PointRow}
use Rattle.colour_solver_base.specs.declared.row.ContactRow.{ContactRow}
use Rattle.colour_solver_base.specs.declared.row.Bodies.{Bodies}
use Rattle.colour_solver_base.specs.declared.solve.PointAfter.{PointAfter}
use Rattle.colour_solver_base.specs.RowsAfter.{RowAfter}
use Rattle.colour_solver_base.specs.ContactSolving.{tangent, overlap_bias, most_friction}

-- ---- lines

abbrev pub normal_line : PointRow → Line
normal_line p = record { direction = p.normal; ra = p.ra; rb = p.rb; inverse_mass = p.normal_inverse; reciprocal = p.normal_reciprocal }

abbrev pub tangent_line : PointRow → Line
tangent_line p = record { direction = tangent p.normal; ra = p.ra; rb = p.rb; inverse_mass = p.tangent_inverse; reciprocal = p.tangent_reciprocal }

-- ---- which contact a row is of

-- the key of the contact
abbrev pub key_of : Bodies → ContactKey
key_of bodies = record { first = record { slot = bodies.a; index = bodies.first }; second = record { slot = bodies.b; index = bodies.second } }

-- ---- what stays for a whole step

abbrev pub line_of : ContactPoint → Ends → Line
line_of c e = record { direction = c.normal; ra = c.ra; rb = c.rb; inverse_mass = inverse_mass c.normal c.ra c.rb e; reciprocal = over_inverse_reciprocal (inverse_mass c.normal c.ra c.rb e) }

-- the speed along the line, which only restitution asks for
abbrev pub start_speed : Bool → Line → Ends → ℤ
start_speed springy line e = cond springy (speed_along line e) (pos 0)

abbrev pub is_springy : Bodies → Bool
is_springy bodies = int_lt (pos 0) bodies.restitution

-- the row of a contact's point, its bodies standing as they do when the step begins
unfoldable pub point_row : Bool → Ends → ContactPoint → PointRow
point_row springy e c = record {
  normal = c.normal;
  ra = c.ra;
  rb = c.rb;
  normal_inverse = inverse_mass c.normal c.ra c.rb e;
  tangent_inverse = inverse_mass (tangent c.normal) c.ra c.rb e;
  normal_reciprocal = over_inverse_reciprocal (inverse_mass c.normal c.ra c.rb e);
  tangent_reciprocal = over_inverse_reciprocal (inverse_mass (tangent c.normal) c.ra c.rb e);
  separation = c.separation;
  start_speed = start_speed springy (line_of c e) e;
  normal_impulse = c.normal_impulse;
  tangent_impulse = c.tangent_impulse;
}

abbrev pub row_from : Bodies → Ends → Option ContactPoint → Option ContactPoint → Option ContactRow
row_from bodies e None second = None
row_from bodies e (Some first) second = Some (record { bodies = bodies; first = point_row (is_springy bodies) e first; second = option_map (point_row (is_springy bodies) e) second })

-- the row of a contact; one that doesn't touch has none
abbrev pub contact_row : Bodies → Ends → Contact → Option ContactRow
contact_row bodies e c = row_from bodies e c.first c.second

-- ---- the solver's impulses at one point

-- the separation now, the centres having moved since the step began
unfoldable pub separation_now : PointRow → Ends → ℤ
separation_now p e = p.separation +ℤ rdiv (dot (minus (travelled e.b) (travelled e.a)) p.normal) unit_length

abbrev pub with_normal : PointRow → Exerted → PointAfter
with_normal p x = record { point = record p { normal_impulse = x.total }; ends = x.ends }

abbrev pub with_tangent : PointRow → Exerted → PointAfter
with_tangent p x = record { point = record p { tangent_impulse = x.total }; ends = x.ends }

-- along the normal: never pulling, and at most the greatest normal impulse
abbrev pub normal_solved : ℤ → PointRow → Ends → PointAfter
normal_solved bias p e = with_normal p (solved_impulse (normal_line p) bias (pos 0) MAX_NORMAL_IMPULSE p.normal_impulse e)

-- across the normal: within what the normal impulse allows
abbrev pub tangent_solved : ℤ → PointRow → Ends → PointAfter
tangent_solved friction p e = with_tangent p (solved_impulse (tangent_line p) (pos 0) (neg_ℤ (most_friction friction p.normal_impulse)) (most_friction friction p.normal_impulse) p.tangent_impulse e)

abbrev pub then_tangent : ℤ → PointAfter → PointAfter
then_tangent friction t = tangent_solved friction t.point t.ends

-- the normal impulse, then friction
unfoldable pub point_solved : ℤ → PointRow → Ends → PointAfter
point_solved friction p e = then_tangent friction (normal_solved (overlap_bias (separation_now p e)) p e)

-- the kept impulses given once more: the normal one, then friction
unfoldable pub point_warmed : PointRow → Ends → Ends
point_warmed p e = warmed (tangent_line p) p.tangent_impulse (warmed (normal_line p) p.normal_impulse e)

-- whether the point bounces: its bodies came together faster than the bounce speed, and it has a normal impulse
abbrev pub bounces : ℤ → PointRow → Bool
bounces restitution p = cond (int_lt (pos 0) restitution) (cond (int_lt p.start_speed (neg_ℤ BOUNCE_SPEED)) (int_lt (pos 0) p.normal_impulse) false) false

-- one normal impulse towards the speed of its restitution, in 256ths of the first
unfoldable pub point_bounced : ℤ → PointRow → Ends → PointAfter
point_bounced restitution p e = cond (bounces restitution p) (normal_solved (neg_ℤ (rdiv (restitution *ℤ p.start_speed) (pos 256))) p e) (record { point = p; ends = e })

-- ---- a whole contact, point by point

abbrev pub after_first : ContactRow → PointAfter → RowAfter ContactRow
after_first r t = record { row = record r { first = t.point }; ends = t.ends }

abbrev pub after_second : ContactRow → PointAfter → RowAfter ContactRow
after_second r t = record { row = record r { second = Some t.point }; ends = t.ends }

abbrev pub then_second : (PointRow → Ends → PointAfter) → RowAfter ContactRow → Option PointRow → RowAfter ContactRow
then_second f t None = t
then_second f t (Some p) = after_second t.row (f p t.ends)

-- what is done at the first point, and then at the second
abbrev pub at_points : (PointRow → Ends → PointAfter) → ContactRow → Ends → RowAfter ContactRow
at_points f r e = then_second f (after_first r (f r.first e)) r.second

unfoldable pub row_warmed : ContactRow → Ends → RowAfter ContactRow
row_warmed r e = at_points (λ p e. record { point = p; ends = point_warmed p e }) r e

unfoldable pub row_solved : ContactRow → Ends → RowAfter ContactRow
row_solved r e = at_points (point_solved r.bodies.friction) r e

unfoldable pub row_bounced : ContactRow → Ends → RowAfter ContactRow
row_bounced r e = at_points (point_bounced r.bodies.restitution) r e

-- ---- what must hold of a row

pub record IsPointRow (p : PointRow) : Type 0 where
  pub normal_line : IsLine (normal_line p)
  pub tangent_line : IsLine (tangent_line p)
  pub separation : unsigned_abs p.separation ≤ unsigned_abs MAX_OFFSET
  pub start_speed : unsigned_abs p.start_speed ≤ 2 ^ 62 + 2 ^ 28
  pub normal_low : pos 0 ≤ℤ p.normal_impulse
  pub normal_high : unsigned_abs p.normal_impulse ≤ unsigned_abs MAX_NORMAL_IMPULSE
  pub tangent_impulse : unsigned_abs p.tangent_impulse ≤ unsigned_abs MAX_LINE_IMPULSE

pub record AreSurfaces (b : Bodies) : Type 0 where
  pub friction_low : pos 0 ≤ℤ b.friction
  pub friction_high : unsigned_abs b.friction ≤ unsigned_abs MAX_FRICTION
  pub restitution_low : pos 0 ≤ℤ b.restitution
  pub restitution_high : unsigned_abs b.restitution ≤ unsigned_abs MAX_RESTITUTION

pub record IsRow (r : ContactRow) : Type 0 where
  pub surfaces : AreSurfaces r.bodies
  pub first : IsPointRow r.first
  pub second : ForSome r.second IsPointRow
