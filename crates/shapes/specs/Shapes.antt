-- Trusted: The parts of a shape, and which shapes a body may have.
use Rattle.std.specs.Prelude.{◌≤◌, Bool, ◌&&◌, not, nat_le, List, length, ℤ, pos, int_le, ◌≤ℤ◌, unsigned_abs, Option, None}
use Rattle.std.specs.Ordering.{int_eq}
use Rattle.std.specs.List.{list_all}
use Rattle.fixed_geom.specs.Refusals.{refused_unless}
use Rattle.fixed_geom.specs.Vectors.{IsWithin, is_within}
use Rattle.fixed_geom.specs.declared.vectors.Vec2.{Vec2}
use Rattle.fixed_geom.specs.declared.refusal.Refusal.{Refusal}
use Rattle.fixed_geom.specs.declared.refusal.Refusal.TheVariants.{BadShape, OutOfRange}
use Rattle.shapes.specs.declared.limits.TheConstants.{MAX_CORE, MAX_FRICTION, MAX_RADIUS, MAX_RESTITUTION, MAX_SHAPES}
use Rattle.shapes.specs.declared.shape.Shape.{Shape}
use Rattle.shapes.specs.declared.shape.Shape.TheVariants.{Circle, Capsule, Segment}
use Rattle.shapes.specs.declared.shape.ShapeDef.{ShapeDef}
use Rattle.shapes.specs.Filters.{default_filter}

abbrev pub first_end : Shape → Vec2
first_end (Circle center radius) = center
first_end (Capsule first second radius) = first
first_end (Segment first second) = first

abbrev pub second_end : Shape → Vec2
second_end (Circle center radius) = center
second_end (Capsule first second radius) = second
second_end (Segment first second) = second

abbrev pub radius_of : Shape → ℤ
radius_of (Circle center radius) = radius
radius_of (Capsule first second radius) = radius
radius_of (Segment first second) = pos 0

-- a shape whose numbers are within their limits, in u
pub record IsShape (s : Shape) : Type 0 where
  pub first : IsWithin MAX_CORE (first_end s)
  pub second : IsWithin MAX_CORE (second_end s)
  pub nonnegative : pos 0 ≤ℤ radius_of s
  pub radius : unsigned_abs (radius_of s) ≤ unsigned_abs MAX_RADIUS

-- a shape without friction and restitution that collides with all
abbrev pub default_def : ShapeDef
default_def = record { shape = Circle (record { x = pos 0; y = pos 0 }) (pos 0); friction = pos 0; restitution = pos 0; filter = default_filter }

-- a shape as a body may have it; friction and restitution are in 256ths
pub record IsShapeDef (d : ShapeDef) : Type 0 where
  pub shape : IsShape d.shape
  pub friction : pos 0 ≤ℤ d.friction
  pub friction_small : unsigned_abs d.friction ≤ unsigned_abs MAX_FRICTION
  pub restitution : pos 0 ≤ℤ d.restitution
  pub restitution_small : unsigned_abs d.restitution ≤ unsigned_abs MAX_RESTITUTION

abbrev pub is_between : ℤ → ℤ → ℤ → Bool
is_between low high z = int_le low z && int_le z high

-- two points differ
abbrev pub are_apart : Vec2 → Vec2 → Bool
are_apart p q = not (int_eq p.x q.x && int_eq p.y q.y)

-- a form that a body may have: a circle of any radius up to the greatest, a capsule of radius 1 or more and
-- different ends, or, where segments are allowed, a segment of different ends
abbrev pub is_form_allowed : Bool → Shape → Bool
is_form_allowed segments (Circle center radius) = is_between (pos 0) MAX_RADIUS radius
is_form_allowed segments (Capsule first second radius) = are_apart first second && is_between (pos 1) MAX_RADIUS radius
is_form_allowed segments (Segment first second) = segments && are_apart first second

-- each end of the core is near the body's centre in each coordinate
abbrev pub is_core_near : Shape → Bool
is_core_near s = is_within MAX_CORE (first_end s) && is_within MAX_CORE (second_end s)

-- each number is within its limit
abbrev pub is_in_range : ShapeDef → Bool
is_in_range d = is_core_near d.shape && is_between (pos 0) MAX_FRICTION d.friction && is_between (pos 0) MAX_RESTITUTION d.restitution

-- 1 to 8 shapes, each of a form that is allowed
abbrev pub are_forms_allowed : Bool → List ShapeDef → Bool
are_forms_allowed segments defs = nat_le 1 (length defs) && nat_le (length defs) MAX_SHAPES && list_all (λ d. is_form_allowed segments d.shape) defs

-- why a body may not have these shapes: first for a form or their number, then for a number
-- outside its limit
unfoldable pub shapes_refusal : Bool → List ShapeDef → Option Refusal
shapes_refusal segments defs =
    refused_unless (are_forms_allowed segments defs) BadShape (
    refused_unless (list_all is_in_range defs) OutOfRange (
    None))
