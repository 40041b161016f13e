-- Trusted: How the shapes and the contacts of a world are formed.
use Rattle.std.specs.Prelude.{◌≡◌, ℕ, ◌-◌, ◌^◌, ◌≤◌, ◌==◌, ◌&&◌, Bool, false, cond, nat_le, All, List, slice_get, Option, Some, None, pos, negsuc, ◌≤ℤ◌, int_le, unsigned_abs, option_and_then}
use Rattle.std.specs.Option.{ForSome}
use Rattle.contacts_base.specs.Surfaces.{mixed}
use Rattle.contacts_base.specs.declared.contact.Contact.{Contact}
use Rattle.contacts_base.specs.declared.contact.ContactPoint.{ContactPoint}
use Rattle.contacts_base.specs.declared.key.ShapeId.{ShapeId}
use Rattle.contacts_base.specs.declared.limits.TheConstants.{MAX_FRICTION, MAX_RESTITUTION}
use Rattle.contacts_base.specs.declared.surface.Surface.{Surface}
use Rattle.plain_world.specs.declared.body.Body.{Body}
use Rattle.plain_world.specs.Slots.{body_at}
use Rattle.shapes.specs.declared.filter.Filter.{Filter}
use Rattle.shapes.specs.declared.shape.ShapeDef.{ShapeDef}

-- ---- filters

-- the numbers of a filter are within the ranges of their types
pub record HasFilter (f : Filter) : Type 0 where
  pub category : f.category ≤ 2 ^ 64 - 1
  pub mask : f.mask ≤ 2 ^ 64 - 1
  pub least : negsuc (2 ^ 31 - 1) ≤ℤ f.group
  pub most : f.group ≤ℤ pos (2 ^ 31 - 1)

abbrev pub HaveFilters : List ShapeDef → Type 0
HaveFilters shapes = All (λ (d : ShapeDef). HasFilter d.filter) shapes

-- and of each shape of each body
abbrev pub AreFiltered : List (Option Body) → Type 0
AreFiltered bodies = (slot : ℕ) (b : Body) → body_at bodies slot ≡ Some b → HaveFilters b.shapes

-- ---- shapes by their names

abbrev pub shape_of_body : Option Body → ℕ → Option ShapeDef
shape_of_body body index = option_and_then (λ (b : Body). cond b.enabled (slice_get b.shapes index) None) body

abbrev pub shape_with_id : List (Option Body) → ShapeId → Option ShapeDef
shape_with_id bodies id = shape_of_body (body_at bodies id.slot) id.index

-- ---- the surface that two shapes mix to

abbrev pub surface_of : ShapeDef → Surface
surface_of def = record { friction = def.friction; restitution = def.restitution }

abbrev pub is_surface : Surface → Bool
is_surface s =
    (int_le (pos 0) s.friction && nat_le (unsigned_abs s.friction) MAX_FRICTION)
    && (int_le (pos 0) s.restitution && nat_le (unsigned_abs s.restitution) MAX_RESTITUTION)

abbrev pub no_surface : Surface
no_surface = record { friction = pos 0; restitution = pos 0 }

abbrev pub mixed_surface : Surface → Surface → Surface
mixed_surface a b = cond (is_surface a && is_surface b) (mixed a b) no_surface

-- that of the two shapes, whose numbers are within their limits
abbrev pub mixed_of : Option ShapeDef → Option ShapeDef → Surface
mixed_of None second = no_surface
mixed_of (Some first) None = no_surface
mixed_of (Some first) (Some second) = mixed_surface (surface_of first) (surface_of second)

-- ---- contacts

-- each point is of one of four candidates; a second one stands beside a first, of another candidate
pub record HasPoints (c : Contact) : Type 0 where
  pub first : ForSome c.first (λ p. p.candidate ≤ 3)
  pub second : ForSome c.second (λ p. p.candidate ≤ 3)
  pub beside : (q : ContactPoint) → c.second ≡ Some q → (p : ContactPoint) × (c.first ≡ Some p) × ((q.candidate == p.candidate) ≡ false)
