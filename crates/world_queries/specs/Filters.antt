-- Trusted: Which shapes of a world a filter lets through.
use Rattle.std.specs.Prelude.{◌≡◌, ℕ, ◌==◌, bit_and, Bool, true, false, not, ◌&&◌, List, filter, Option, Some, None, slice_get}
use Rattle.body_handles.specs.declared.handle.Handle.{Handle}
use Rattle.contacts_base.specs.declared.key.ShapeId.{ShapeId}
use Rattle.fixed_geom.specs.declared.refusal.Refusal.{Refusal}
use Rattle.fixed_geom.specs.declared.refusal.Refusal.TheVariants.{NoMemory, StaleHandle}
use Rattle.plain_world.specs.Plain.{Plain}
use Rattle.plain_world.specs.Slots.{body_at}
use Rattle.plain_world.specs.declared.body.Body.{Body}
use Rattle.shape_rays.specs.declared.hits.PosedShape.{PosedShape}
use Rattle.shapes.specs.declared.shape.ShapeDef.{ShapeDef}
use Rattle.world_rules.specs.World.{body_named}
use Rattle.world_queries.specs.Posed.{posed_shapes}
use Rattle.world_queries.specs.declared.filters.QueryFilter.{QueryFilter}

-- ---- one shape

-- the handle, if there is one, names this slot
abbrev pub is_slot_of : Option Handle → ℕ → Bool
is_slot_of None slot = false
is_slot_of (Some h) slot = h.slot == slot

-- the mask and a category have a bit in common; without a mask any category will do
abbrev pub is_in_mask : Option ℕ → ℕ → Bool
is_in_mask None category = true
is_in_mask (Some mask) category = not (bit_and mask category == 0)

abbrev pub category_in : Option ShapeDef → ℕ
category_in None = 0
category_in (Some d) = d.filter.category

abbrev pub shape_def_in : Option Body → ℕ → Option ShapeDef
shape_def_in None index = None
shape_def_in (Some b) index = slice_get b.shapes index

-- the category of the shape of this name: no bits where there is none
abbrev pub category_of : List (Option Body) → ShapeId → ℕ
category_of bodies id = category_in (shape_def_in (body_at bodies id.slot) id.index)

-- a shape is let through if its body isn't the one that is left out, and its category meets the mask
abbrev pub lets_through : QueryFilter → List (Option Body) → ShapeId → Bool
lets_through f bodies id = not (is_slot_of f.without id.slot) && is_in_mask f.mask (category_of bodies id)

-- ---- all shapes

-- those whose names pass a test
abbrev pub through : (ShapeId → Bool) → List PosedShape → List PosedShape
through test ps = filter (λ p. test p.id) ps

-- the shapes of all enabled bodies that the filter lets through
abbrev pub shapes_through : QueryFilter → List (Option Body) → List PosedShape
shapes_through f bodies = through (lets_through f bodies) (posed_shapes bodies)

-- those of these names that the filter lets through, in their order
abbrev pub names_through : QueryFilter → List (Option Body) → List ShapeId → List ShapeId
names_through f bodies ids = filter (lets_through f bodies) ids

-- ---- filters that are refused

abbrev pub stale_refusal : Option Body → Option Refusal
stale_refusal None = Some StaleHandle
stale_refusal (Some b) = None

abbrev pub without_refusal : Plain → Option Handle → Option Refusal
without_refusal w None = None
without_refusal w (Some h) = stale_refusal (body_named w h)

-- a filter is refused that leaves out a body which doesn't live
abbrev pub filter_refusal : Plain → QueryFilter → Option Refusal
filter_refusal w f = without_refusal w f.without

-- why nothing is found: the refusal that is due, or want of memory where none is
abbrev pub IsDueOrWanting : Option Refusal → Refusal → Type 0
IsDueOrWanting None e = e ≡ NoMemory
IsDueOrWanting (Some due) e = e ≡ due
