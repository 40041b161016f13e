-- Trusted: All hits of a ray, in order.
use Rattle.std.specs.Prelude.{ℕ, ◌+◌, ◌*◌, ◌^◌, Bool, List, Option, Some, None, option_map}
use Rattle.std.specs.List.{filter_map}
use Rattle.std.specs.List.Sorted.{IsNonDecreasingBy, IsPermutation}
use Rattle.contacts_base.specs.declared.key.ShapeId.{ShapeId}
use Rattle.plain_world.specs.Placement.{shape_of}
use Rattle.plain_world.specs.declared.body.Body.{Body}
use Rattle.shape_rays.specs.Hits.{hit_on}
use Rattle.shape_rays.specs.declared.hits.Hit.{Hit}
use Rattle.shape_rays.specs.declared.hits.PosedShape.{PosedShape}
use Rattle.shapes.specs.declared.beam.Beam.{Beam}
use Rattle.world_queries.specs.ByBoxes.{hit_through}
use Rattle.world_queries.specs.Posed.{named}

-- the ray's hits on these shapes, in the order of the shapes
abbrev pub hits_on : Beam → List PosedShape → List Hit
hits_on r ps = filter_map (hit_on r) ps

-- hits ascend by their fraction and, where two are as near, by the names of their shapes
abbrev pub hit_number : Hit → ℕ
hit_number h = (h.fraction * 2 ^ 32 + h.shape.slot) * 2 ^ 8 + h.shape.index

-- just the ray's hits on these shapes, ascending
pub record AreAllHits (r : Beam) (ps : List PosedShape) (hits : List Hit) : Type 0 where
  pub all : IsPermutation (hits_on r ps) hits
  pub ascending : IsNonDecreasingBy hit_number hits

-- ---- shapes by their names

-- the ray's hit on the shape, if there is one, and its name passes the test
abbrev pub hit_of : Beam → (ShapeId → Bool) → Option PosedShape → Option Hit
hit_of r test None = None
hit_of r test (Some p) = hit_through r test p

-- the ray's hit on the shape of this name
abbrev pub hit_named : Beam → (ShapeId → Bool) → List (Option Body) → ShapeId → Option Hit
hit_named r test bodies id = hit_of r test (option_map (named id) (shape_of bodies id))
