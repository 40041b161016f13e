-- What is asked of single slots, where a tree of boxes tells which are worth a question.
use Rattle.std.specs.Prelude.{ℕ, Bool, cond, List, [], ◌∷◌, ◌++◌, Option, Some, None, Result, Ok, Err}
use Rattle.contacts_base.specs.declared.key.ShapeId.{ShapeId}
use Rattle.fixed_geom.specs.declared.boxes.Box2.{Box2}
use Rattle.fixed_geom.specs.declared.refusal.Refusal.{Refusal}
use Rattle.fixed_geom.specs.declared.refusal.Refusal.TheVariants.{StaleHandle}
use Rattle.plain_world.specs.declared.body.Body.{Body}
use Rattle.plain_world.specs.Slots.{body_at}
use Rattle.shape_rays.specs.Hits.{first_hit, hit_on, region}
use Rattle.shape_rays.specs.Surfaces.{shape_hit}
use Rattle.shape_rays.specs.declared.hits.Hit.{Hit}
use Rattle.shape_rays.specs.declared.hits.PosedShape.{PosedShape}
use Rattle.shape_rays.specs.declared.surfaces.ShapeHit.{ShapeHit}
use Rattle.shapes.specs.declared.beam.Beam.{Beam}
use Rattle.world_queries.specs.Filters.{through}
use Rattle.world_queries.specs.Posed.{shapes_at}

abbrev pub fraction_of : Option Hit → Option ℕ
fraction_of None = None
fraction_of (Some h) = Some h.fraction

-- the ray's hit on one shape, if its name passes the test
abbrev pub hit_through : Beam → (ShapeId → Bool) → PosedShape → Option Hit
hit_through r test p = cond (test p.id) (hit_on r p) None

-- where the ray first hits those shapes of the body in a slot whose names pass the test
abbrev pub fraction_at : Beam → (ShapeId → Bool) → List (Option Body) → ℕ → Option ℕ
fraction_at r test bodies slot = fraction_of (first_hit r (through test (shapes_at slot (body_at bodies slot))))

-- the shapes over the region of the bodies in these slots, one slot after another
abbrev pub region_at : Box2 → List (Option Body) → List ℕ → List ShapeId
region_at b bodies [] = []
region_at b bodies (slot ∷ slots) = region b (shapes_at slot (body_at bodies slot)) ++ region_at b bodies slots

-- the ray's hit on a shape that was found by its name, if it hits it; refused where none was found
abbrev pub hit_of_posed : Beam → Option PosedShape → Result (Option ShapeHit) Refusal
hit_of_posed r None = Err StaleHandle
hit_of_posed r (Some p) = Ok (shape_hit r p.shape p.pose)
