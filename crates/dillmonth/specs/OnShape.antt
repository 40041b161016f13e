-- Trusted: What a ray hits of one shape.
use Rattle.std.specs.Prelude.{◌≡◌, ℕ, ◌⊎◌, cond, nat_lt, Option, Some, None, Result, Ok, Err}
use Rattle.contacts_base.specs.declared.key.ShapeId.{ShapeId}
use Rattle.dillmonth.specs.Forms.{vector_shown}
use Rattle.dillmonth.specs.Statuses.{status_of}
use Rattle.dillmonth.specs.declared.forms.CShapeId.{CShapeId}
use Rattle.dillmonth.specs.declared.on_shape.CShapeHit.{CShapeHit}
use Rattle.dillmonth.specs.declared.statuses.TheConstants.{NO_WORLD}
use Rattle.fixed_geom.specs.Vectors.{zero_vector}
use Rattle.fixed_geom.specs.declared.refusal.Refusal.{Refusal}
use Rattle.fixed_geom.specs.declared.refusal.Refusal.TheVariants.{StaleHandle}
use Rattle.fixed_geom.specs.declared.vectors.Vec2.{Vec2}
use Rattle.shape_rays.specs.declared.surfaces.ShapeHit.{ShapeHit}
use Rattle.shapes.specs.Rays.{IsBeam, beam_of}
use Rattle.shapes.specs.declared.beam.Beam.{Beam}
use Rattle.world_desk.specs.declared.desk.Desk.{Desk}
use Rattle.world_queries.specs.OnShape.{hit_on_shape}
use Rattle.world_rules.specs.World.{World}

-- the name of a shape, where its index has room in 8 bits
abbrev pub id_said : CShapeId → Option ShapeId
id_said id = cond (nat_lt 255 id.index) None (Some (record { slot = id.slot; index = id.index }))

-- all zeros where the ray misses the shape
abbrev pub shape_hit_shown : Option ShapeHit → CShapeHit
shape_hit_shown None = record { is_hit = 0; fraction = 0; point = vector_shown zero_vector; normal = vector_shown zero_vector }
shape_hit_shown (Some h) = record { is_hit = 1; fraction = h.fraction; point = vector_shown h.point; normal = vector_shown h.normal }

-- the ray's hit on the shape of this name, if there may be such a shape
abbrev pub hit_said : World → Beam → Option ShapeId → Result (Option ShapeHit) Refusal
hit_said w r None = Err StaleHandle
hit_said w r (Some id) = hit_on_shape w.plain.bodies r id

-- the hit is written; or the number of a refusal is answered, and nothing is written
abbrev pub IsHitWritten : Result (Option ShapeHit) Refusal → ℕ → CShapeHit → CShapeHit → Type 0
IsHitWritten (Ok hit) status before after = (status ≡ 0) × (after ≡ shape_hit_shown hit)
IsHitWritten (Err e) status before after = (status ≡ status_of e) × (after ≡ before)

-- the same of a ray that may be beyond its limits: 5 is answered then, and nothing is written
abbrev pub HitsShape : World → Vec2 → Vec2 → CShapeId → ℕ → CShapeHit → CShapeHit → Type 0
HitsShape w from along id status before after =
    (IsBeam (beam_of from along) × IsHitWritten (hit_said w (beam_of from along) (id_said id)) status before after)
    ⊎ ((¬ IsBeam (beam_of from along)) × (status ≡ 5) × (after ≡ before))

abbrev pub HitsShapeIn : Option Desk → Vec2 → Vec2 → CShapeId → ℕ → CShapeHit → CShapeHit → Type 0
HitsShapeIn None from along id status before after = (status ≡ NO_WORLD) × (after ≡ before)
HitsShapeIn (Some desk) from along id status before after = HitsShape desk.world from along id status before after
