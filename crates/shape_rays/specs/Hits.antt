-- Trusted: The first hit of a ray among shapes, and the shapes over a region.
use Rattle.std.specs.Prelude.{ℕ, Bool, true, false, cond, nat_lt, List, [], ◌∷◌, Option, None, Some}
use Rattle.contacts_base.specs.declared.key.ShapeId.{ShapeId}
use Rattle.fixed_geom.specs.Boxes.{overlaps}
use Rattle.fixed_geom.specs.declared.boxes.Box2.{Box2}
use Rattle.shapes.specs.declared.beam.Beam.{Beam}
use Rattle.shapes.specs.Bounds.{tight_box}
use Rattle.shapes.specs.Poses.{IsPose}
use Rattle.shapes.specs.Rays.{ray_of}
use Rattle.shapes.specs.Shapes.{IsShape}
use Rattle.shape_rays.specs.declared.hits.Hit.{Hit}
use Rattle.shape_rays.specs.declared.hits.PosedShape.{PosedShape}

pub record IsPosedShape (p : PosedShape) : Type 0 where
  pub shape : IsShape p.shape
  pub pose : IsPose p.pose

-- ---- the order of hits

-- the lesser of two names: that of a lower slot and, in one slot, of an earlier shape
abbrev pub is_lesser : ShapeId → ShapeId → Bool
is_lesser a b = cond (nat_lt a.slot b.slot) true (cond (nat_lt b.slot a.slot) false (nat_lt a.index b.index))

-- a comes before b: it is nearer or, where both are as near, its shape has the lesser name
abbrev pub is_before : Hit → Hit → Bool
is_before a b = cond (nat_lt a.fraction b.fraction) true (cond (nat_lt b.fraction a.fraction) false (is_lesser a.shape b.shape))

-- the hit of two that comes first; any comes before none
abbrev pub nearer : Option Hit → Option Hit → Option Hit
nearer None h = h
nearer (Some a) None = Some a
nearer (Some a) (Some b) = cond (is_before b a) (Some b) (Some a)

-- ---- a scan of all shapes

abbrev pub hit_at : Option ℕ → ShapeId → Option Hit
hit_at None s = None
hit_at (Some f) s = Some (record { fraction = f; shape = s })

-- the ray's hit on one shape
abbrev pub hit_on : Beam → PosedShape → Option Hit
hit_on r p = hit_at (ray_of p.shape p.pose r.from r.along) p.id

-- the ray's first hit on all these shapes
abbrev pub first_hit : Beam → List PosedShape → Option Hit
first_hit r [] = None
first_hit r (p ∷ ps) = nearer (hit_on r p) (first_hit r ps)

-- the names of the shapes whose tight box overlaps the region, in the order of the list
abbrev pub region : Box2 → List PosedShape → List ShapeId
region b [] = []
region b (p ∷ ps) = cond (overlaps (tight_box p.shape p.pose) b) (p.id ∷ region b ps) (region b ps)
