-- What a region of a frame leaves where it is answered.
use Rattle.std.proofs.Common.{◌≡◌, ℕ, List, Some, ap, inl, length, map, refl, true, ◌∙◌}
use Rattle.fixed_geom.specs.declared.boxes.Box2.{Box2}
use Rattle.dillmonth.specs.Forms.{id_shown}
use Rattle.dillmonth.specs.Frames.{FindsFramed}
use Rattle.dillmonth.specs.Lists.{written}
use Rattle.dillmonth.specs.declared.forms.CShapeId.{CShapeId}
use Rattle.shape_rays.specs.Hits.{region}
use Rattle.contacts_base.specs.declared.key.ShapeId.{ShapeId}
use Rattle.world_core.specs.Frames.{View}
use Rattle.world_queries.specs.Framed.{framed_shapes}
use Rattle.world_queries.specs.Limits.{is_region}

pub finds_framed : (bounds : Box2) (f : View) (found items : List ShapeId) (before count : ℕ) (out new : List CShapeId) → is_region bounds ≡ true → found ≡ region bounds (framed_shapes f.bodies) → items ≡ found → count ≡ length items → new ≡ written (map id_shown items) out → FindsFramed bounds (Some f) 0 before count out new
finds_framed bounds f found items before count out new good is same counted put = let all = same ∙ is in inl (refl, good, counted ∙ ap length all, put ∙ ap (λ (l : List ShapeId). written (map id_shown l) out) all)
