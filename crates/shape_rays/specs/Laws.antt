-- Laws of rays among shapes.
use Rattle.std.specs.Prelude.{◌≡◌, ℕ, false, true, ℤ, pos, ◌≤ℤ◌, ◌<ℤ◌, List, ◌++◌, Option, None, Some}
use Rattle.fixed_geom.specs.Boxes.{Contains as Holds, grow}
use Rattle.fixed_geom.specs.declared.boxes.Box2.{Box2}
use Rattle.shapes.specs.declared.beam.Beam.{Beam}
use Rattle.shapes.specs.declared.pose.Pose.{Pose}
use Rattle.shapes.specs.declared.shape.Shape.{Shape}
use Rattle.shapes.specs.Bounds.{tight_box}
use Rattle.shapes.specs.Rays.{IsBeam, whole, ray_of}
use Rattle.shapes.specs.Shapes.{IsShape}
use Rattle.shape_rays.specs.declared.boxes.TheConstants.{RAY_SLACK}
use Rattle.shape_rays.specs.declared.hits.Hit.{Hit}
use Rattle.shape_rays.specs.declared.hits.PosedShape.{PosedShape}
use Rattle.shape_rays.specs.Hits.{nearer, first_hit}
use Rattle.shape_rays.specs.Reach.{IsInAt, reaches}

-- the first of hits doesn't depend on their order or on how they are taken together
pub record AreInAnyOrder : Type 0 where
  pub commute : (a b : Option Hit) → nearer a b ≡ nearer b a
  pub associate : (a b c : Option Hit) → nearer (nearer a b) c ≡ nearer a (nearer b c)
  pub none : (a : Option Hit) → nearer a None ≡ a
  pub same : (a : Option Hit) → nearer a a ≡ a

-- the first hit on two lists is the nearer of the first hits on each
abbrev pub PartsGiveTheFirst : Type 0
PartsGiveTheFirst = (r : Beam) (ps qs : List PosedShape) → first_hit r (ps ++ qs) ≡ nearer (first_hit r ps) (first_hit r qs)

-- a box within one that the ray doesn't reach isn't reached
abbrev pub MissesWithin : Type 0
MissesWithin = (r : Beam) (outer inner : Box2) → Holds outer inner → reaches r outer ≡ false → reaches r inner ≡ false

-- a box is reached if a point of the way lies in it, or no further from it than the slack on each side: only boxes that
-- the way misses are passed over
abbrev pub MetIsReached : Type 0
MetIsReached = (r : Beam) (n d : ℤ) (b : Box2) → pos 0 <ℤ d → pos 0 ≤ℤ n → n ≤ℤ d → IsInAt r n d (grow b RAY_SLACK) → reaches r b ≡ true

-- where a ray hits a shape, the point of its way lies in the shape's tight box, but for the slack on each side
abbrev pub HitLiesInBox : Type 0
HitLiesInBox = (s : Shape) (o : Pose) (r : Beam) (t : ℕ) → IsShape s → IsBeam r → ray_of s o r.from r.along ≡ Some t → IsInAt r (pos t) whole (grow (tight_box s o) RAY_SLACK)

-- a shape whose tight box lies in a box that the ray doesn't reach isn't hit
abbrev pub UnreachedIsMissed : Type 0
UnreachedIsMissed = (s : Shape) (o : Pose) (r : Beam) (b : Box2) → IsShape s → IsBeam r → Holds b (tight_box s o) → reaches r b ≡ false → ray_of s o r.from r.along ≡ None
