-- What a ray doesn't reach it doesn't hit.
use Rattle.std.proofs.Common.{◌≡◌, ℕ, ◌^◌, ◌≤◌, Bool, true, false, pos, Option, None, Some, IfSome, arith, refl, sym, ◌∙◌, subst}
use Rattle.std.proofs.lemmas.Int.{ints}
use Rattle.std.proofs.lemmas.Bool.{false≢true}
use Rattle.fixed_geom.specs.Boxes.{Contains, grow}
use Rattle.fixed_geom.specs.declared.boxes.Box2.{Box2}
use Rattle.shapes.specs.declared.beam.Beam.{Beam}
use Rattle.shapes.specs.declared.pose.Pose.{Pose}
use Rattle.shapes.specs.declared.shape.Shape.{Shape}
use Rattle.shapes.specs.Bounds.{tight_box}
use Rattle.shapes.specs.Poses.{core_of}
use Rattle.shapes.specs.Rays.{IsBeam, whole, ray_of}
use Rattle.shapes.specs.Shapes.{IsShape, radius_of}
use Rattle.shapes.proofs.RayLemmas.{is_ray_of}
use Rattle.shape_rays.specs.declared.boxes.TheConstants.{RAY_SLACK}
use Rattle.shape_rays.specs.Reach.{IsInAt, reaches}
use Rattle.shape_rays.proofs.HitPlaces.{hit_is_in}
use Rattle.shape_rays.proofs.MeetingLemmas.{IsPartOf, met_is_reached}
use Rattle.shape_rays.proofs.WayLemmas.{reached_wider}

pub in_the_box : (s : Shape) (o : Pose) (r : Beam) (t : ℕ) → IsShape s → IsBeam r → ray_of s o r.from r.along ≡ Some t → IsInAt r (pos t) whole (grow (tight_box s o) RAY_SLACK)
in_the_box s o r t h b e = hit_is_in r (radius_of s) (core_of s o) t b h.nonnegative e

small_of : (h : Option ℕ) (t : ℕ) → IfSome h (λ n. n ≤ 2 ^ 24) → h ≡ Some t → t ≤ 2 ^ 24
small_of h t k e = subst (λ (o : Option ℕ). IfSome o (λ n. n ≤ 2 ^ 24)) e k

part_of_whole : (t : ℕ) → t ≤ 2 ^ 24 → IsPartOf (pos t) whole
part_of_whole t h = record { some = omega (arith, ints); low = omega (arith, ints); high = omega (arith, ints, h) }

hit_reached : (s : Shape) (o : Pose) (r : Beam) (b : Box2) (t : ℕ) → IsShape s → IsBeam r → Contains b (tight_box s o) → ray_of s o r.from r.along ≡ Some t → reaches r b ≡ true
hit_reached s o r b t h k c e =
    let is = is_ray_of r (core_of s o) (radius_of s) (ray_of s o r.from r.along) refl in
    let few = small_of (ray_of s o r.from r.along) t is.within e in
    reached_wider r b (tight_box s o) c (met_is_reached r (pos t) whole (tight_box s o) (part_of_whole t few) (in_the_box s o r t h k e))

none_of : (h : Option ℕ) (u : Bool) → ((t : ℕ) → h ≡ Some t → u ≡ true) → u ≡ false → h ≡ None
none_of None u f e = refl
none_of (Some t) u f e = absurd (false≢true (sym e ∙ f t refl))

pub missed : (s : Shape) (o : Pose) (r : Beam) (b : Box2) → IsShape s → IsBeam r → Contains b (tight_box s o) → reaches r b ≡ false → ray_of s o r.from r.along ≡ None
missed s o r b h k c e = none_of (ray_of s o r.from r.along) (reaches r b) (λ t f. hit_reached s o r b t h k c f) e
