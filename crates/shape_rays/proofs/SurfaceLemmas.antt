-- The point of a hit is near the centre of the shape's body.
use Rattle.std.proofs.Common.{◌≡◌, ℕ, ◌+◌, ◌*◌, ◌^◌, ◌<◌, ◌≤◌, false, ◌&&◌, ℤ, pos, ◌+ℤ◌, ◌-ℤ◌, ◌*ℤ◌, ◌≤ℤ◌, unsigned_abs, Some, arith, subst}
use Rattle.std.specs.Int.{int_min, int_max}
use Rattle.std.specs.Ordering.{int_eq}
use Rattle.std.proofs.lemmas.Int.{ints}
use Rattle.std.proofs.lemmas.Bool.Decides.{nat_tests}
use Rattle.fixed_geom.specs.Numbers.{rdiv}
use Rattle.fixed_geom.specs.Vectors.{IsWithin, unit_length, minus}
use Rattle.fixed_geom.proofs.QuotientLemmas.{rdiv-nearest}
use Rattle.shapes.specs.declared.beam.Beam.{Beam}
use Rattle.shapes.specs.declared.pose.Core.{Core}
use Rattle.shapes.specs.declared.pose.Pose.{Pose}
use Rattle.shapes.specs.declared.shape.Shape.{Shape}
use Rattle.shapes.specs.Bounds.{box_of_ends}
use Rattle.shapes.specs.Cores.{is_point}
use Rattle.shapes.specs.Poses.{IsPose, transformed}
use Rattle.shapes.specs.Rays.{IsBeam, ray_of}
use Rattle.shapes.specs.Shapes.{IsShape, first_end, second_end, radius_of}
use Rattle.shapes.proofs.DiscLemmas.{posed_in_disc, disc_across, disc_along}
use Rattle.shape_rays.specs.Surfaces.{point_at}
use Rattle.shape_rays.proofs.BoxLaws.{in_the_box}
use Rattle.shape_rays.proofs.PartLemmas.{max_is, min_is}
use Rattle.shape_rays.proofs.PlaceLemmas.{T}

-- a coordinate of both ends is near that of the centre, and so is what lies between them but for the radius and the
-- slack
low_near : (o p q r : ℤ) → unsigned_abs (p -ℤ o) ≤ 47 * 2 ^ 19 → unsigned_abs (q -ℤ o) ≤ 47 * 2 ^ 19 → unsigned_abs r ≤ 2 ^ 24 → (o -ℤ pos (2 ^ 26)) ≤ℤ (int_min p q -ℤ r -ℤ pos 64)
low_near o p q r h k l = let m = min_is p q in omega (arith, ints, h, k, l, m.one)

high_near : (o p q r : ℤ) → unsigned_abs (p -ℤ o) ≤ 47 * 2 ^ 19 → unsigned_abs (q -ℤ o) ≤ 47 * 2 ^ 19 → unsigned_abs r ≤ 2 ^ 24 → (int_max p q +ℤ r +ℤ pos 64) ≤ℤ (o +ℤ pos (2 ^ 26))
high_near o p q r h k l = let m = max_is p q in omega (arith, ints, h, k, l, m.one)

-- m is a part of the way, times 2^24, and q the same rounded
between : (o f low high m q : ℤ) → (low *ℤ T) ≤ℤ (f *ℤ T +ℤ m) → (f *ℤ T +ℤ m) ≤ℤ (high *ℤ T) → 2 * unsigned_abs (m *ℤ pos 64 -ℤ q *ℤ pos (2 ^ 30)) ≤ 2 ^ 30
    → (o -ℤ pos (2 ^ 26)) ≤ℤ low → high ≤ℤ (o +ℤ pos (2 ^ 26)) → unsigned_abs (f +ℤ q -ℤ o) ≤ 2 ^ 36
between o f low high m q h k n a b = omega (arith, ints, h, k, n, a, b)

taken_apart : (a : ℤ) (t : ℕ) → a *ℤ (pos t *ℤ pos 64) ≡ (a *ℤ pos t) *ℤ pos 64
taken_apart a t = omega (arith, ints)

rounded : (a : ℤ) (t : ℕ) → 2 * unsigned_abs ((a *ℤ pos t) *ℤ pos 64 -ℤ rdiv (a *ℤ (pos t *ℤ pos 64)) unit_length *ℤ pos (2 ^ 30)) ≤ 2 ^ 30
rounded a t = let h = rdiv-nearest (a *ℤ (pos t *ℤ pos 64)) unit_length (omega (arith, ints)) in subst (λ (z : ℤ). 2 * unsigned_abs (z -ℤ rdiv (a *ℤ (pos t *ℤ pos 64)) unit_length *ℤ pos (2 ^ 30)) ≤ 2 ^ 30) (taken_apart a t) h.near

-- the point of a hit is no further than 2^36 from the centre of the shape's body
pub hit_near : (s : Shape) (o : Pose) (r : Beam) (t : ℕ) → IsShape s → IsPose o → IsBeam r → ray_of s o r.from r.along ≡ Some t → IsWithin (2 ^ 36) (minus (point_at r t) o.x)
unfolding point_at box_of_ends
hit_near s o r t h k b e =
    let in_box = in_the_box s o r t h b e in
    let first = posed_in_disc o (first_end s) k h.first in
    let second = posed_in_disc o (second_end s) k h.second in
    let px = disc_across o.x (transformed o (first_end s)) first in
    let py = disc_along o.x (transformed o (first_end s)) first in
    let qx = disc_across o.x (transformed o (second_end s)) second in
    let qy = disc_along o.x (transformed o (second_end s)) second in
    let p = transformed o (first_end s) in
    let q = transformed o (second_end s) in
    let radius = radius_of s in
    record {
      x = between o.x.x r.from.x (int_min p.x q.x -ℤ radius -ℤ pos 64) (int_max p.x q.x +ℤ radius +ℤ pos 64) (r.along.x *ℤ pos t) (rdiv (r.along.x *ℤ (pos t *ℤ pos 64)) unit_length) in_box.left in_box.right (rounded r.along.x t)
          (low_near o.x.x p.x q.x radius px qx h.radius) (high_near o.x.x p.x q.x radius px qx h.radius);
      y = between o.x.y r.from.y (int_min p.y q.y -ℤ radius -ℤ pos 64) (int_max p.y q.y +ℤ radius +ℤ pos 64) (r.along.y *ℤ pos t) (rdiv (r.along.y *ℤ (pos t *ℤ pos 64)) unit_length) in_box.down in_box.up (rounded r.along.y t)
          (low_near o.x.y p.y q.y radius py qy h.radius) (high_near o.x.y p.y q.y radius py qy h.radius);
    }

-- ---- ends that differ

wide_of : (a b c d : ℤ) → (int_eq a c && int_eq b d) ≡ false → 0 < unsigned_abs (c -ℤ a) + unsigned_abs (d -ℤ b)
wide_of a b c d h = grind (arith, ints, nat_tests)

pub wide_way : (c : Core) → is_point c ≡ false → 0 < unsigned_abs (minus c.q c.p).x + unsigned_abs (minus c.q c.p).y
unfolding is_point
wide_way c h = wide_of c.p.x c.p.y c.q.x c.q.y h
