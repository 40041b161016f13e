-- What a box has in common with the box round a ray's way is near the ray's start.
use Rattle.std.proofs.Common.{◌≡◌, ◌^◌, ◌≤◌, ℤ, pos, ◌+ℤ◌, ◌-ℤ◌, ◌≤ℤ◌, unsigned_abs, ◌⊎◌, arith, sym, subst}
use Rattle.std.specs.Int.{int_min, int_max}
use Rattle.std.proofs.lemmas.Int.{ints}
use Rattle.std.proofs.lemmas.Bool.Decides.{nat_tests}
use Rattle.fixed_geom.specs.Boxes.{Overlaps}
use Rattle.fixed_geom.specs.Vectors.{IsWithin, minus}
use Rattle.fixed_geom.specs.declared.boxes.Box2.{Box2}
use Rattle.fixed_geom.specs.declared.vectors.Vec2.{Vec2}
use Rattle.shapes.specs.Rays.{IsBeam, beam_of}
use Rattle.shapes.specs.declared.beam.Beam.{Beam}
use Rattle.shape_rays.specs.Reach.{lowest, highest, box_round, common}

-- ---- the greater and the lesser of two

pub record IsMax (x y m : ℤ) : Type 0 where
  pub first : x ≤ℤ m
  pub second : y ≤ℤ m
  pub one : (m ≡ x) ⊎ (m ≡ y)

pub max_is : (x y : ℤ) → IsMax x y (int_max x y)
max_is x y = record { first = grind (arith, ints, nat_tests); second = grind (arith, ints, nat_tests); one = grind (arith, ints, nat_tests) }

pub record IsMin (x y m : ℤ) : Type 0 where
  pub first : m ≤ℤ x
  pub second : m ≤ℤ y
  pub one : (m ≡ x) ⊎ (m ≡ y)

pub min_is : (x y : ℤ) → IsMin x y (int_min x y)
min_is x y = record { first = grind (arith, ints, nat_tests); second = grind (arith, ints, nat_tests); one = grind (arith, ints, nat_tests) }

-- ---- on one axis

low_by : (lo o l h m : ℤ) → l ≤ℤ pos 0 → pos 0 ≤ℤ h → unsigned_abs l ≤ 2 ^ 28 → unsigned_abs h ≤ 2 ^ 28 → lo ≤ℤ (o +ℤ h +ℤ pos 64) → IsMax lo (o +ℤ l -ℤ pos 64) m → unsigned_abs (m -ℤ o) ≤ 2 ^ 29
low_by lo o l h m a b c d e k = omega (arith, ints, k.first, k.second, k.one)

high_by : (hi o l h m : ℤ) → l ≤ℤ pos 0 → pos 0 ≤ℤ h → unsigned_abs l ≤ 2 ^ 28 → unsigned_abs h ≤ 2 ^ 28 → (o +ℤ l -ℤ pos 64) ≤ℤ hi → IsMin hi (o +ℤ h +ℤ pos 64) m → unsigned_abs (m -ℤ o) ≤ 2 ^ 29
high_by hi o l h m a b c d e k = omega (arith, ints, k.first, k.second, k.one)

min_small : (f : ℤ) → unsigned_abs f ≤ 2 ^ 28 → unsigned_abs (int_min f (pos 0)) ≤ 2 ^ 28
min_small f h = let m = min_is f (pos 0) in omega (arith, ints, h, m.first, m.second, m.one)

max_small : (f : ℤ) → unsigned_abs f ≤ 2 ^ 28 → unsigned_abs (int_max f (pos 0)) ≤ 2 ^ 28
max_small f h = let m = max_is f (pos 0) in omega (arith, ints, h, m.first, m.second, m.one)

near_low : (lo o f : ℤ) → unsigned_abs f ≤ 2 ^ 28 → lo ≤ℤ highest o f → unsigned_abs (int_max lo (lowest o f) -ℤ o) ≤ 2 ^ 29
near_low lo o f h e = low_by lo o (int_min f (pos 0)) (int_max f (pos 0)) (int_max lo (lowest o f)) (min_is f (pos 0)).second (max_is f (pos 0)).second (min_small f h) (max_small f h) e (max_is lo (lowest o f))

near_high : (hi o f : ℤ) → unsigned_abs f ≤ 2 ^ 28 → lowest o f ≤ℤ hi → unsigned_abs (int_min hi (highest o f) -ℤ o) ≤ 2 ^ 29
near_high hi o f h e = high_by hi o (int_min f (pos 0)) (int_max f (pos 0)) (int_min hi (highest o f)) (min_is f (pos 0)).second (max_is f (pos 0)).second (min_small f h) (max_small f h) e (min_is hi (highest o f))

-- ---- both corners

-- a corner is near a place within the world
pub record IsNearCorner (o v : Vec2) : Type 0 where
  pub within : IsWithin (2 ^ 61) v
  pub near : IsWithin (2 ^ 29) (minus v o)

transformed_near : (x o : ℤ) → unsigned_abs o ≤ 2 ^ 36 → unsigned_abs (x -ℤ o) ≤ 2 ^ 29 → unsigned_abs x ≤ 2 ^ 61
transformed_near x o h k = omega (arith, ints, h, k)

corner_near : (o v : Vec2) → IsWithin (2 ^ 36) o → IsWithin (2 ^ 29) (minus v o) → IsNearCorner o v
corner_near o v h k = record { within = record { x = transformed_near v.x o.x h.x k.x; y = transformed_near v.y o.y h.y k.y }; near = k }

pub low_corner : (r : Beam) (b : Box2) → IsBeam r → Overlaps b (box_round r) → IsNearCorner r.from (common b (box_round r)).lo
low_corner r b h o = corner_near r.from (common b (box_round r)).lo h.from (record { x = near_low b.lo.x r.from.x r.along.x h.along.x o.left; y = near_low b.lo.y r.from.y r.along.y h.along.y o.down })

pub high_corner : (r : Beam) (b : Box2) → IsBeam r → Overlaps b (box_round r) → IsNearCorner r.from (common b (box_round r)).hi
high_corner r b h o = corner_near r.from (common b (box_round r)).hi h.from (record { x = near_high b.hi.x r.from.x r.along.x h.along.x o.right; y = near_high b.hi.y r.from.y r.along.y h.along.y o.up })

pub record AreNearCorners (o : Vec2) (b : Box2) : Type 0 where
  pub low : IsNearCorner o b.lo
  pub high : IsNearCorner o b.hi

pub corners_near : (from along : Vec2) (b around part : Box2) → IsWithin (2 ^ 36) from → IsWithin (2 ^ 28) along → around ≡ box_round (beam_of from along) → Overlaps b around → part ≡ common b around → AreNearCorners from part
corners_near from along b around part f g e o p =
    let r = beam_of from along in
    let beam : IsBeam r = record { from = f; along = g } in
    let over : Overlaps b (box_round r) = subst (λ (x : Box2). Overlaps b x) e o in
    let near : AreNearCorners from (common b (box_round r)) = record { low = low_corner r b beam over; high = high_corner r b beam over } in
    let there : AreNearCorners from (common b around) = subst (λ (x : Box2). AreNearCorners from (common b x)) (sym e) near in
    subst (λ (x : Box2). AreNearCorners from x) (sym p) there
