-- Where two shapes touch, the contact point is near both bodies' centres, however far these are.
use Rattle.std.proofs.Common.{◌≡◌, ℕ, ◌+◌, ◌*◌, ◌^◌, ◌≤◌, Bool, true, false, cond, ℤ, pos, negsuc, neg_ℤ, ◌+ℤ◌, ◌-ℤ◌, ◌*ℤ◌, ◌≤ℤ◌, unsigned_abs, List, [], ◌∷◌, Option, None, Some, All, map, IfSome, option_map, inl, inr, arith, refl, sym, ◌∙◌}
use Rattle.std.proofs.lemmas.Int.{ints}
use Rattle.std.proofs.lemmas.Bool.{cases_Bool}
use Rattle.std.proofs.lemmas.List.Elements.{All-nil, All-cons}
use borrow.Author.Differences.{up, down}
use Rattle.fixed_geom.specs.Numbers.{rdiv, fdiv, IsFloor, root}
use Rattle.fixed_geom.specs.Vectors.{IsWithin, unit_length, minus, span}
use Rattle.fixed_geom.specs.declared.vectors.Vec2.{Vec2}
use Rattle.fixed_geom.proofs.QuotientLemmas.{fdiv-floor}
use Rattle.fixed_geom.proofs.RootLemmas.{root_below, root_is, square_of_sum}
use Rattle.fixed_geom.proofs.TurnLemmas.{square_le}
use Rattle.fixed_geom.proofs.VectorLemmas.{span_is, span_spans}
use Rattle.shapes.specs.declared.pose.Pose.{Pose}
use Rattle.shapes.specs.declared.pose.Core.{Core}
use Rattle.shapes.specs.declared.shape.Shape.{Shape}
use Rattle.shapes.specs.declared.spots.Pair.{Pair}
use Rattle.shapes.specs.declared.spots.Candidate.{Candidate}
use Rattle.shapes.specs.declared.spots.Spot.{Spot}
use Rattle.shapes.specs.declared.points.Point.{Point}
use Rattle.shapes.specs.declared.points.Manifold.{Manifold}
use Rattle.shapes.specs.Shapes.{IsShape, first_end, second_end}
use Rattle.shapes.specs.Poses.{IsPose}
use Rattle.shapes.specs.Cores.{is_point, share_of, closest, cores_cross}
use Rattle.shapes.specs.Spots.{of_a, of_b, others, normal_of, separation_of, position_of, spot_of}
use Rattle.shapes.specs.Manifolds.{least_of, is_second, nearest_spot, chosen_spots, spots, first_spot, allowed_spots, point_of, posed_pair, manifold_of}
use Rattle.shapes.specs.PointsWithin.{IsPointWithin, IsSecond}
use Rattle.shapes.proofs.CrossLemmas.{IsMet, AreMet, are_met}
use Rattle.shapes.proofs.DiscLemmas.{disc, IsInDisc, disc_across, disc_along, posed_in_disc}
use Rattle.shapes.proofs.NearLemmas.{IsPart, part_is, share_is, normal_within, scaled_le}
use Rattle.shapes.proofs.SecondLemmas.{manifold_has_second}
use Rattle.shapes.proofs.SpotLists.{least_all, nearest_all, filter_all}

-- ---- places on a core

-- v lies between the ends of c in each coordinate
record IsOn (c : Core) (v : Vec2) : Type 0 where
  across : IsPart (c.q.x -ℤ c.p.x) (v.x -ℤ c.p.x)
  along : IsPart (c.q.y -ℤ c.p.y) (v.y -ℤ c.p.y)

none_of : (p d : ℤ) → IsPart d (p -ℤ p)
none_of p d = record { small = omega (arith, ints); up = λ h. omega (arith, ints); down = λ h. omega (arith, ints) }

first_on : (c : Core) → IsOn c c.p
first_on c = record { across = none_of c.p.x (c.q.x -ℤ c.p.x); along = none_of c.p.y (c.q.y -ℤ c.p.y) }

whole_of : (d : ℤ) → IsPart d d
whole_of d = record { small = omega arith; up = λ h. h; down = λ h. h }

second_on : (c : Core) → IsOn c c.q
second_on c = record { across = whole_of (c.q.x -ℤ c.p.x); along = whole_of (c.q.y -ℤ c.p.y) }

gone : (x r : ℤ) → x +ℤ r -ℤ x ≡ r
gone x r = omega (arith, ints)

part_from : (d p r : ℤ) → IsPart d r → IsPart d (p +ℤ r -ℤ p)
part_from d p r h = rw (gone p r) h

closest_on : (c : Core) (e : Vec2) → IsOn c (closest c e)
unfolding closest
closest_on c e =
    let t = share_of c e in
    let share = share_is c e in
    record {
      across = part_from (c.q.x -ℤ c.p.x) c.p.x (rdiv ((c.q.x -ℤ c.p.x) *ℤ t) unit_length) (part_is (c.q.x -ℤ c.p.x) t share);
      along = part_from (c.q.y -ℤ c.p.y) c.p.y (rdiv ((c.q.y -ℤ c.p.y) *ℤ t) unit_length) (part_is (c.q.y -ℤ c.p.y) t share);
    }

-- a part's two sides
record IsInside (d r : ℤ) : Type 0 where
  right : up r ≤ up d
  left : down r ≤ down d

inside : (d r : ℤ) → IsPart d r → IsInside d r
inside (pos n) (pos m) h = record { right = omega (arith, ints, h.small); left = omega arith }
inside (pos n) (negsuc m) h = let above : pos 0 ≤ℤ negsuc m = h.up (omega (arith, ints)) in absurd (omega (arith, ints, above))
inside (negsuc n) (pos m) h = let below : pos m ≤ℤ pos 0 = h.down (omega (arith, ints)) in record { right = omega (arith, ints, below); left = omega arith }
inside (negsuc n) (negsuc m) h = record { right = omega arith; left = omega (arith, ints, h.small) }

size_is : (z : ℤ) → up z + down z ≡ unsigned_abs z
size_is (pos n) = omega arith
size_is (negsuc n) = omega arith

-- ---- cores that cross

-- from a place of the first core to one of the second, on one axis
met_gap : (p q r t a b : ℤ) → IsMet (q -ℤ p) (t -ℤ r) (r -ℤ p) → IsPart (q -ℤ p) (a -ℤ p) → IsPart (t -ℤ r) (b -ℤ r) → unsigned_abs (b -ℤ a) ≤ unsigned_abs (q -ℤ p) + unsigned_abs (t -ℤ r)
met_gap p q r t a b h i j =
    let first = inside (q -ℤ p) (a -ℤ p) i in
    let second = inside (t -ℤ r) (b -ℤ r) j in
    gap_of (q -ℤ p) (t -ℤ r) (r -ℤ p) (a -ℤ p) (b -ℤ r) (b -ℤ a) (omega (arith, ints)) h first second
  where
    gap_of : (u w e i j g : ℤ) → g +ℤ i ≡ e +ℤ j → IsMet u w e → IsInside u i → IsInside w j → unsigned_abs g ≤ unsigned_abs u + unsigned_abs w
    gap_of u w e i j g s h k l = let first = size_is u in let second = size_is w in omega (arith, ints, h.right, h.left, k.right, k.left, l.right, l.left, first, second)

-- from the second body's centre to a place of the first core, on one axis
met_far : (p q r t a y : ℤ) (n : ℕ) → IsMet (q -ℤ p) (t -ℤ r) (r -ℤ p) → IsPart (q -ℤ p) (a -ℤ p) → unsigned_abs (r -ℤ y) ≤ n → unsigned_abs (t -ℤ y) ≤ n → unsigned_abs (a -ℤ y) ≤ unsigned_abs (q -ℤ p) + n
met_far p q r t a y n h i k l = far_of (q -ℤ p) (t -ℤ r) (r -ℤ p) (a -ℤ p) (r -ℤ y) (t -ℤ y) (a -ℤ y) n (omega (arith, ints)) (omega (arith, ints)) h (inside (q -ℤ p) (a -ℤ p) i) k l
  where
    far_of : (u w e i b c g : ℤ) (n : ℕ) → g +ℤ e ≡ i +ℤ b → c ≡ b +ℤ w → IsMet u w e → IsInside u i → unsigned_abs b ≤ n → unsigned_abs c ≤ n → unsigned_abs g ≤ unsigned_abs u + n
    far_of u (pos m) e i b c g n s v h j k l = let first = size_is u in omega (arith, ints, h.right, h.left, j.right, j.left, first)
    far_of u (negsuc m) e i b c g n s v h j k l = let first = size_is u in omega (arith, ints, h.right, h.left, j.right, j.left, first)

square_of_two : (a b : ℕ) → (a + b) * (a + b) ≤ 2 * (a * a) + 2 * (b * b)
square_of_two a b = let four = square_of_sum a b in omega (arith, four)

square_of_four : (a b c d g : ℕ) → g ≤ (a + b) + (c + d) → g * g ≤ 4 * (a * a + b * b + (c * c + d * d))
square_of_four a b c d g h =
    let squares : g * g ≤ ((a + b) + (c + d)) * ((a + b) + (c + d)) = square_le _ _ h in
    let both = square_of_two (a + b) (c + d) in
    let first = square_of_two a b in
    let second = square_of_two c d in
    omega (arith, squares, both, first, second)

-- ---- how far apart, how deep and how far off

-- the two centres, and the ends of the cores round them
record IsAround (s : Pair) (x y : Vec2) : Type 0 where
  a_first : IsInDisc x s.a.p
  a_second : IsInDisc x s.a.q
  b_first : IsInDisc y s.b.p
  b_second : IsInDisc y s.b.q
  radius_a : pos 0 ≤ℤ s.radius_a
  radius_b : pos 0 ≤ℤ s.radius_b
  radius_a_small : unsigned_abs s.radius_a ≤ 2 ^ 24
  radius_b_small : unsigned_abs s.radius_b ≤ 2 ^ 24
  crossing : s.crossing ≡ cores_cross s.a s.b

record IsCoreCandidate (s : Pair) (c : Candidate) : Type 0 where
  number : c.number ≤ 3
  a : IsOn s.a c.a
  b : IsOn s.b c.b
  dist : c.dist ≡ span (minus c.b c.a)

root_le : (m n k : ℕ) → m * m + n * n ≤ k * k → root (m * m + n * n) ≤ k
root_le m n k h = root_below (m * m + n * n) (root (m * m + n * n)) k (root_is (m * m + n * n)).below (omega (arith, h))

ends_le : (p q x : ℤ) (n : ℕ) → unsigned_abs (p -ℤ x) ≡ n → unsigned_abs (q -ℤ p) ≤ n + unsigned_abs (q -ℤ x)
ends_le p q x n h = omega (arith, ints)

-- two places of cores that have a place in common are at most four times the disc's radius apart
met_dist : (s : Pair) (x y : Vec2) (c : Candidate) → IsAround s x y → IsCoreCandidate s c → AreMet s.a s.b → unsigned_abs c.dist ≤ 4 * disc
met_dist s x y c h k m =
    let a1 = unsigned_abs (s.a.p.x -ℤ x.x) in
    let a2 = unsigned_abs (s.a.q.x -ℤ x.x) in
    let b1 = unsigned_abs (s.b.p.x -ℤ y.x) in
    let b2 = unsigned_abs (s.b.q.x -ℤ y.x) in
    let a3 = unsigned_abs (s.a.p.y -ℤ x.y) in
    let a4 = unsigned_abs (s.a.q.y -ℤ x.y) in
    let b3 = unsigned_abs (s.b.p.y -ℤ y.y) in
    let b4 = unsigned_abs (s.b.q.y -ℤ y.y) in
    let across = met_gap s.a.p.x s.a.q.x s.b.p.x s.b.q.x c.a.x c.b.x m.across k.a.across k.b.across in
    let along = met_gap s.a.p.y s.a.q.y s.b.p.y s.b.q.y c.a.y c.b.y m.along k.a.along k.b.along in
    let first = ends_le s.a.p.x s.a.q.x x.x a1 refl in
    let second = ends_le s.b.p.x s.b.q.x y.x b1 refl in
    let third = ends_le s.a.p.y s.a.q.y x.y a3 refl in
    let fourth = ends_le s.b.p.y s.b.q.y y.y b3 refl in
    let wide = square_of_four a1 a2 b1 b2 (unsigned_abs (c.b.x -ℤ c.a.x)) (omega (arith, across, first, second)) in
    let high = square_of_four a3 a4 b3 b4 (unsigned_abs (c.b.y -ℤ c.a.y)) (omega (arith, along, third, fourth)) in
    let root = root_le (unsigned_abs (c.b.x -ℤ c.a.x)) (unsigned_abs (c.b.y -ℤ c.a.y)) (4 * disc) (omega (arith, wide, high, h.a_first.squares, h.a_second.squares, h.b_first.squares, h.b_second.squares)) in
    rw (k.dist, span_is (minus c.b c.a)) root

-- what is needed of a candidate: its distance, and how far its first place is from the centres
record IsReached (s : Pair) (x y : Vec2) (c : Candidate) : Type 0 where
  deep : unsigned_abs (separation_of s c) ≤ 2 ^ 27
  reach : 2 * unsigned_abs (s.radius_a +ℤ fdiv (separation_of s c) (pos 2)) ≤ 4 * disc + 2 ^ 24 + 1
  across : unsigned_abs (c.a.x -ℤ y.x) ≤ 3 * disc
  along : unsigned_abs (c.a.y -ℤ y.y) ≤ 3 * disc

deep_crossed : (d r q : ℤ) → pos 0 ≤ℤ d → unsigned_abs d ≤ 4 * disc → unsigned_abs r ≤ 2 ^ 24 → unsigned_abs q ≤ 2 ^ 24 → unsigned_abs (neg_ℤ d -ℤ r -ℤ q) ≤ 2 ^ 27
deep_crossed d r q h l m n = omega (arith, ints)

reach_crossed : (d r q f : ℤ) → pos 0 ≤ℤ d → unsigned_abs d ≤ 4 * disc → pos 0 ≤ℤ r → pos 0 ≤ℤ q → unsigned_abs r ≤ 2 ^ 24 → unsigned_abs q ≤ 2 ^ 24 → IsFloor (neg_ℤ d -ℤ r -ℤ q) (pos 2) f → 2 * unsigned_abs (r +ℤ f) ≤ 4 * disc + 2 ^ 24 + 1
reach_crossed d r q f h l m n i j k = omega (arith, ints, k.below, k.above)

deep_apart : (d r q : ℤ) → pos 0 ≤ℤ d → (d -ℤ r -ℤ q) ≤ℤ pos 0 → unsigned_abs r ≤ 2 ^ 24 → unsigned_abs q ≤ 2 ^ 24 → unsigned_abs (d -ℤ r -ℤ q) ≤ 2 ^ 27
deep_apart d r q h l m n = omega (arith, ints)

dist_apart : (d r q : ℤ) → pos 0 ≤ℤ d → (d -ℤ r -ℤ q) ≤ℤ pos 0 → unsigned_abs r ≤ 2 ^ 24 → unsigned_abs q ≤ 2 ^ 24 → unsigned_abs d ≤ 2 ^ 25
dist_apart d r q h l m n = omega (arith, ints)

reach_apart : (d r q f : ℤ) → pos 0 ≤ℤ d → (d -ℤ r -ℤ q) ≤ℤ pos 0 → pos 0 ≤ℤ r → pos 0 ≤ℤ q → unsigned_abs r ≤ 2 ^ 24 → unsigned_abs q ≤ 2 ^ 24 → IsFloor (d -ℤ r -ℤ q) (pos 2) f → 2 * unsigned_abs (r +ℤ f) ≤ 4 * disc + 2 ^ 24 + 1
reach_apart d r q f h l m n i j k = omega (arith, ints, k.below, k.above)

floor_of : (z : ℤ) → IsFloor z (pos 2) (fdiv z (pos 2))
floor_of z = fdiv-floor z (pos 2) (omega (arith, ints))

between_le : (p q y a : ℤ) (k : ℕ) → IsPart (q -ℤ p) (a -ℤ p) → unsigned_abs (p -ℤ y) ≤ k → unsigned_abs (q -ℤ y) ≤ k → unsigned_abs (a -ℤ y) ≤ k
between_le p q y a k h l m = between_of (q -ℤ p) (a -ℤ p) (p -ℤ y) (q -ℤ y) (a -ℤ y) k (omega (arith, ints)) (omega (arith, ints)) (inside (q -ℤ p) (a -ℤ p) h) l m
  where
    between_of : (u i b c g : ℤ) (k : ℕ) → g ≡ i +ℤ b → c ≡ b +ℤ u → IsInside u i → unsigned_abs b ≤ k → unsigned_abs c ≤ k → unsigned_abs g ≤ k
    between_of (pos n) i b c g k s v h l m = omega (arith, ints, h.right, h.left)
    between_of (negsuc n) i b c g k s v h l m = omega (arith, ints, h.right, h.left)

back_le : (a b y : ℤ) (m n : ℕ) → unsigned_abs (b -ℤ a) ≤ m → unsigned_abs (b -ℤ y) ≤ n → unsigned_abs (a -ℤ y) ≤ m + n
back_le a b y m n h l = omega (arith, ints)

nonnegative_dist : (s : Pair) (c : Candidate) → IsCoreCandidate s c → pos 0 ≤ℤ c.dist
nonnegative_dist s c k = rw k.dist (span_spans (minus c.b c.a)).nonnegative

reached_crossing : (s : Pair) (x y : Vec2) (c : Candidate) → IsAround s x y → IsCoreCandidate s c → s.crossing ≡ true → IsReached s x y c
unfolding separation_of
reached_crossing s x y c h k e =
    let m = are_met s.a s.b (sym h.crossing ∙ e) in
    let dist = met_dist s x y c h k m in
    let zero_up = nonnegative_dist s c k in
    let f = fdiv (neg_ℤ c.dist -ℤ s.radius_a -ℤ s.radius_b) (pos 2) in
    let wide = ends_le s.a.p.x s.a.q.x x.x (unsigned_abs (s.a.p.x -ℤ x.x)) refl in
    let high = ends_le s.a.p.y s.a.q.y x.y (unsigned_abs (s.a.p.y -ℤ x.y)) refl in
    let across = met_far s.a.p.x s.a.q.x s.b.p.x s.b.q.x c.a.x y.x disc m.across k.a.across (disc_across y s.b.p h.b_first) (disc_across y s.b.q h.b_second) in
    let along = met_far s.a.p.y s.a.q.y s.b.p.y s.b.q.y c.a.y y.y disc m.along k.a.along (disc_along y s.b.p h.b_first) (disc_along y s.b.q h.b_second) in
    record {
      deep = rw e (deep_crossed c.dist s.radius_a s.radius_b zero_up dist h.radius_a_small h.radius_b_small);
      reach = rw e (reach_crossed c.dist s.radius_a s.radius_b f zero_up dist h.radius_a h.radius_b h.radius_a_small h.radius_b_small (floor_of (neg_ℤ c.dist -ℤ s.radius_a -ℤ s.radius_b)));
      across = omega (arith, across, wide, disc_across x s.a.p h.a_first, disc_across x s.a.q h.a_second);
      along = omega (arith, along, high, disc_along x s.a.p h.a_first, disc_along x s.a.q h.a_second);
    }

reached_apart : (s : Pair) (x y : Vec2) (c : Candidate) → IsAround s x y → IsCoreCandidate s c → s.crossing ≡ false → separation_of s c ≤ℤ pos 0 → IsReached s x y c
unfolding separation_of
reached_apart s x y c h k e t =
    let low : (c.dist -ℤ s.radius_a -ℤ s.radius_b) ≤ℤ pos 0 = rw e at t in
    let zero_up = nonnegative_dist s c k in
    let near = dist_apart c.dist s.radius_a s.radius_b zero_up low h.radius_a_small h.radius_b_small in
    let covers : IsWithin (unsigned_abs c.dist) (minus c.b c.a) = rw k.dist (span_spans (minus c.b c.a)).covers in
    let f = fdiv (c.dist -ℤ s.radius_a -ℤ s.radius_b) (pos 2) in
    let wide = between_le s.b.p.x s.b.q.x y.x c.b.x disc k.b.across (disc_across y s.b.p h.b_first) (disc_across y s.b.q h.b_second) in
    let high = between_le s.b.p.y s.b.q.y y.y c.b.y disc k.b.along (disc_along y s.b.p h.b_first) (disc_along y s.b.q h.b_second) in
    let across = back_le c.a.x c.b.x y.x (unsigned_abs c.dist) disc covers.x wide in
    let along = back_le c.a.y c.b.y y.y (unsigned_abs c.dist) disc covers.y high in
    record {
      deep = rw e (deep_apart c.dist s.radius_a s.radius_b zero_up low h.radius_a_small h.radius_b_small);
      reach = rw e (reach_apart c.dist s.radius_a s.radius_b f zero_up low h.radius_a h.radius_b h.radius_a_small h.radius_b_small (floor_of (c.dist -ℤ s.radius_a -ℤ s.radius_b)));
      across = omega (arith, across, near);
      along = omega (arith, along, near);
    }

reached : (s : Pair) (x y : Vec2) (c : Candidate) → IsAround s x y → IsCoreCandidate s c → separation_of s c ≤ℤ pos 0 → IsReached s x y c
reached s x y c h k t = elim (cases_Bool s.crossing) [
  | inl e ↦ reached_crossing s x y c h k e
  | inr e ↦ reached_apart s x y c h k e t
]

-- ---- spots

moved_le : (a r x : ℤ) (m n : ℕ) → unsigned_abs (a -ℤ x) ≤ m → unsigned_abs r ≤ n → unsigned_abs (a +ℤ r -ℤ x) ≤ m + n
moved_le a r x m n h l = omega (arith, ints)

abbrev IsTouchingSpot : Vec2 → Vec2 → Spot → Type 0
IsTouchingSpot x y t = t.separation ≤ℤ pos 0 → IsPointWithin (2 ^ 27) (point_of x y t)

spot_touching : (s : Pair) (x y : Vec2) (c : Candidate) → IsAround s x y → IsCoreCandidate s c → IsTouchingSpot x y (spot_of s c)
unfolding spot_of position_of
spot_touching s x y c h k = λ t.
    let r = reached s x y c h k t in
    let n = normal_of s c in
    let normal = normal_within s c k.dist in
    let m = s.radius_a +ℤ fdiv (separation_of s c) (pos 2) in
    let dx = scaled_le n.x m (unsigned_abs m) normal.x (omega arith) in
    let dy = scaled_le n.y m (unsigned_abs m) normal.y (omega arith) in
    let px = between_le s.a.p.x s.a.q.x x.x c.a.x disc k.a.across (disc_across x s.a.p h.a_first) (disc_across x s.a.q h.a_second) in
    let py = between_le s.a.p.y s.a.q.y x.y c.a.y disc k.a.along (disc_along x s.a.p h.a_first) (disc_along x s.a.q h.a_second) in
    let ax = moved_le c.a.x (rdiv (n.x *ℤ m) unit_length) x.x disc (unsigned_abs m) px dx in
    let ay = moved_le c.a.y (rdiv (n.y *ℤ m) unit_length) x.y disc (unsigned_abs m) py dy in
    let bx = moved_le c.a.x (rdiv (n.x *ℤ m) unit_length) y.x (3 * disc) (unsigned_abs m) r.across dx in
    let by = moved_le c.a.y (rdiv (n.y *ℤ m) unit_length) y.y (3 * disc) (unsigned_abs m) r.along dy in
    record {
      candidate = k.number;
      normal = normal;
      separation = r.deep;
      ra = record { x = omega (arith, ax, r.reach); y = omega (arith, ay, r.reach) };
      rb = record { x = omega (arith, bx, r.reach); y = omega (arith, by, r.reach) };
    }

a_touching : (s : Pair) (n : ℕ) (x y e : Vec2) → n ≤ 3 → IsAround s x y → IsOn s.a e → IsTouchingSpot x y (spot_of s (of_a s n e))
a_touching s n x y e i h l = spot_touching s x y (of_a s n e) h (record { number = i; a = l; b = closest_on s.b e; dist = refl })

b_touching : (s : Pair) (n : ℕ) (x y e : Vec2) → n ≤ 3 → IsAround s x y → IsOn s.b e → IsTouchingSpot x y (spot_of s (of_b s n e))
b_touching s n x y e i h l = spot_touching s x y (of_b s n e) h (record { number = i; a = closest_on s.a e; b = l; dist = refl })

-- ---- lists

mapped : (P : Spot → Type 0) (s : Pair) (a b : Bool) (one two three : Candidate) → P (spot_of s one) → P (spot_of s two) → P (spot_of s three) →
    All P (map (spot_of s) (cond a (cond b (two ∷ []) (two ∷ three ∷ [])) (cond b (one ∷ two ∷ []) (one ∷ two ∷ three ∷ []))))
mapped P s true true one two three h k l = All-cons P (spot_of s two) [] k (All-nil P)
mapped P s true false one two three h k l = All-cons P (spot_of s two) (spot_of s three ∷ []) k (All-cons P (spot_of s three) [] l (All-nil P))
mapped P s false true one two three h k l = All-cons P (spot_of s one) (spot_of s two ∷ []) h (All-cons P (spot_of s two) [] k (All-nil P))
mapped P s false false one two three h k l =
    All-cons P (spot_of s one) (spot_of s two ∷ spot_of s three ∷ []) h (All-cons P (spot_of s two) (spot_of s three ∷ []) k (All-cons P (spot_of s three) [] l (All-nil P)))

others_touching : (s : Pair) (x y : Vec2) → IsAround s x y → All (λ t. IsTouchingSpot x y t) (map (spot_of s) (others s))
unfolding others
others_touching s x y h =
    mapped (λ t. IsTouchingSpot x y t) s (is_point s.a) (is_point s.b) (of_a s 1 s.a.q) (of_b s 2 s.b.p) (of_b s 3 s.b.q)
    (a_touching s 1 x y s.a.q (omega arith) h (second_on s.a)) (b_touching s 2 x y s.b.p (omega arith) h (first_on s.b)) (b_touching s 3 x y s.b.q (omega arith) h (second_on s.b))

least_touching : (x y : Vec2) (ts : List Spot) → All (λ t. IsTouchingSpot x y t) ts → IfSome (option_map (point_of x y) (least_of ts)) (λ p. p.separation ≤ℤ pos 0 → IsPointWithin (2 ^ 27) p)
least_touching x y ts h = by (least_of ts) (least_all (λ t. IsTouchingSpot x y t) ts h)
  where
    by : (o : Option Spot) → IfSome o (λ t. IsTouchingSpot x y t) → IfSome (option_map (point_of x y) o) (λ p. p.separation ≤ℤ pos 0 → IsPointWithin (2 ^ 27) p)
    by None touching = tt
    by (Some t) touching = touching

overlapping : (first : Point) (second : Option Point) → IfSome second (λ p. p.separation ≤ℤ pos 0 → IsPointWithin (2 ^ 27) p) → IfSome second (λ p. IsSecond first p) → IfSome second (λ p. IsPointWithin (2 ^ 27) p)
overlapping first None h l = tt
overlapping first (Some p) h l = h l.overlap

-- ---- the manifold

around : (a : Shape) (o : Pose) (b : Shape) (p : Pose) → IsShape a → IsPose o → IsShape b → IsPose p → IsAround (posed_pair a o b p) o.x p.x
around a o b p ha ho hb hp = record {
  a_first = posed_in_disc o (first_end a) ho ha.first;
  a_second = posed_in_disc o (second_end a) ho ha.second;
  b_first = posed_in_disc p (first_end b) hp hb.first;
  b_second = posed_in_disc p (second_end b) hp hb.second;
  radius_a = ha.nonnegative;
  radius_b = hb.nonnegative;
  radius_a_small = ha.radius;
  radius_b_small = hb.radius;
  crossing = refl;
}

-- a first point at which the shapes touch, and each second point, are within 2^27
pub record HasTouching (m : Manifold) : Type 0 where
  pub first : m.first.separation ≤ℤ pos 0 → IsPointWithin (2 ^ 27) m.first
  pub second : IfSome m.second (λ p. IsPointWithin (2 ^ 27) p)

pub has_touching : (a : Shape) (o : Pose) (b : Shape) (p : Pose) → IsShape a → IsPose o → IsShape b → IsPose p → HasTouching (manifold_of a o b p)
unfolding chosen_spots
has_touching a o b p ha ho hb hp =
    let s = posed_pair a o b p in
    let h = around a o b p ha ho hb hp in
    let P : Spot → Type 0 = λ t. IsTouchingSpot o.x p.x t in
    let head = a_touching s 0 o.x p.x s.a.p (omega arith) h (first_on s.a) in
    let rest = others_touching s o.x p.x h in
    let second = least_touching o.x p.x (allowed_spots s) (filter_all P (is_second (nearest_spot s)) (spots s) (All-cons P (first_spot s) (map (spot_of s) (others s)) head rest)) in
    record {
      first = nearest_all P s head rest;
      second = overlapping (manifold_of a o b p).first (manifold_of a o b p).second second (manifold_has_second a o b p (manifold_of a o b p) refl);
    }

pub manifold_has_touching : (a : Shape) (o : Pose) (b : Shape) (p : Pose) (m : Manifold) → m ≡ manifold_of a o b p → IsShape a → IsPose o → IsShape b → IsPose p → HasTouching m
manifold_has_touching a o b p m e ha ho hb hp = rw e (has_touching a o b p ha ho hb hp)
