-- How far from the bodies' centres their contact points are.
use Rattle.std.proofs.Common.{◌≡◌, ℕ, zero, suc, ◌+◌, ◌*◌, ◌^◌, ◌<◌, ◌≤◌, ◌/◌, Bool, true, false, cond, ◌&&◌, ℤ, pos, negsuc, neg_ℤ, ◌+ℤ◌, ◌-ℤ◌, ◌*ℤ◌, ◌≤ℤ◌, unsigned_abs, List, [], ◌∷◌, Option, None, Some, All, map, IfSome, option_map, ◌⊎◌, inl, inr, arith, refl, sym}
use Rattle.std.specs.Ordering.{int_eq}
use Rattle.std.proofs.lemmas.Int.{ints}
use Rattle.std.proofs.lemmas.Bool.{cases_Bool}
use Rattle.std.proofs.lemmas.Bool.Decides.{nat_tests}
use Rattle.std.proofs.Math.Nat.{div-le_self}
use Rattle.std.proofs.lemmas.List.Elements.{All-nil, All-cons, All-head, All-tail}
use Rattle.fixed_geom.specs.Numbers.{rdiv, fdiv}
use Rattle.fixed_geom.specs.Vectors.{IsWithin, unit_length, minus, span, unit, opposite}
use Rattle.fixed_geom.specs.declared.vectors.Vec2.{Vec2}
use Rattle.fixed_geom.proofs.FacingLemmas.{rotated_x_le, rotated_y_le}
use Rattle.fixed_geom.proofs.QuotientLemmas.{rdiv_le}
use Rattle.fixed_geom.proofs.Sizes.{product_le, sum_le, difference_le}
use Rattle.fixed_geom.proofs.VectorLemmas.{span_spans}
use Rattle.shapes.specs.declared.pose.Pose.{Pose}
use Rattle.shapes.specs.declared.pose.Core.{Core}
use Rattle.shapes.specs.declared.shape.Shape.{Shape}
use Rattle.shapes.specs.declared.spots.Pair.{Pair}
use Rattle.shapes.specs.declared.spots.Candidate.{Candidate}
use Rattle.shapes.specs.declared.spots.Spot.{Spot}
use Rattle.shapes.specs.Shapes.{IsShape, first_end, second_end}
use Rattle.shapes.specs.Poses.{IsPose, transformed}
use Rattle.shapes.specs.Cores.{is_point, way_of, part_clamped, share_of, closest}
use Rattle.shapes.specs.Spots.{of_a, of_b, others, square_to, across, up, flat_normal, normal_of, flipped, separation_of, position_of, spot_of}
use Rattle.shapes.specs.declared.points.Manifold.{Manifold}
use Rattle.shapes.specs.Manifolds.{least_of, is_second, nearest_spot, chosen_spots, spots, first_spot, allowed_spots, point_of, posed_pair, manifold_of}
use Rattle.shapes.specs.PointsWithin.{IsPointWithin}
use Rattle.shapes.proofs.SpotLists.{least_all, nearest_all, filter_all}
use Rattle.shapes.proofs.CoreLemmas.{rdiv_low, rdiv_nonnegative}

-- v is within k of c in each coordinate
record IsNear (k : ℕ) (c v : Vec2) : Type 0 where
  across : unsigned_abs (v.x -ℤ c.x) ≤ k
  along : unsigned_abs (v.y -ℤ c.y) ≤ k

-- ---- ends

turned_x_le : (o : Pose) (v : Vec2) → IsPose o → IsWithin (2 ^ 24) v → unsigned_abs (rdiv (o.rot.c *ℤ v.x -ℤ o.rot.s *ℤ v.y) unit_length) ≤ 2 * 2 ^ 24
turned_x_le o v h w =
    let size = difference_le (o.rot.c *ℤ v.x) (o.rot.s *ℤ v.y) (unsigned_abs o.rot.c * unsigned_abs v.x) (unsigned_abs o.rot.s * unsigned_abs v.y)
    (product_le o.rot.c v.x (unsigned_abs o.rot.c) (unsigned_abs v.x) (omega arith) (omega arith))
    (product_le o.rot.s v.y (unsigned_abs o.rot.s) (unsigned_abs v.y) (omega arith) (omega arith)) in
    rdiv_le (o.rot.c *ℤ v.x -ℤ o.rot.s *ℤ v.y) unit_length (2 * 2 ^ 24) (omega arith) (rotated_x_le o.rot v (2 ^ 24) (o.rot.c *ℤ v.x -ℤ o.rot.s *ℤ v.y) h.rot w size)

turned_y_le : (o : Pose) (v : Vec2) → IsPose o → IsWithin (2 ^ 24) v → unsigned_abs (rdiv (o.rot.s *ℤ v.x +ℤ o.rot.c *ℤ v.y) unit_length) ≤ 2 * 2 ^ 24
turned_y_le o v h w =
    let size = sum_le (o.rot.s *ℤ v.x) (o.rot.c *ℤ v.y) (unsigned_abs o.rot.s * unsigned_abs v.x) (unsigned_abs o.rot.c * unsigned_abs v.y)
    (product_le o.rot.s v.x (unsigned_abs o.rot.s) (unsigned_abs v.x) (omega arith) (omega arith))
    (product_le o.rot.c v.y (unsigned_abs o.rot.c) (unsigned_abs v.y) (omega arith) (omega arith)) in
    rdiv_le (o.rot.s *ℤ v.x +ℤ o.rot.c *ℤ v.y) unit_length (2 * 2 ^ 24) (omega arith) (rotated_y_le o.rot v (2 ^ 24) (o.rot.s *ℤ v.x +ℤ o.rot.c *ℤ v.y) h.rot w size)

gone_le : (x r : ℤ) (k : ℕ) → unsigned_abs r ≤ k → unsigned_abs (x +ℤ r -ℤ x) ≤ k
gone_le x r k h = omega (arith, ints)

transformed_near : (o : Pose) (v : Vec2) → IsPose o → IsWithin (2 ^ 24) v → IsNear (2 ^ 25) o.x (transformed o v)
unfolding transformed
transformed_near o v h w = record {
  across = gone_le o.x.x (rdiv (o.rot.c *ℤ v.x -ℤ o.rot.s *ℤ v.y) unit_length) (2 ^ 25) (turned_x_le o v h w);
  along = gone_le o.x.y (rdiv (o.rot.s *ℤ v.x +ℤ o.rot.c *ℤ v.y) unit_length) (2 ^ 25) (turned_y_le o v h w);
}

-- ---- the nearest point lies between the ends

pub record IsShare (t : ℤ) : Type 0 where
  pub nonnegative : pos 0 ≤ℤ t
  pub small : unsigned_abs t ≤ 2 ^ 30

clamped_share : (t : ℤ) → IsShare (part_clamped t)
unfolding part_clamped
clamped_share t = record { nonnegative = grind (arith, ints, nat_tests); small = grind (arith, ints, nat_tests) }

cond_share : (b : Bool) (t : ℤ) → IsShare t → IsShare (cond b (pos 0) t)
cond_share true t h = record { nonnegative = omega (arith, ints); small = omega arith }
cond_share false t h = h

pub share_is : (c : Core) (e : Vec2) → IsShare (share_of c e)
unfolding share_of
share_is c e = cond_share (is_point c) _ (clamped_share _)

-- r is a part of d
pub record IsPart (d r : ℤ) : Type 0 where
  pub small : unsigned_abs r ≤ unsigned_abs d
  pub up : pos 0 ≤ℤ d → pos 0 ≤ℤ r
  pub down : d ≤ℤ pos 0 → r ≤ℤ pos 0

times_up : (d t : ℤ) → pos 0 ≤ℤ d → pos 0 ≤ℤ t → pos 0 ≤ℤ (d *ℤ t)
times_up (pos m) (pos n) h l = omega (arith, ints)
times_up (negsuc m) t h l = absurd (omega (arith, ints, h))
times_up d (negsuc n) h l = absurd (omega (arith, ints, l))

times_down : (d t : ℤ) → d ≤ℤ pos 0 → pos 0 ≤ℤ t → (d *ℤ t) ≤ℤ pos 0
times_down (pos zero) t h l = omega (arith, ints)
times_down (pos (suc m)) t h l = absurd (omega (arith, ints, h))
times_down (negsuc m) (pos n) h l = omega (arith, ints)
times_down (negsuc m) (negsuc n) h l = absurd (omega (arith, ints, l))

pub part_is : (d t : ℤ) → IsShare t → IsPart d (rdiv (d *ℤ t) unit_length)
part_is d t h = record {
  small = rdiv_le (d *ℤ t) unit_length (unsigned_abs d) (omega arith) (product_le d t (unsigned_abs d) (2 ^ 30) (omega arith) h.small);
  up = λ l. rdiv_nonnegative (d *ℤ t) unit_length (times_up d t l h.nonnegative);
  down = λ l. rdiv_low (d *ℤ t) unit_length (times_down d t l h.nonnegative) (omega (arith, ints));
}

cases_sign : (d : ℤ) → (pos 0 ≤ℤ d) ⊎ (d ≤ℤ pos 0)
cases_sign (pos n) = inl (omega (arith, ints))
cases_sign (negsuc n) = inr (omega (arith, ints))

between_le : (p q x r : ℤ) (k : ℕ) → IsPart (q -ℤ p) r → unsigned_abs (p -ℤ x) ≤ k → unsigned_abs (q -ℤ x) ≤ k → unsigned_abs (p +ℤ r -ℤ x) ≤ k
between_le p q x r k h a b = elim (cases_sign (q -ℤ p)) [
  | inl up ↦ (let low : pos 0 ≤ℤ r = h.up up in omega (arith, ints, low, h.small, up, a, b))
  | inr down ↦ (let high : r ≤ℤ pos 0 = h.down down in omega (arith, ints, high, h.small, down, a, b))
]

closest_near : (k : ℕ) (x : Vec2) (c : Core) (e : Vec2) → IsNear k x c.p → IsNear k x c.q → IsNear k x (closest c e)
unfolding closest
closest_near k x c e p q =
    let t = share_of c e in
    let share = share_is c e in
    record {
      across = between_le c.p.x c.q.x x.x (rdiv ((c.q.x -ℤ c.p.x) *ℤ t) unit_length) k (part_is (c.q.x -ℤ c.p.x) t share) p.across q.across;
      along = between_le c.p.y c.q.y x.y (rdiv ((c.q.y -ℤ c.p.y) *ℤ t) unit_length) k (part_is (c.q.y -ℤ c.p.y) t share) p.along q.along;
    }

-- ---- unit vectors

unit_within : (d : Vec2) → 0 < unsigned_abs (span d) → IsWithin (2 ^ 30) (unit d)
unfolding unit
unit_within d h =
    let s = span_spans d in
    let x = product_le d.x unit_length (unsigned_abs (span d)) (2 ^ 30) s.covers.x (omega arith) in
    let y = product_le d.y unit_length (unsigned_abs (span d)) (2 ^ 30) s.covers.y (omega arith) in
    record {
      x = rdiv_le (d.x *ℤ unit_length) (span d) (2 ^ 30) h (omega (arith, x));
      y = rdiv_le (d.y *ℤ unit_length) (span d) (2 ^ 30) h (omega (arith, y));
    }

span_positive : (d : Vec2) → 0 < unsigned_abs d.x + unsigned_abs d.y → 0 < unsigned_abs (span d)
span_positive d h = let s = span_spans d in omega (arith, h, s.covers.x, s.covers.y)

wide_ends : (a b c d : ℤ) → (int_eq a c && int_eq b d) ≡ false → 0 < unsigned_abs (neg_ℤ (d -ℤ b)) + unsigned_abs (c -ℤ a)
wide_ends a b c d h = grind (arith, ints, nat_tests)

across_within : (c : Core) → is_point c ≡ false → IsWithin (2 ^ 30) (across c)
unfolding is_point across
across_within c h = unit_within (square_to (way_of c)) (span_positive (square_to (way_of c)) (wide_ends c.p.x c.p.y c.q.x c.q.y h))

up_within : IsWithin (2 ^ 30) up
up_within = record { x = omega arith; y = omega arith }

flat_within : (a b : Core) → IsWithin (2 ^ 30) (flat_normal a b)
unfolding flat_normal
flat_within a b = elim (cases_Bool (is_point b)) [
  | inl e ↦ rw e (elim (cases_Bool (is_point a)) [
    | inl h ↦ rw h up_within
    | inr h ↦ rw h (across_within a h)
  ])
  | inr e ↦ rw e (across_within b e)
]

opposite_within : (v : Vec2) (k : ℕ) → IsWithin k v → IsWithin k (opposite v)
opposite_within v k h = record { x = omega (arith, ints, h.x); y = omega (arith, ints, h.y) }

either_within : (b : Bool) (u v : Vec2) (k : ℕ) → IsWithin k u → IsWithin k v → IsWithin k (cond b u v)
either_within true u v k h l = h
either_within false u v k h l = l

some_dist : (d : ℤ) → int_eq d (pos 0) ≡ false → 0 < unsigned_abs d
some_dist d h = grind (arith, ints, nat_tests)

pub normal_within : (s : Pair) (c : Candidate) → c.dist ≡ span (minus c.b c.a) → IsWithin (2 ^ 30) (normal_of s c)
unfolding normal_of
normal_within s c e = elim (cases_Bool (int_eq c.dist (pos 0))) [
  | inl h ↦ rw h (flat_within s.a s.b)
  | inr h ↦ (let long : 0 < unsigned_abs (span (minus c.b c.a)) = rw (sym e) (some_dist c.dist h) in
      let along = unit_within (minus c.b c.a) long in
      rw h (either_within s.crossing (opposite (unit (minus c.b c.a))) (unit (minus c.b c.a)) (2 ^ 30) (opposite_within (unit (minus c.b c.a)) (2 ^ 30) along) along))
]

-- ---- candidates

record IsNearCandidate (k : ℕ) (x y : Vec2) (c : Candidate) : Type 0 where
  number : c.number ≤ 3
  a : IsNear (2 ^ 25) x c.a
  b : IsNear (2 ^ 25) y c.b
  dist : c.dist ≡ span (minus c.b c.a)

way_le : (a b x y : ℤ) (k : ℕ) → unsigned_abs (y -ℤ x) ≤ k → unsigned_abs (a -ℤ x) ≤ 2 ^ 25 → unsigned_abs (b -ℤ y) ≤ 2 ^ 25 → unsigned_abs (b -ℤ a) ≤ k + 2 ^ 26
way_le a b x y k h l m = omega (arith, ints)

dist_le : (k : ℕ) (x y : Vec2) (c : Candidate) → IsWithin k (minus y x) → IsNearCandidate k x y c → unsigned_abs c.dist ≤ 2 * (k + 2 ^ 26)
dist_le k x y c w h =
    let s = span_spans (minus c.b c.a) in
    let way : IsWithin (k + 2 ^ 26) (minus c.b c.a) = record {
      x = way_le c.a.x c.b.x x.x y.x k w.x h.a.across h.b.across;
      y = way_le c.a.y c.b.y x.y y.y k w.y h.a.along h.b.along;
    } in
    rw h.dist (s.within (k + 2 ^ 26) way)

gap_le : (flip : Bool) (d r q : ℤ) (n : ℕ) → unsigned_abs d ≤ n → unsigned_abs r ≤ 2 ^ 24 → unsigned_abs q ≤ 2 ^ 24 → unsigned_abs (flipped flip d -ℤ r -ℤ q) ≤ n + 2 ^ 25
gap_le true d r q n h l m = omega (arith, ints)
gap_le false d r q n h l m = omega (arith, ints)

half_le : (s : ℤ) → unsigned_abs (fdiv s (pos 2)) ≤ unsigned_abs s
unfolding fdiv
half_le (pos n) = div-le_self n 2
half_le (negsuc n) = let h : n / 2 ≤ n = div-le_self n 2 in omega (arith, h)

reach_le : (r s : ℤ) (n : ℕ) → unsigned_abs r ≤ 2 ^ 24 → unsigned_abs s ≤ n → unsigned_abs (r +ℤ fdiv s (pos 2)) ≤ n + 2 ^ 24
reach_le r s n h l = let half = half_le s in sum_of r (fdiv s (pos 2)) n h (omega (arith, half, l))
  where
    sum_of : (r f : ℤ) (n : ℕ) → unsigned_abs r ≤ 2 ^ 24 → unsigned_abs f ≤ n → unsigned_abs (r +ℤ f) ≤ n + 2 ^ 24
    sum_of r f n h l = omega (arith, ints)

pub scaled_le : (u m : ℤ) (n : ℕ) → unsigned_abs u ≤ 2 ^ 30 → unsigned_abs m ≤ n → unsigned_abs (rdiv (u *ℤ m) unit_length) ≤ n
scaled_le u m n h l =
    let size = product_le u m (2 ^ 30) n h l in
    rdiv_le (u *ℤ m) unit_length n (omega arith) (omega (arith, size))

to_first : (a r x : ℤ) (n : ℕ) → unsigned_abs (a -ℤ x) ≤ 2 ^ 25 → unsigned_abs r ≤ n → unsigned_abs (a +ℤ r -ℤ x) ≤ n + 2 ^ 25
to_first a r x n h l = omega (arith, ints)

to_second : (a r x y : ℤ) (k n : ℕ) → unsigned_abs (y -ℤ x) ≤ k → unsigned_abs (a -ℤ x) ≤ 2 ^ 25 → unsigned_abs r ≤ n → unsigned_abs (a +ℤ r -ℤ y) ≤ k + n + 2 ^ 25
to_second a r x y k n w h l = omega (arith, ints)

abbrev IsNearSpot : ℕ → Vec2 → Vec2 → Spot → Type 0
IsNearSpot k x y t = IsPointWithin (4 * k + 2 ^ 28) (point_of x y t)

-- how far along the normal a contact point may lie
abbrev far : ℕ → ℕ
far k = 2 * (k + 2 ^ 26) + 2 ^ 25 + 2 ^ 24

spot_near : (s : Pair) (k : ℕ) (x y : Vec2) (c : Candidate) → unsigned_abs s.radius_a ≤ 2 ^ 24 → unsigned_abs s.radius_b ≤ 2 ^ 24 → IsWithin k (minus y x) → IsNearCandidate k x y c → IsNearSpot k x y (spot_of s c)
unfolding spot_of position_of separation_of
spot_near s k x y c ra rb w h =
    let n = normal_of s c in
    let normal = normal_within s c h.dist in
    let sep = flipped s.crossing c.dist -ℤ s.radius_a -ℤ s.radius_b in
    let separation = gap_le s.crossing c.dist s.radius_a s.radius_b (2 * (k + 2 ^ 26)) (dist_le k x y c w h) ra rb in
    let m = s.radius_a +ℤ fdiv sep (pos 2) in
    let reach = reach_le s.radius_a sep (2 * (k + 2 ^ 26) + 2 ^ 25) ra separation in
    let dx = scaled_le n.x m (far k) normal.x reach in
    let dy = scaled_le n.y m (far k) normal.y reach in
    let ax = to_first c.a.x (rdiv (n.x *ℤ m) unit_length) x.x (far k) h.a.across dx in
    let ay = to_first c.a.y (rdiv (n.y *ℤ m) unit_length) x.y (far k) h.a.along dy in
    let bx = to_second c.a.x (rdiv (n.x *ℤ m) unit_length) x.x y.x k (far k) w.x h.a.across dx in
    let by = to_second c.a.y (rdiv (n.y *ℤ m) unit_length) x.y y.y k (far k) w.y h.a.along dy in
    record {
      candidate = h.number;
      normal = normal;
      separation = omega (arith, separation);
      ra = record { x = omega (arith, ax); y = omega (arith, ay) };
      rb = record { x = omega (arith, bx); y = omega (arith, by) };
    }

-- ---- lists

record IsAround (s : Pair) (x y : Vec2) : Type 0 where
  a_first : IsNear (2 ^ 25) x s.a.p
  a_second : IsNear (2 ^ 25) x s.a.q
  b_first : IsNear (2 ^ 25) y s.b.p
  b_second : IsNear (2 ^ 25) y s.b.q

a_near : (s : Pair) (k n : ℕ) (x y e : Vec2) → n ≤ 3 → IsAround s x y → IsNear (2 ^ 25) x e → IsNearCandidate k x y (of_a s n e)
a_near s k n x y e i h l = record { number = i; a = l; b = closest_near (2 ^ 25) y s.b e h.b_first h.b_second; dist = refl }

b_near : (s : Pair) (k n : ℕ) (x y e : Vec2) → n ≤ 3 → IsAround s x y → IsNear (2 ^ 25) y e → IsNearCandidate k x y (of_b s n e)
b_near s k n x y e i h l = record {
  number = i;
  a = closest_near (2 ^ 25) x s.a e h.a_first h.a_second;
  b = l;
  dist = refl;
}

either_all : (P : Candidate → Type 0) (b : Bool) (cs ds : List Candidate) → All P cs → All P ds → All P (cond b cs ds)
either_all P true cs ds h l = h
either_all P false cs ds h l = l

others_near : (s : Pair) (k : ℕ) (x y : Vec2) → IsAround s x y → All (λ c. IsNearCandidate k x y c) (others s)
unfolding others
others_near s k x y h =
    let P : Candidate → Type 0 = λ c. IsNearCandidate k x y c in
    let one = of_a s 1 s.a.q in
    let two = of_b s 2 s.b.p in
    let three = of_b s 3 s.b.q in
    let first = a_near s k 1 x y s.a.q (omega arith) h h.a_second in
    let second = b_near s k 2 x y s.b.p (omega arith) h h.b_first in
    let third = b_near s k 3 x y s.b.q (omega arith) h h.b_second in
    let end = All-cons P two [] second (All-nil P) in
    let ends = All-cons P two (three ∷ []) second (All-cons P three [] third (All-nil P)) in
    either_all P (is_point s.a)
    (cond (is_point s.b) (two ∷ []) (two ∷ three ∷ []))
    (cond (is_point s.b) (one ∷ two ∷ []) (one ∷ two ∷ three ∷ []))
    (either_all P (is_point s.b) (two ∷ []) (two ∷ three ∷ []) end ends)
    (either_all P (is_point s.b) (one ∷ two ∷ []) (one ∷ two ∷ three ∷ []) (All-cons P one (two ∷ []) first end) (All-cons P one (two ∷ three ∷ []) first ends))

map_near : (s : Pair) (k : ℕ) (x y : Vec2) (cs : List Candidate) → unsigned_abs s.radius_a ≤ 2 ^ 24 → unsigned_abs s.radius_b ≤ 2 ^ 24 → IsWithin k (minus y x) → All (λ c. IsNearCandidate k x y c) cs → All (λ t. IsNearSpot k x y t) (map (spot_of s) cs)
map_near s k x y [] ra rb w h = All-nil (λ t. IsNearSpot k x y t)
map_near s k x y (c ∷ cs) ra rb w h =
    All-cons (λ t. IsNearSpot k x y t) (spot_of s c) (map (spot_of s) cs)
    (spot_near s k x y c ra rb w (All-head (λ c. IsNearCandidate k x y c) c cs h))
    (map_near s k x y cs ra rb w (All-tail (λ c. IsNearCandidate k x y c) c cs h))

second_near : (k : ℕ) (x y : Vec2) (ts : List Spot) → All (λ t. IsNearSpot k x y t) ts → IfSome (option_map (point_of x y) (least_of ts)) (λ p. IsPointWithin (4 * k + 2 ^ 28) p)
second_near k x y ts h = by (least_of ts) (least_all (λ t. IsNearSpot k x y t) ts h)
  where
    by : (o : Option Spot) → IfSome o (λ t. IsNearSpot k x y t) → IfSome (option_map (point_of x y) o) (λ p. IsPointWithin (4 * k + 2 ^ 28) p)
    by None near = tt
    by (Some t) near = near

pub record HasNear (k : ℕ) (m : Manifold) : Type 0 where
  pub first : IsPointWithin (4 * k + 2 ^ 28) m.first
  pub second : IfSome m.second (λ p. IsPointWithin (4 * k + 2 ^ 28) p)

around : (a : Shape) (o : Pose) (b : Shape) (p : Pose) → IsShape a → IsPose o → IsShape b → IsPose p → IsAround (posed_pair a o b p) o.x p.x
around a o b p ha ho hb hp = record {
  a_first = transformed_near o (first_end a) ho ha.first;
  a_second = transformed_near o (second_end a) ho ha.second;
  b_first = transformed_near p (first_end b) hp hb.first;
  b_second = transformed_near p (second_end b) hp hb.second;
}

has_near : (a : Shape) (o : Pose) (b : Shape) (p : Pose) (k : ℕ) → IsShape a → IsPose o → IsShape b → IsPose p → IsWithin k (minus p.x o.x) → HasNear k (manifold_of a o b p)
unfolding chosen_spots
has_near a o b p k ha ho hb hp w =
    let s = posed_pair a o b p in
    let h = around a o b p ha ho hb hp in
    let P : Spot → Type 0 = λ t. IsNearSpot k o.x p.x t in
    let head = spot_near s k o.x p.x (of_a s 0 s.a.p) ha.radius hb.radius w (a_near s k 0 o.x p.x s.a.p (omega arith) h h.a_first) in
    let rest = map_near s k o.x p.x (others s) ha.radius hb.radius w (others_near s k o.x p.x h) in
    record {
      first = nearest_all P s head rest;
      second = second_near k o.x p.x (allowed_spots s) (filter_all P (is_second (nearest_spot s)) (spots s) (All-cons P (first_spot s) (map (spot_of s) (others s)) head rest));
    }

pub manifold_has_near : (a : Shape) (o : Pose) (b : Shape) (p : Pose) (m : Manifold) → m ≡ manifold_of a o b p → IsShape a → IsPose o → IsShape b → IsPose p → (k : ℕ) → IsWithin k (minus p.x o.x) → HasNear k m
manifold_has_near a o b p m e ha ho hb hp k w = rw e (has_near a o b p k ha ho hb hp w)
