-- A shape is hit at a point of the way that is no further from its tight box than the slack.
use Rattle.std.proofs.Common.{◌≡◌, ℕ, ◌+◌, ◌*◌, ◌^◌, ◌<◌, ◌≤◌, Bool, true, false, cond, ◌&&◌, nat_lt, ℤ, pos, negsuc, neg_ℤ, ◌+ℤ◌, ◌-ℤ◌, ◌*ℤ◌, ◌≤ℤ◌, ◌<ℤ◌, int_lt, int_le, unsigned_abs, List, [], ◌∷◌, All, Option, None, Some, IfSome, ◌⊎◌, inl, inr, arith, refl, sym, ◌∙◌, subst}
use Rattle.std.specs.Int.{int_min, int_max}
use Rattle.std.specs.Ordering.{int_eq}
use Rattle.std.proofs.lemmas.Int.{ints}
use Rattle.std.proofs.lemmas.Nat.{mul-le}
use Rattle.std.proofs.lemmas.Bool.{cases_Bool}
use Rattle.std.proofs.lemmas.Bool.Decides.{nat_tests}
use Rattle.std.proofs.lemmas.List.Elements.{All-nil, All-cons, All-head, All-tail}
use Rattle.fixed_geom.specs.Boxes.{grow}
use Rattle.fixed_geom.specs.Numbers.{rdiv, fdiv, isqrt, IsFloor}
use Rattle.fixed_geom.specs.Vectors.{IsWithin, unit_length, dot, cross, minus, opposite, span, unit}
use Rattle.fixed_geom.specs.declared.boxes.Box2.{Box2}
use Rattle.fixed_geom.specs.declared.vectors.Vec2.{Vec2}
use Rattle.fixed_geom.proofs.QuotientLemmas.{fdiv-floor, rdiv_le}
use Rattle.fixed_geom.proofs.RootLemmas.{root_is, IsRootOf}
use Rattle.fixed_geom.proofs.Sizes.{product_le}
use Rattle.fixed_geom.proofs.VectorLemmas.{span_spans}
use Rattle.shapes.specs.declared.beam.Beam.{Beam}
use Rattle.shapes.specs.declared.pose.Core.{Core}
use Rattle.shapes.specs.Bounds.{box_of_ends}
use Rattle.shapes.specs.Cores.{is_point, way_of, share_of, closest}
use Rattle.shapes.specs.Spots.{square_to, across}
use Rattle.shapes.specs.Rays.{IsBeam, whole, room_of, circle_hit, end_hit, crossed, crossed_from_either_side, side_hit, shifted, to_side, side_hits, earlier, earliest, other_hits, is_inside, core_ray}
use Rattle.shapes.proofs.BeamLemmas.{ahead_positive}
use Rattle.shapes.proofs.NearLemmas.{IsPart, part_is, share_is}
use Rattle.shape_rays.specs.declared.boxes.TheConstants.{RAY_SLACK}
use Rattle.shape_rays.specs.Reach.{IsInAt}
use Rattle.shape_rays.proofs.PartLemmas.{max_is, min_is}
use Rattle.shape_rays.proofs.RingLemmas.{Num, Sub, Mul, ring}
use Rattle.shape_rays.proofs.SignLemmas.{minus_both}
use Rattle.shape_rays.proofs.PlaceLemmas.{T, D, IsClose, IsInside, IsRest, IsBetween, side_close, meeting_x, meeting_y, opposite_meeting, end_close, centre_x, centre_y, turned_inside}

-- the point at t of the ray's way is near the box
record IsNearBox (r : Beam) (b : Box2) (t : ℕ) : Type 0 where
  x : IsClose r.from.x r.along.x (pos t) b.lo.x b.hi.x
  y : IsClose r.from.y r.along.y (pos t) b.lo.y b.hi.y

abbrev AreNear : Beam → Box2 → Option ℕ → Type 0
AreNear r b h = IfSome h (λ t. IsNearBox r b t)

unless : (r : Beam) (b : Box2) (s : Bool) (h : Option ℕ) → (s ≡ false → AreNear r b h) → AreNear r b (cond s None h)
unless r b true h f = tt
unless r b false h f = f refl

inside_way : (f : ℤ) → unsigned_abs f ≤ 2 ^ 28 → IsInside f D
inside_way f h = record { above = omega (arith, ints, h); below = omega (arith, ints, h) }

rest_below : (a b q : ℤ) → a <ℤ (q +ℤ b) → pos 0 ≤ℤ (b -ℤ (a -ℤ q))
rest_below a b q h = omega (arith, ints, h)

rest_of : (a b t : ℤ) → pos 0 <ℤ b → (t *ℤ b) ≤ℤ a → a <ℤ (t *ℤ b +ℤ b) → IsRest a b t
rest_of a b t h k l = record { some = h; low = minus_both a (t *ℤ b) k; high = rest_below a b (t *ℤ b) l }

floor_rest : (a b : ℤ) → pos 0 <ℤ b → IsRest a b (fdiv a b)
floor_rest a b h = let i = fdiv-floor a b h in rest_of a b (fdiv a b) h i.below i.above

-- ---- a circle round an end

-- a circle of radius r round e is in the box
record IsEndIn (b : Box2) (radius : ℤ) (e : Vec2) : Type 0 where
  left : b.lo.x ≤ℤ (e.x -ℤ radius)
  right : (e.x +ℤ radius) ≤ℤ b.hi.x
  down : b.lo.y ≤ℤ (e.y -ℤ radius)
  up : (e.y +ℤ radius) ≤ℤ b.hi.y

back : (o e r : ℤ) → e -ℤ r ≡ o +ℤ (e -ℤ o) -ℤ r
back o e r = omega (arith, ints)

forth : (o e r : ℤ) → e +ℤ r ≡ o +ℤ (e -ℤ o) +ℤ r
forth o e r = omega (arith, ints)

less_none : (a b : ℤ) → a -ℤ b ≡ a +ℤ (pos 0 -ℤ b)
less_none a b = omega (arith, ints)

-- s is how far before the nearest point to the centre the hit is, or less
end_near : (r : Beam) (b : Box2) (radius : ℤ) (e : Vec2) (s : ℤ) (t : ℕ) → IsBeam r → IsEndIn b radius e → pos 0 ≤ℤ radius
    → pos 0 ≤ℤ (radius *ℤ radius *ℤ dot r.along r.along -ℤ (s *ℤ s +ℤ cross (minus e r.from) r.along *ℤ cross (minus e r.from) r.along))
    → IsRest ((dot (minus e r.from) r.along -ℤ s) *ℤ T) (dot r.along r.along) (pos t) → IsNearBox r b t
unfolding dot cross
end_near r b radius e s t h i p room rest =
    let f = r.along in
    let wx = e.x -ℤ r.from.x in
    let wy = e.y -ℤ r.from.y in
    let ahead = wx *ℤ f.x +ℤ wy *ℤ f.y in
    let off = wx *ℤ f.y -ℤ wy *ℤ f.x in
    let q = f.x *ℤ f.x +ℤ f.y *ℤ f.y in
    let both = turned_inside s off f.x f.y q radius refl p room in
    let left : b.lo.x ≤ℤ (r.from.x +ℤ wx -ℤ radius) = subst (λ (z : ℤ). b.lo.x ≤ℤ z) (back r.from.x e.x radius) i.left in
    let right : (r.from.x +ℤ wx +ℤ radius) ≤ℤ b.hi.x = subst (λ (z : ℤ). z ≤ℤ b.hi.x) (forth r.from.x e.x radius) i.right in
    let down : b.lo.y ≤ℤ (r.from.y +ℤ wy -ℤ radius) = subst (λ (z : ℤ). b.lo.y ≤ℤ z) (back r.from.y e.y radius) i.down in
    let up : (r.from.y +ℤ wy +ℤ radius) ≤ℤ b.hi.y = subst (λ (z : ℤ). z ≤ℤ b.hi.y) (forth r.from.y e.y radius) i.up in
    record {
      x = end_close r.from.x f.x wx ahead s (off *ℤ f.y) q radius (pos t) b.lo.x b.hi.x (centre_x wx wy f.x f.y) (inside_way f.x h.along.x) rest both.along left right;
      y = end_close r.from.y f.y wy ahead s (pos 0 -ℤ off *ℤ f.x) q radius (pos t) b.lo.y b.hi.y (centre_y wx wy f.x f.y) (inside_way f.y h.along.y) rest
          (subst (λ (z : ℤ). IsInside z (radius *ℤ q)) (less_none (s *ℤ f.y) (off *ℤ f.x)) both.across) down up;
    }

record IsSmallRoot (a k : ℤ) : Type 0 where
  nonnegative : pos 0 ≤ℤ k
  below : (k *ℤ k) ≤ℤ a

small_root : (a : ℤ) → pos 0 ≤ℤ a → IsSmallRoot a (isqrt a)
unfolding isqrt
small_root (pos n) h = let i : IsRootOf n _ = root_is n in record { nonnegative = omega (arith, ints); below = omega (arith, ints, i.below) }
small_root (negsuc n) h = absurd (omega (arith, ints, h))

room_left : (a o s : ℤ) → s ≤ℤ (a -ℤ o) → pos 0 ≤ℤ (a -ℤ (s +ℤ o))
room_left a o s h = omega (arith, ints, h)

squares_le : (m n : ℕ) → m ≤ n → (pos m *ℤ pos m) ≤ℤ (pos n *ℤ pos n)
squares_le m n h = let le : m * m ≤ n * n = mul-le m m n n h h in omega (arith, ints, le)

less_square : (a s : ℤ) → pos 0 <ℤ a → pos 0 ≤ℤ s → (a -ℤ s) <ℤ pos 0 → (a *ℤ a) ≤ℤ (s *ℤ s)
less_square (pos m) (pos n) h k l = (let le : m ≤ n = omega (arith, ints, l) in squares_le m n le)
less_square (negsuc m) s h k l = absurd (omega (arith, ints, h))
less_square a (negsuc n) h k l = absurd (omega (arith, ints, k))

below_by : (a : ℤ) (n m : ℕ) → a <ℤ (negsuc n *ℤ pos m +ℤ pos m) → a <ℤ pos 0
below_by a n m l = omega (arith, ints, l)

under_whole : (x : ℤ) → (x *ℤ T) <ℤ pos 0 → x <ℤ pos 0
under_whole x h = omega (arith, ints, h)

le_both : (a b c : ℤ) → a ≤ℤ b → b ≤ℤ c → a ≤ℤ c
le_both a b c h k = omega (arith, ints, h, k)

no_product : (a b : ℤ) → (a -ℤ a) *ℤ T -ℤ pos 0 *ℤ b ≡ pos 0
no_product a b = ring (Sub (Mul (Sub (Num a) (Num a)) (Num T)) (Mul (Num (pos 0)) (Num b))) (Num (pos 0)) (omega arith)

zero_low : (x : ℤ) → x ≡ pos 0 → pos 0 ≤ℤ x
zero_low x e = omega (arith, ints, e)

zero_high : (x b : ℤ) → x ≡ pos 0 → pos 0 <ℤ b → pos 0 ≤ℤ (b -ℤ x)
zero_high x b e h = omega (arith, ints, e, h)

no_rest : (a b : ℤ) → pos 0 <ℤ b → IsRest ((a -ℤ a) *ℤ T) b (pos 0)
no_rest a b h = record { some = h; low = zero_low _ (no_product a b); high = zero_high _ b (no_product a b) h }

-- a negative quotient is of what is below zero
below_none : (a b : ℤ) (n : ℕ) → pos 0 <ℤ b → a <ℤ (negsuc n *ℤ b +ℤ b) → a <ℤ pos 0
below_none a (pos m) n h l = below_by a n m l
below_none a (negsuc m) n h l = absurd (omega (arith, ints, h))

-- the fraction of a quotient that is brought to 0 where it is below
positive_is : (m : ℕ) (t : ℤ) → t ≡ int_max (pos m) (pos 0) → pos (unsigned_abs t) ≡ pos m
positive_is m t e = let k = max_is (pos m) (pos 0) in omega (arith, ints, e, k.first, k.second, k.one)

negative_is : (m : ℕ) (t : ℤ) → t ≡ int_max (negsuc m) (pos 0) → pos (unsigned_abs t) ≡ pos 0
negative_is m t e = let k = max_is (negsuc m) (pos 0) in omega (arith, ints, e, k.first, k.second, k.one)

entered_near : (r : Beam) (b : Box2) (radius : ℤ) (e : Vec2) (q : ℤ) (t : ℤ) → IsBeam r → IsEndIn b radius e → pos 0 ≤ℤ radius
    → pos 0 <ℤ dot (minus e r.from) r.along
    → pos 0 ≤ℤ room_of radius (dot r.along r.along) (cross (minus e r.from) r.along)
    → q ≡ fdiv ((dot (minus e r.from) r.along -ℤ isqrt (room_of radius (dot r.along r.along) (cross (minus e r.from) r.along))) *ℤ whole) (dot r.along r.along)
    → t ≡ int_max q (pos 0) → IsNearBox r b (unsigned_abs t)
entered_near r b radius e (pos m) t h i p ahead room is most =
    let s = isqrt (room_of radius (dot r.along r.along) (cross (minus e r.from) r.along)) in
    let small = small_root (room_of radius (dot r.along r.along) (cross (minus e r.from) r.along)) room in
    let some = ahead_positive (minus e r.from) r.along ahead in
    let rest : IsRest ((dot (minus e r.from) r.along -ℤ s) *ℤ T) (dot r.along r.along) (pos (unsigned_abs t)) =
    subst (λ (z : ℤ). IsRest ((dot (minus e r.from) r.along -ℤ s) *ℤ T) (dot r.along r.along) z) (sym is ∙ sym (positive_is m t most)) (floor_rest _ _ some) in
    end_near r b radius e s (unsigned_abs t) h i p (room_left _ _ _ small.below) rest
entered_near r b radius e (negsuc m) t h i p ahead room is most =
    let a = dot (minus e r.from) r.along in
    let off = cross (minus e r.from) r.along in
    let square = dot r.along r.along in
    let s = isqrt (room_of radius square off) in
    let small = small_root (room_of radius square off) room in
    let some = ahead_positive (minus e r.from) r.along ahead in
    let floor : IsFloor ((a -ℤ s) *ℤ T) square (negsuc m) = subst (λ (z : ℤ). IsFloor ((a -ℤ s) *ℤ T) square z) (sym is) (fdiv-floor ((a -ℤ s) *ℤ T) square some) in
    let under : (a -ℤ s) <ℤ pos 0 = under_whole (a -ℤ s) (below_none ((a -ℤ s) *ℤ T) square m some floor.above) in
    let less = less_square a s ahead small.nonnegative under in
    let rest : IsRest ((a -ℤ a) *ℤ T) square (pos (unsigned_abs t)) = subst (λ (z : ℤ). IsRest ((a -ℤ a) *ℤ T) square z) (sym (negative_is m t most)) (no_rest a square some) in
    end_near r b radius e a (unsigned_abs t) h i p (room_left _ _ _ (le_both _ _ _ less small.below)) rest

not_below_zero : (x : ℤ) → int_lt x (pos 0) ≡ false → pos 0 ≤ℤ x
not_below_zero x h = grind (arith, ints, nat_tests)

above_zero : (x : ℤ) → int_le x (pos 0) ≡ false → pos 0 <ℤ x
above_zero x h = grind (arith, ints, nat_tests)

no_more : (x y : ℤ) → int_lt y x ≡ false → x ≤ℤ y
no_more x y h = grind (arith, ints, nat_tests)

end_hit_near : (r : Beam) (b : Box2) (radius : ℤ) (e : Vec2) → IsBeam r → IsEndIn b radius e → pos 0 ≤ℤ radius → AreNear r b (end_hit r radius e)
unfolding end_hit circle_hit
end_hit_near r b radius e h i p =
    let a = dot (minus e r.from) r.along in
    let room = room_of radius (dot r.along r.along) (cross (minus e r.from) r.along) in
    let q = fdiv ((a -ℤ isqrt room) *ℤ whole) (dot r.along r.along) in
    let t = int_max q (pos 0) in
    unless r b (int_le a (pos 0)) _ (λ u. unless r b (int_lt room (pos 0)) _ (λ v. unless r b (int_lt whole t) (Some (unsigned_abs t)) (λ w.
    entered_near r b radius e q t h i p (above_zero a u) (not_below_zero room v) refl refl)))

-- ---- a side

-- both ends of a line are in the box
record IsLineIn (b : Box2) (c : Core) : Type 0 where
  px : IsBetween b.lo.x b.hi.x c.p.x
  py : IsBetween b.lo.y b.hi.y c.p.y
  qx : IsBetween b.lo.x b.hi.x c.q.x
  qy : IsBetween b.lo.y b.hi.y c.q.y

-- the parts of the way and of a side at which the two meet
record IsMeeting (r : Beam) (c : Core) (d s z : ℤ) : Type 0 where
  x : r.along.x *ℤ s ≡ (c.p.x -ℤ r.from.x) *ℤ d +ℤ (c.q.x -ℤ c.p.x) *ℤ z
  y : r.along.y *ℤ s ≡ (c.p.y -ℤ r.from.y) *ℤ d +ℤ (c.q.y -ℤ c.p.y) *ℤ z

meeting_of : (r : Beam) (c : Core) → IsMeeting r c (cross r.along (minus c.q c.p)) (cross (minus c.p r.from) (minus c.q c.p)) (cross (minus c.p r.from) r.along)
unfolding cross
meeting_of r c = record {
  x = meeting_x r.along.x r.along.y (c.p.x -ℤ r.from.x) (c.p.y -ℤ r.from.y) (c.q.x -ℤ c.p.x) (c.q.y -ℤ c.p.y);
  y = meeting_y r.along.x r.along.y (c.p.x -ℤ r.from.x) (c.p.y -ℤ r.from.y) (c.q.x -ℤ c.p.x) (c.q.y -ℤ c.p.y);
}

opposite_of : (r : Beam) (c : Core) (d s z : ℤ) → IsMeeting r c d s z → IsMeeting r c (neg_ℤ d) (neg_ℤ s) (neg_ℤ z)
opposite_of r c d s z h = record {
  x = opposite_meeting r.along.x s (c.p.x -ℤ r.from.x) d (c.q.x -ℤ c.p.x) z h.x;
  y = opposite_meeting r.along.y s (c.p.y -ℤ r.from.y) d (c.q.y -ℤ c.p.y) z h.y;
}

fdiv_positive : (a b : ℤ) → pos 0 ≤ℤ a → fdiv a b ≡ pos (unsigned_abs (fdiv a b))
unfolding fdiv
fdiv_positive (pos n) b h = refl
fdiv_positive (negsuc n) b h = absurd (omega (arith, ints, h))

whole_part : (s : ℤ) → pos 0 ≤ℤ s → pos 0 ≤ℤ (s *ℤ T)
whole_part s h = omega (arith, ints, h)

crossed_near : (r : Beam) (b : Box2) (c : Core) (d s z : ℤ) → IsBeam r → IsLineIn b c → IsMeeting r c d s z → AreNear r b (crossed d s z)
unfolding crossed
crossed_near r b c d s z h i m =
    unless r b (int_le d (pos 0)) _ (λ u. unless r b (int_lt s (pos 0)) _ (λ v. unless r b (int_lt d s) _ (λ w. unless r b (int_lt z (pos 0)) _ (λ n. unless r b (int_lt d z) _ (λ k.
    let rest : IsRest (s *ℤ T) d (pos (unsigned_abs (fdiv (s *ℤ whole) d))) =
    subst (λ (q : ℤ). IsRest (s *ℤ T) d q) (fdiv_positive (s *ℤ whole) d (whole_part s (not_below_zero s v))) (floor_rest (s *ℤ T) d (above_zero d u)) in
    record {
      x = side_close r.from.x r.along.x c.p.x c.q.x d s z _ b.lo.x b.hi.x m.x (inside_way r.along.x h.along.x) rest (not_below_zero z n) (no_more z d k) i.px i.qx;
      y = side_close r.from.y r.along.y c.p.y c.q.y d s z _ b.lo.y b.hi.y m.y (inside_way r.along.y h.along.y) rest (not_below_zero z n) (no_more z d k) i.py i.qy;
    })))))

either_near : (r : Beam) (b : Box2) (s : Bool) (g h : Option ℕ) → AreNear r b g → AreNear r b h → AreNear r b (cond s g h)
either_near r b true g h k l = k
either_near r b false g h k l = l

side_hit_near : (r : Beam) (b : Box2) (c : Core) → IsBeam r → IsLineIn b c → AreNear r b (side_hit r c)
unfolding side_hit crossed_from_either_side
side_hit_near r b c h i =
    let d = cross r.along (minus c.q c.p) in
    let s = cross (minus c.p r.from) (minus c.q c.p) in
    let z = cross (minus c.p r.from) r.along in
    let m = meeting_of r c in
    either_near r b (int_lt d (pos 0)) (crossed (neg_ℤ d) (neg_ℤ s) (neg_ℤ z)) (crossed d s z)
    (crossed_near r b c (neg_ℤ d) (neg_ℤ s) (neg_ℤ z) h i (opposite_of r c d s z m)) (crossed_near r b c d s z h i m)

-- ---- the sides of a core

-- v is no longer than the radius in each part
record IsShort (radius : ℤ) (v : Vec2) : Type 0 where
  x : unsigned_abs v.x ≤ unsigned_abs radius
  y : unsigned_abs v.y ≤ unsigned_abs radius

wide_ends : (a b c d : ℤ) → (int_eq a c && int_eq b d) ≡ false → 0 < unsigned_abs (neg_ℤ (d -ℤ b)) + unsigned_abs (c -ℤ a)
wide_ends a b c d h = grind (arith, ints, nat_tests)

unit_short : (d : Vec2) → 0 < unsigned_abs d.x + unsigned_abs d.y → IsWithin (2 ^ 30) (unit d)
unfolding unit
unit_short d h =
    let s = span_spans d in
    let some : 0 < unsigned_abs (span d) = omega (arith, h, s.covers.x, s.covers.y) in
    let x = product_le d.x unit_length (unsigned_abs (span d)) (2 ^ 30) s.covers.x (omega arith) in
    let y = product_le d.y unit_length (unsigned_abs (span d)) (2 ^ 30) s.covers.y (omega arith) in
    record { x = rdiv_le (d.x *ℤ unit_length) (span d) (2 ^ 30) some (omega (arith, x)); y = rdiv_le (d.y *ℤ unit_length) (span d) (2 ^ 30) some (omega (arith, y)) }

across_short : (c : Core) → is_point c ≡ false → IsWithin (2 ^ 30) (across c)
unfolding is_point across
across_short c h = unit_short (square_to (way_of c)) (wide_ends c.p.x c.p.y c.q.x c.q.y h)

to_side_short : (c : Core) (radius : ℤ) → is_point c ≡ false → IsShort radius (to_side c radius)
unfolding to_side
to_side_short c radius h =
    let n = across_short c h in
    let x = product_le radius (across c).x (unsigned_abs radius) (2 ^ 30) (omega arith) n.x in
    let y = product_le radius (across c).y (unsigned_abs radius) (2 ^ 30) (omega arith) n.y in
    record { x = rdiv_le (radius *ℤ (across c).x) unit_length (unsigned_abs radius) (omega arith) (omega (arith, x)); y = rdiv_le (radius *ℤ (across c).y) unit_length (unsigned_abs radius) (omega arith) (omega (arith, y)) }

opposite_short : (radius : ℤ) (v : Vec2) → IsShort radius v → IsShort radius (opposite v)
opposite_short radius v h = record { x = omega (arith, ints, h.x); y = omega (arith, ints, h.y) }

moved_between : (l h e r m : ℤ) → pos 0 ≤ℤ r → l ≤ℤ (e -ℤ r) → (e +ℤ r) ≤ℤ h → unsigned_abs m ≤ unsigned_abs r → IsBetween l h (e +ℤ m)
moved_between l h e r m p a b k = record { low = omega (arith, ints, p, a, k); high = omega (arith, ints, p, b, k) }

still_between : (l h e r : ℤ) → pos 0 ≤ℤ r → l ≤ℤ (e -ℤ r) → (e +ℤ r) ≤ℤ h → IsBetween l h e
still_between l h e r p a b = record { low = omega (arith, ints, p, a); high = omega (arith, ints, p, b) }

-- the circles round both ends are in the box
record AreEndsIn (b : Box2) (radius : ℤ) (c : Core) : Type 0 where
  p : IsEndIn b radius c.p
  q : IsEndIn b radius c.q

shifted_in : (b : Box2) (radius : ℤ) (c : Core) (by : Vec2) → pos 0 ≤ℤ radius → AreEndsIn b radius c → IsShort radius by → IsLineIn b (shifted c by)
shifted_in b radius c by k e s = record {
  px = moved_between _ _ c.p.x radius by.x k e.p.left e.p.right s.x;
  py = moved_between _ _ c.p.y radius by.y k e.p.down e.p.up s.y;
  qx = moved_between _ _ c.q.x radius by.x k e.q.left e.q.right s.x;
  qy = moved_between _ _ c.q.y radius by.y k e.q.down e.q.up s.y;
}

core_in : (b : Box2) (radius : ℤ) (c : Core) → pos 0 ≤ℤ radius → AreEndsIn b radius c → IsLineIn b c
core_in b radius c k e = record {
  px = still_between _ _ c.p.x radius k e.p.left e.p.right;
  py = still_between _ _ c.p.y radius k e.p.down e.p.up;
  qx = still_between _ _ c.q.x radius k e.q.left e.q.right;
  qy = still_between _ _ c.q.y radius k e.q.down e.q.up;
}

-- ---- all hits

abbrev AllNear : Beam → Box2 → List (Option ℕ) → Type 0
AllNear r b hs = All (λ h. AreNear r b h) hs

either_all : (r : Beam) (b : Box2) (s : Bool) (gs hs : List (Option ℕ)) → AllNear r b gs → (s ≡ false → AllNear r b hs) → AllNear r b (cond s gs hs)
either_all r b true gs hs k l = k
either_all r b false gs hs k l = l refl

sides_near : (r : Beam) (b : Box2) (radius : ℤ) (c : Core) → IsBeam r → pos 0 ≤ℤ radius → AreEndsIn b radius c → is_point c ≡ false → AllNear r b (side_hits r c radius)
sides_near r b radius c h k e w =
    let P = λ (o : Option ℕ). AreNear r b o in
    let by = to_side_short c radius w in
    let one = All-cons P (side_hit r c) [] (side_hit_near r b c h (core_in b radius c k e)) (All-nil P) in
    let left = side_hit_near r b (shifted c (to_side c radius)) h (shifted_in b radius c (to_side c radius) k e by) in
    let right = side_hit_near r b (shifted c (opposite (to_side c radius))) h (shifted_in b radius c (opposite (to_side c radius)) k e (opposite_short radius (to_side c radius) by)) in
    either_all r b (int_eq radius (pos 0)) (side_hit r c ∷ []) (side_hit r (shifted c (to_side c radius)) ∷ side_hit r (shifted c (opposite (to_side c radius))) ∷ []) one
    (λ u. All-cons P (side_hit r (shifted c (to_side c radius))) (side_hit r (shifted c (opposite (to_side c radius))) ∷ []) left (All-cons P (side_hit r (shifted c (opposite (to_side c radius)))) [] right (All-nil P)))

others_near : (r : Beam) (b : Box2) (radius : ℤ) (c : Core) → IsBeam r → pos 0 ≤ℤ radius → AreEndsIn b radius c → AllNear r b (other_hits r c radius)
others_near r b radius c h k e =
    let P = λ (o : Option ℕ). AreNear r b o in
    either_all r b (is_point c) [] (end_hit r radius c.q ∷ side_hits r c radius) (All-nil P)
    (λ w. All-cons P (end_hit r radius c.q) (side_hits r c radius) (end_hit_near r b radius c.q h e.q k) (sides_near r b radius c h k e w))

least_near : (r : Beam) (b : Box2) (s t : ℕ) (u : Bool) → IsNearBox r b s → IsNearBox r b t → IsNearBox r b (cond u t s)
least_near r b s t true h k = k
least_near r b s t false h k = h

earlier_near : (r : Beam) (b : Box2) (g h : Option ℕ) → AreNear r b g → AreNear r b h → AreNear r b (earlier g h)
earlier_near r b None h k l = l
earlier_near r b (Some s) None k l = k
earlier_near r b (Some s) (Some t) k l = least_near r b s t (nat_lt t s) k l

earliest_near : (r : Beam) (b : Box2) (g : Option ℕ) (hs : List (Option ℕ)) → AreNear r b g → AllNear r b hs → AreNear r b (earliest g hs)
earliest_near r b g [] k l = k
earliest_near r b g (h ∷ hs) k l = earliest_near r b (earlier g h) hs (earlier_near r b g h k (All-head (λ o. AreNear r b o) h hs l)) (All-tail (λ o. AreNear r b o) h hs l)

-- ---- a start in the shape

cases_sign : (d : ℤ) → (pos 0 ≤ℤ d) ⊎ (d ≤ℤ pos 0)
cases_sign (pos n) = inl (omega (arith, ints))
cases_sign (negsuc n) = inr (omega (arith, ints))

no_way : (f : ℤ) → f *ℤ pos 0 ≡ pos 0
no_way f = ring (Mul (Num f) (Num (pos 0))) (Num (pos 0)) (omega arith)

close_by : (o m lo hi : ℤ) → m ≡ pos 0 → lo ≤ℤ o → o ≤ℤ hi → (pos 0 ≤ℤ (o *ℤ T +ℤ m -ℤ lo *ℤ T +ℤ D)) × (pos 0 ≤ℤ (hi *ℤ T +ℤ D -ℤ (o *ℤ T +ℤ m)))
close_by o m lo hi e h k = (omega (arith, ints, e, h, k), omega (arith, ints, e, h, k))

close_at : (o f lo hi : ℤ) → lo ≤ℤ o → o ≤ℤ hi → IsClose o f (pos 0) lo hi
close_at o f lo hi h k = let p = close_by o (f *ℤ pos 0) lo hi (no_way f) h k in record { left = p.0; right = p.1 }

-- on one axis: from the nearest point of the core to the start it is no further than the radius
start_close : (o f p q r lo hi radius : ℤ) → IsPart (q -ℤ p) r → lo ≤ℤ (p -ℤ radius) → (p +ℤ radius) ≤ℤ hi → lo ≤ℤ (q -ℤ radius) → (q +ℤ radius) ≤ℤ hi → pos 0 ≤ℤ radius → unsigned_abs (p +ℤ r -ℤ o) ≤ unsigned_abs radius → IsClose o f (pos 0) lo hi
start_close o f p q r lo hi radius i a b c d k n = elim (cases_sign (q -ℤ p)) [
  | inl up ↦ (let low : pos 0 ≤ℤ r = i.up up in close_at o f lo hi (omega (arith, ints, low, a, n, k)) (omega (arith, ints, low, i.small, up, d, n, k)))
  | inr down ↦ (let high : r ≤ℤ pos 0 = i.down down in close_at o f lo hi (omega (arith, ints, high, i.small, down, c, n, k)) (omega (arith, ints, high, b, n, k)))
]

span_most : (s r : ℤ) → pos 0 ≤ℤ s → int_le s r ≡ true → unsigned_abs s ≤ unsigned_abs r
span_most s r h k = grind (arith, ints, nat_tests)

record IsNearStart (radius : ℤ) (e : Vec2) (v : Vec2) : Type 0 where
  x : unsigned_abs (v.x -ℤ e.x) ≤ unsigned_abs radius
  y : unsigned_abs (v.y -ℤ e.y) ≤ unsigned_abs radius

inside_short : (c : Core) (radius : ℤ) (e : Vec2) → is_inside c radius e ≡ true → IsNearStart radius e (closest c e)
unfolding is_inside
inside_short c radius e h =
    let s = span_spans (minus (closest c e) e) in
    let most = span_most (span (minus (closest c e) e)) radius s.nonnegative h in
    record { x = omega (arith, s.covers.x, most); y = omega (arith, s.covers.y, most) }

inside_near : (r : Beam) (b : Box2) (radius : ℤ) (c : Core) → pos 0 ≤ℤ radius → AreEndsIn b radius c → is_inside c radius r.from ≡ true → IsNearBox r b 0
unfolding closest
inside_near r b radius c k e h =
    let t = share_of c r.from in
    let share = share_is c r.from in
    let near : IsNearStart radius r.from (closest c r.from) = inside_short c radius r.from h in
    record {
      x = start_close r.from.x r.along.x c.p.x c.q.x (rdiv ((c.q.x -ℤ c.p.x) *ℤ t) unit_length) b.lo.x b.hi.x radius (part_is (c.q.x -ℤ c.p.x) t share) e.p.left e.p.right e.q.left e.q.right k near.x;
      y = start_close r.from.y r.along.y c.p.y c.q.y (rdiv ((c.q.y -ℤ c.p.y) *ℤ t) unit_length) b.lo.y b.hi.y radius (part_is (c.q.y -ℤ c.p.y) t share) e.p.down e.p.up e.q.down e.q.up k near.y;
    }

core_ray_near : (r : Beam) (b : Box2) (radius : ℤ) (c : Core) → IsBeam r → pos 0 ≤ℤ radius → AreEndsIn b radius c → AreNear r b (core_ray r c radius)
unfolding core_ray
core_ray_near r b radius c h k e = elim (cases_Bool (is_inside c radius r.from)) [
  | inl i ↦ rw i (inside_near r b radius c k e i)
  | inr i ↦ rw i (earliest_near r b (end_hit r radius c.p) (other_hits r c radius) (end_hit_near r b radius c.p h e.p k) (others_near r b radius c h k e))
]

-- ---- the law

min_low : (x y r : ℤ) → (int_min x y -ℤ r) ≤ℤ (x -ℤ r)
min_low x y r = let m = min_is x y in omega (arith, ints, m.first)

min_low' : (x y r : ℤ) → (int_min x y -ℤ r) ≤ℤ (y -ℤ r)
min_low' x y r = let m = min_is x y in omega (arith, ints, m.second)

max_high : (x y r : ℤ) → (x +ℤ r) ≤ℤ (int_max x y +ℤ r)
max_high x y r = let m = max_is x y in omega (arith, ints, m.first)

max_high' : (x y r : ℤ) → (y +ℤ r) ≤ℤ (int_max x y +ℤ r)
max_high' x y r = let m = max_is x y in omega (arith, ints, m.second)

ends_in : (c : Core) (radius : ℤ) → AreEndsIn (grow (box_of_ends c) radius) radius c
unfolding box_of_ends
ends_in c radius = record {
  p = record { left = min_low c.p.x c.q.x radius; right = max_high c.p.x c.q.x radius; down = min_low c.p.y c.q.y radius; up = max_high c.p.y c.q.y radius };
  q = record { left = min_low' c.p.x c.q.x radius; right = max_high' c.p.x c.q.x radius; down = min_low' c.p.y c.q.y radius; up = max_high' c.p.y c.q.y radius };
}

in_left : (x m l : ℤ) → pos 0 ≤ℤ (x +ℤ m -ℤ l *ℤ T +ℤ D) → ((l -ℤ pos 64) *ℤ T) ≤ℤ (x +ℤ m)
in_left x m l h = omega (arith, ints, h)

in_right : (x m h : ℤ) → pos 0 ≤ℤ (h *ℤ T +ℤ D -ℤ (x +ℤ m)) → (x +ℤ m) ≤ℤ ((h +ℤ pos 64) *ℤ T)
in_right x m h k = omega (arith, ints, k)

is_in : (r : Beam) (b : Box2) (t : ℕ) → IsNearBox r b t → IsInAt r (pos t) whole (grow b RAY_SLACK)
is_in r b t h = record {
  left = in_left (r.from.x *ℤ T) (r.along.x *ℤ pos t) b.lo.x h.x.left;
  right = in_right (r.from.x *ℤ T) (r.along.x *ℤ pos t) b.hi.x h.x.right;
  down = in_left (r.from.y *ℤ T) (r.along.y *ℤ pos t) b.lo.y h.y.left;
  up = in_right (r.from.y *ℤ T) (r.along.y *ℤ pos t) b.hi.y h.y.right;
}

pub hit_is_in : (r : Beam) (radius : ℤ) (c : Core) (t : ℕ) → IsBeam r → pos 0 ≤ℤ radius → core_ray r c radius ≡ Some t → IsInAt r (pos t) whole (grow (grow (box_of_ends c) radius) RAY_SLACK)
hit_is_in r radius c t h k e =
    let b = grow (box_of_ends c) radius in
    let near : AreNear r b (core_ray r c radius) = core_ray_near r b radius c h k (ends_in c radius) in
    is_in r b t (subst (λ (o : Option ℕ). AreNear r b o) e near)
