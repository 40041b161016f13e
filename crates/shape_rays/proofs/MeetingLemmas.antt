-- A box is reached if a point of the way lies in it, or no further from it than the slack.
use Rattle.std.proofs.Common.{◌≡◌, ℕ, suc, true, ℤ, pos, negsuc, ◌+ℤ◌, ◌-ℤ◌, ◌*ℤ◌, ◌≤ℤ◌, ◌<ℤ◌, ◌⊎◌, inl, inr, arith, sym, subst}
use Rattle.std.specs.Int.{int_min, int_max}
use Rattle.std.proofs.lemmas.Int.{ints}
use Rattle.fixed_geom.specs.Boxes.{grow}
use Rattle.fixed_geom.specs.Vectors.{minus}
use Rattle.fixed_geom.specs.declared.boxes.Box2.{Box2}
use Rattle.fixed_geom.specs.declared.vectors.Vec2.{Vec2}
use Rattle.shapes.specs.declared.beam.Beam.{Beam}
use Rattle.shape_rays.specs.declared.boxes.TheConstants.{RAY_SLACK}
use Rattle.shape_rays.specs.Reach.{IsInAt, lowest, highest, box_round, common, reaches}
use Rattle.shape_rays.proofs.PartLemmas.{max_is, min_is}
use Rattle.shape_rays.proofs.RingLemmas.{Num, Add, Sub, Mul, ring}
use Rattle.shape_rays.proofs.SignLemmas.{times, sum, over_sum, minus_both, by_value}
use Rattle.shape_rays.proofs.WayLemmas.{upward, downward, IsWide, wide_to, reached_to}

-- n / d is a part of the whole
pub record IsPartOf (n d : ℤ) : Type 0 where
  pub some : pos 0 <ℤ d
  pub low : pos 0 ≤ℤ n
  pub high : n ≤ℤ d

-- ---- along one axis

-- a is no further from l to h than the slack, all times d
record IsNearBetween (l h d a : ℤ) : Type 0 where
  low : pos 0 ≤ℤ (a -ℤ l *ℤ d +ℤ pos 64 *ℤ d)
  high : pos 0 ≤ℤ (h *ℤ d +ℤ pos 64 *ℤ d -ℤ a)

-- k times twice one of the two
at_high : (l h d a k : ℤ) → ((h -ℤ l +ℤ pos 128) *ℤ k +ℤ (l +ℤ h) *ℤ k) *ℤ d -ℤ pos 2 *ℤ (a *ℤ k) ≡ (pos 2 *ℤ k) *ℤ (h *ℤ d +ℤ pos 64 *ℤ d -ℤ a)
at_high l h d a k =
    ring (Sub (Mul (Add (Mul (Add (Sub (Num h) (Num l)) (Num (pos 128))) (Num k)) (Mul (Add (Num l) (Num h)) (Num k))) (Num d)) (Mul (Num (pos 2)) (Mul (Num a) (Num k))))
    (Mul (Mul (Num (pos 2)) (Num k)) (Sub (Add (Mul (Num h) (Num d)) (Mul (Num (pos 64)) (Num d))) (Num a))) (omega arith)

at_high' : (l h d a m : ℤ) → ((h -ℤ l +ℤ pos 128) *ℤ m -ℤ (l +ℤ h) *ℤ (pos 0 -ℤ m)) *ℤ d +ℤ pos 2 *ℤ (a *ℤ (pos 0 -ℤ m)) ≡ (pos 2 *ℤ m) *ℤ (h *ℤ d +ℤ pos 64 *ℤ d -ℤ a)
at_high' l h d a m =
    ring (Add (Mul (Sub (Mul (Add (Sub (Num h) (Num l)) (Num (pos 128))) (Num m)) (Mul (Add (Num l) (Num h)) (Sub (Num (pos 0)) (Num m)))) (Num d)) (Mul (Num (pos 2)) (Mul (Num a) (Sub (Num (pos 0)) (Num m)))))
    (Mul (Mul (Num (pos 2)) (Num m)) (Sub (Add (Mul (Num h) (Num d)) (Mul (Num (pos 64)) (Num d))) (Num a))) (omega arith)

at_low : (l h d a k : ℤ) → ((h -ℤ l +ℤ pos 128) *ℤ k -ℤ (l +ℤ h) *ℤ k) *ℤ d +ℤ pos 2 *ℤ (a *ℤ k) ≡ (pos 2 *ℤ k) *ℤ (a -ℤ l *ℤ d +ℤ pos 64 *ℤ d)
at_low l h d a k =
    ring (Add (Mul (Sub (Mul (Add (Sub (Num h) (Num l)) (Num (pos 128))) (Num k)) (Mul (Add (Num l) (Num h)) (Num k))) (Num d)) (Mul (Num (pos 2)) (Mul (Num a) (Num k))))
    (Mul (Mul (Num (pos 2)) (Num k)) (Add (Sub (Num a) (Mul (Num l) (Num d))) (Mul (Num (pos 64)) (Num d)))) (omega arith)

at_low' : (l h d a m : ℤ) → ((h -ℤ l +ℤ pos 128) *ℤ m +ℤ (l +ℤ h) *ℤ (pos 0 -ℤ m)) *ℤ d -ℤ pos 2 *ℤ (a *ℤ (pos 0 -ℤ m)) ≡ (pos 2 *ℤ m) *ℤ (a -ℤ l *ℤ d +ℤ pos 64 *ℤ d)
at_low' l h d a m =
    ring (Sub (Mul (Add (Mul (Add (Sub (Num h) (Num l)) (Num (pos 128))) (Num m)) (Mul (Add (Num l) (Num h)) (Sub (Num (pos 0)) (Num m)))) (Num d)) (Mul (Num (pos 2)) (Mul (Num a) (Sub (Num (pos 0)) (Num m)))))
    (Mul (Mul (Num (pos 2)) (Num m)) (Add (Sub (Num a) (Mul (Num l) (Num d))) (Mul (Num (pos 64)) (Num d)))) (omega arith)

twice : (n : ℕ) → pos 0 ≤ℤ (pos 2 *ℤ pos n)
twice n = omega (arith, ints)

is_minus : (n : ℕ) → negsuc n ≡ pos 0 -ℤ pos (suc n)
is_minus n = omega (arith, ints)

upward_reaches : (l h d a k : ℤ) → IsNearBetween l h d a → pos 0 ≤ℤ (upward l h k *ℤ d -ℤ pos 2 *ℤ (a *ℤ k))
upward_reaches l h d a (pos n) i = by_value _ _ (at_high l h d a (pos n)) (times _ _ (twice n) i.high)
upward_reaches l h d a (negsuc n) i =
    subst (λ (z : ℤ). pos 0 ≤ℤ (((h -ℤ l +ℤ pos 128) *ℤ pos (suc n) +ℤ (l +ℤ h) *ℤ z) *ℤ d -ℤ pos 2 *ℤ (a *ℤ z))) (sym (is_minus n))
    (by_value _ _ (at_low' l h d a (pos (suc n))) (times _ _ (twice (suc n)) i.low))

downward_reaches : (l h d a k : ℤ) → IsNearBetween l h d a → pos 0 ≤ℤ (downward l h k *ℤ d +ℤ pos 2 *ℤ (a *ℤ k))
downward_reaches l h d a (pos n) i = by_value _ _ (at_low l h d a (pos n)) (times _ _ (twice n) i.low)
downward_reaches l h d a (negsuc n) i =
    subst (λ (z : ℤ). pos 0 ≤ℤ (((h -ℤ l +ℤ pos 128) *ℤ pos (suc n) -ℤ (l +ℤ h) *ℤ z) *ℤ d +ℤ pos 2 *ℤ (a *ℤ z))) (sym (is_minus n))
    (by_value _ _ (at_high' l h d a (pos (suc n))) (times _ _ (twice (suc n)) i.high))

-- ---- both axes

above_of : (u v d f g n : ℤ) → (u +ℤ v) *ℤ d ≡ (u *ℤ d -ℤ pos 2 *ℤ ((f *ℤ n) *ℤ g)) +ℤ (v *ℤ d +ℤ pos 2 *ℤ ((g *ℤ n) *ℤ f))
above_of u v d f g n =
    ring (Mul (Add (Num u) (Num v)) (Num d)) (Add (Sub (Mul (Num u) (Num d)) (Mul (Num (pos 2)) (Mul (Mul (Num f) (Num n)) (Num g)))) (Add (Mul (Num v) (Num d)) (Mul (Num (pos 2)) (Mul (Mul (Num g) (Num n)) (Num f))))) (omega arith)

below_of : (u v d f g n : ℤ) → (u +ℤ v) *ℤ d ≡ (u *ℤ d +ℤ pos 2 *ℤ ((f *ℤ n) *ℤ g)) +ℤ (v *ℤ d -ℤ pos 2 *ℤ ((g *ℤ n) *ℤ f))
below_of u v d f g n =
    ring (Mul (Add (Num u) (Num v)) (Num d)) (Add (Add (Mul (Num u) (Num d)) (Mul (Num (pos 2)) (Mul (Mul (Num f) (Num n)) (Num g)))) (Sub (Mul (Num v) (Num d)) (Mul (Num (pos 2)) (Mul (Mul (Num g) (Num n)) (Num f))))) (omega arith)

wide_at : (low high f : Vec2) (n d : ℤ) → pos 0 <ℤ d → IsNearBetween low.x high.x d (f.x *ℤ n) → IsNearBetween low.y high.y d (f.y *ℤ n) → IsWide low high f
wide_at low high f n d p x y = record {
  above = over_sum _ d _ _ p (above_of (upward low.x high.x f.y) (downward low.y high.y f.x) d f.x f.y n) (upward_reaches low.x high.x d (f.x *ℤ n) f.y x) (downward_reaches low.y high.y d (f.y *ℤ n) f.x y);
  below = over_sum _ d _ _ p (below_of (downward low.x high.x f.y) (upward low.y high.y f.x) d f.x f.y n) (downward_reaches low.x high.x d (f.x *ℤ n) f.y x) (upward_reaches low.y high.y d (f.y *ℤ n) f.x y);
}

-- ---- the box round the way, on one axis

-- the point at n / d of the way from o along f is from lo to hi, but for the slack
record IsAt (o f n d lo hi : ℤ) : Type 0 where
  low : pos 0 ≤ℤ (o *ℤ d +ℤ f *ℤ n -ℤ (lo -ℤ pos 64) *ℤ d)
  high : pos 0 ≤ℤ ((hi +ℤ pos 64) *ℤ d -ℤ (o *ℤ d +ℤ f *ℤ n))

to_le : (x y : ℤ) → pos 0 ≤ℤ (y -ℤ x) → x ≤ℤ y
to_le x y h = omega (arith, ints, h)

most_of : (m f d n : ℤ) → m *ℤ d -ℤ f *ℤ n ≡ m *ℤ (d -ℤ n) +ℤ (m -ℤ f) *ℤ n
most_of m f d n = ring (Sub (Mul (Num m) (Num d)) (Mul (Num f) (Num n))) (Add (Mul (Num m) (Sub (Num d) (Num n))) (Mul (Sub (Num m) (Num f)) (Num n))) (omega arith)

-- the way is no further than its greatest number
at_most_of : (m f d n : ℤ) → IsPartOf n d → pos 0 ≤ℤ m → f ≤ℤ m → pos 0 ≤ℤ (m *ℤ d -ℤ f *ℤ n)
at_most_of m f d n h a b = by_value _ _ (most_of m f d n) (sum _ _ (times m (d -ℤ n) a (minus_both d n h.high)) (times (m -ℤ f) n (minus_both m f b) h.low))

least_of : (m f d n : ℤ) → f *ℤ n -ℤ m *ℤ d ≡ (pos 0 -ℤ m) *ℤ (d -ℤ n) +ℤ (f -ℤ m) *ℤ n
least_of m f d n = ring (Sub (Mul (Num f) (Num n)) (Mul (Num m) (Num d))) (Add (Mul (Sub (Num (pos 0)) (Num m)) (Sub (Num d) (Num n))) (Mul (Sub (Num f) (Num m)) (Num n))) (omega arith)

at_least_of : (m f d n : ℤ) → IsPartOf n d → m ≤ℤ pos 0 → m ≤ℤ f → pos 0 ≤ℤ (f *ℤ n -ℤ m *ℤ d)
at_least_of m f d n h a b = by_value _ _ (least_of m f d n) (sum _ _ (times (pos 0 -ℤ m) (d -ℤ n) (minus_both (pos 0) m a) (minus_both d n h.high)) (times (f -ℤ m) n (minus_both f m b) h.low))

over_high : (o m lo d f n : ℤ) → (o +ℤ m +ℤ pos 64 -ℤ lo) *ℤ d ≡ (o *ℤ d +ℤ f *ℤ n -ℤ (lo -ℤ pos 64) *ℤ d) +ℤ (m *ℤ d -ℤ f *ℤ n)
over_high o m lo d f n =
    ring (Mul (Sub (Add (Add (Num o) (Num m)) (Num (pos 64))) (Num lo)) (Num d))
    (Add (Sub (Add (Mul (Num o) (Num d)) (Mul (Num f) (Num n))) (Mul (Sub (Num lo) (Num (pos 64))) (Num d))) (Sub (Mul (Num m) (Num d)) (Mul (Num f) (Num n)))) (omega arith)

over_low : (o m hi d f n : ℤ) → (hi -ℤ (o +ℤ m -ℤ pos 64)) *ℤ d ≡ ((hi +ℤ pos 64) *ℤ d -ℤ (o *ℤ d +ℤ f *ℤ n)) +ℤ (f *ℤ n -ℤ m *ℤ d)
over_low o m hi d f n =
    ring (Mul (Sub (Num hi) (Sub (Add (Num o) (Num m)) (Num (pos 64)))) (Num d))
    (Add (Sub (Mul (Add (Num hi) (Num (pos 64))) (Num d)) (Add (Mul (Num o) (Num d)) (Mul (Num f) (Num n)))) (Sub (Mul (Num f) (Num n)) (Mul (Num m) (Num d)))) (omega arith)

below_highest : (o f n d lo hi : ℤ) → IsPartOf n d → IsAt o f n d lo hi → lo ≤ℤ highest o f
below_highest o f n d lo hi h i =
    let m = max_is f (pos 0) in
    to_le _ _ (over_sum _ d _ _ h.some (over_high o (int_max f (pos 0)) lo d f n) i.low (at_most_of (int_max f (pos 0)) f d n h m.second m.first))

above_lowest : (o f n d lo hi : ℤ) → IsPartOf n d → IsAt o f n d lo hi → lowest o f ≤ℤ hi
above_lowest o f n d lo hi h i =
    let m = min_is f (pos 0) in
    to_le _ _ (over_sum _ d _ _ h.some (over_low o (int_min f (pos 0)) hi d f n) i.high (at_least_of (int_min f (pos 0)) f d n h m.second m.first))

-- ---- what the box has in common with the one round the way

low_here : (o f n d lo : ℤ) → f *ℤ n -ℤ (lo -ℤ o) *ℤ d +ℤ pos 64 *ℤ d ≡ o *ℤ d +ℤ f *ℤ n -ℤ (lo -ℤ pos 64) *ℤ d
low_here o f n d lo =
    ring (Add (Sub (Mul (Num f) (Num n)) (Mul (Sub (Num lo) (Num o)) (Num d))) (Mul (Num (pos 64)) (Num d)))
    (Sub (Add (Mul (Num o) (Num d)) (Mul (Num f) (Num n))) (Mul (Sub (Num lo) (Num (pos 64))) (Num d))) (omega arith)

low_there : (o f n d m : ℤ) → f *ℤ n -ℤ (o +ℤ m -ℤ pos 64 -ℤ o) *ℤ d +ℤ pos 64 *ℤ d ≡ (f *ℤ n -ℤ m *ℤ d) +ℤ pos 128 *ℤ d
low_there o f n d m =
    ring (Add (Sub (Mul (Num f) (Num n)) (Mul (Sub (Sub (Add (Num o) (Num m)) (Num (pos 64))) (Num o)) (Num d))) (Mul (Num (pos 64)) (Num d)))
    (Add (Sub (Mul (Num f) (Num n)) (Mul (Num m) (Num d))) (Mul (Num (pos 128)) (Num d))) (omega arith)

high_here : (o f n d hi : ℤ) → (hi -ℤ o) *ℤ d +ℤ pos 64 *ℤ d -ℤ f *ℤ n ≡ (hi +ℤ pos 64) *ℤ d -ℤ (o *ℤ d +ℤ f *ℤ n)
high_here o f n d hi =
    ring (Sub (Add (Mul (Sub (Num hi) (Num o)) (Num d)) (Mul (Num (pos 64)) (Num d))) (Mul (Num f) (Num n)))
    (Sub (Mul (Add (Num hi) (Num (pos 64))) (Num d)) (Add (Mul (Num o) (Num d)) (Mul (Num f) (Num n)))) (omega arith)

high_there : (o f n d m : ℤ) → (o +ℤ m +ℤ pos 64 -ℤ o) *ℤ d +ℤ pos 64 *ℤ d -ℤ f *ℤ n ≡ (m *ℤ d -ℤ f *ℤ n) +ℤ pos 128 *ℤ d
high_there o f n d m =
    ring (Sub (Add (Mul (Sub (Add (Add (Num o) (Num m)) (Num (pos 64))) (Num o)) (Num d)) (Mul (Num (pos 64)) (Num d))) (Mul (Num f) (Num n)))
    (Add (Sub (Mul (Num m) (Num d)) (Mul (Num f) (Num n))) (Mul (Num (pos 128)) (Num d))) (omega arith)

some_more : (d : ℤ) → pos 0 <ℤ d → pos 0 ≤ℤ (pos 128 *ℤ d)
some_more d h = omega (arith, ints, h)

one_of : (x y m : ℤ) (P : ℤ → Type 0) → (m ≡ x) ⊎ (m ≡ y) → P x → P y → P m
one_of x y m P (inl e) p q = subst (λ (z : ℤ). P z) (sym e) p
one_of x y m P (inr e) p q = subst (λ (z : ℤ). P z) (sym e) q

near_between : (o f n d lo hi : ℤ) → IsPartOf n d → IsAt o f n d lo hi → IsNearBetween (int_max lo (lowest o f) -ℤ o) (int_min hi (highest o f) -ℤ o) d (f *ℤ n)
near_between o f n d lo hi h i =
    let least = min_is f (pos 0) in
    let most = max_is f (pos 0) in
    record {
      low = one_of lo (lowest o f) (int_max lo (lowest o f)) (λ m. pos 0 ≤ℤ (f *ℤ n -ℤ (m -ℤ o) *ℤ d +ℤ pos 64 *ℤ d)) (max_is lo (lowest o f)).one
          (by_value _ _ (low_here o f n d lo) i.low)
          (by_value _ _ (low_there o f n d (int_min f (pos 0))) (sum _ _ (at_least_of (int_min f (pos 0)) f d n h least.second least.first) (some_more d h.some)));
      high = one_of hi (highest o f) (int_min hi (highest o f)) (λ m. pos 0 ≤ℤ ((m -ℤ o) *ℤ d +ℤ pos 64 *ℤ d -ℤ f *ℤ n)) (min_is hi (highest o f)).one
          (by_value _ _ (high_here o f n d hi) i.high)
          (by_value _ _ (high_there o f n d (int_max f (pos 0))) (sum _ _ (at_most_of (int_max f (pos 0)) f d n h most.second most.first) (some_more d h.some)));
    }

-- ---- the law

at_of : (o f n d lo hi : ℤ) → ((lo -ℤ pos 64) *ℤ d) ≤ℤ (o *ℤ d +ℤ f *ℤ n) → (o *ℤ d +ℤ f *ℤ n) ≤ℤ ((hi +ℤ pos 64) *ℤ d) → IsAt o f n d lo hi
at_of o f n d lo hi h k = record { low = minus_both _ _ h; high = minus_both _ _ k }

pub met_is_reached : (r : Beam) (n d : ℤ) (b : Box2) → IsPartOf n d → IsInAt r n d (grow b RAY_SLACK) → reaches r b ≡ true
met_is_reached r n d b h i =
    let x = at_of r.from.x r.along.x n d b.lo.x b.hi.x i.left i.right in
    let y = at_of r.from.y r.along.y n d b.lo.y b.hi.y i.down i.up in
    let a = box_round r in
    reached_to r b (record {
      over = record {
        left = below_highest r.from.x r.along.x n d b.lo.x b.hi.x h x;
        right = above_lowest r.from.x r.along.x n d b.lo.x b.hi.x h x;
        down = below_highest r.from.y r.along.y n d b.lo.y b.hi.y h y;
        up = above_lowest r.from.y r.along.y n d b.lo.y b.hi.y h y;
      };
      crossed = wide_to (minus (common b a).lo r.from) (minus (common b a).hi r.from) r.along
          (wide_at (minus (common b a).lo r.from) (minus (common b a).hi r.from) r.along n d h.some
          (near_between r.from.x r.along.x n d b.lo.x b.hi.x h x) (near_between r.from.y r.along.y n d b.lo.y b.hi.y h y));
    })
