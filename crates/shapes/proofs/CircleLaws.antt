-- The manifold of two circles: one point, that of their centres.
use Rattle.std.proofs.Common.{◌≡◌, true, false, ◌&&◌, ℤ, pos, ◌-ℤ◌, ◌≤ℤ◌, unsigned_abs, ◌∷◌, [], Option, Some, None, option_map, arith, refl, sym, ap, ◌∙◌}
use Rattle.std.specs.Ordering.{int_eq}
use Rattle.std.proofs.lemmas.Int.{ints}
use Rattle.fixed_geom.specs.Vectors.{minus, span}
use Rattle.fixed_geom.specs.declared.limits.TheConstants.{MAX_OFFSET}
use Rattle.fixed_geom.specs.declared.vectors.Vec2.{Vec2}
use Rattle.shapes.specs.declared.choice.Chosen.{Chosen}
use Rattle.shapes.specs.declared.discs.Disc.{Disc}
use Rattle.shapes.specs.declared.points.Manifold.{Manifold}
use Rattle.shapes.specs.declared.pose.Pose.{Pose}
use Rattle.shapes.specs.declared.shape.Shape.{Shape}
use Rattle.shapes.specs.declared.shape.Shape.TheVariants.{Circle, Capsule, Segment}
use Rattle.shapes.specs.declared.spots.Pair.{Pair}
use Rattle.shapes.specs.Choice.{chosen_from}
use Rattle.shapes.specs.Cores.{is_point, cores_cross}
use Rattle.shapes.specs.Discs.{disc_of, disc_pair, disc_point, point_core}
use Rattle.shapes.specs.Manifolds.{chosen_spots, manifold_between, manifold_of, posed_pair, point_of}
use Rattle.shapes.specs.PointsWithin.{IsPointWithin}
use Rattle.shapes.specs.Poses.{IsPose, transformed}
use Rattle.shapes.specs.Shapes.{IsShape}
use Rattle.shapes.specs.Spots.{measured, of_a, of_b, others, separation_of, spot_of}
use Rattle.shapes.proofs.ChoiceLemmas.{chosen_are}
use Rattle.shapes.proofs.PointLemmas.{both, closest_point, points_are}
use Rattle.shapes.proofs.TouchLemmas.{manifold_has_touching}

equal_parts : (x y : ℤ) → (int_eq x x && int_eq y y) ≡ true
equal_parts x y = grind (arith, ints)

point_is : (v : Vec2) → is_point (point_core v) ≡ true
unfolding is_point
point_is v = equal_parts v.x v.y

no_cross : (v w : Vec2) → cores_cross (point_core v) (point_core w) ≡ false
unfolding cores_cross
no_cross v w = rw (point_is v) refl

others_of : (s : Pair) → is_point s.a ≡ true → is_point s.b ≡ true → others s ≡ of_b s 2 s.b.p ∷ []
unfolding others
others_of s a b = rw (a, b) refl

chosen_of : (s : Pair) → is_point s.a ≡ true → is_point s.b ≡ true → chosen_spots s ≡ both (spot_of s (of_a s 0 s.a.p)) None
chosen_of s a b =
    sym (chosen_are s)
    ∙ ap (chosen_from s (of_a s 0 s.a.p)) (others_of s a b)
    ∙ sym (points_are s a b)

discs_chosen : (a b : Disc) → chosen_spots (disc_pair a b) ≡ both (spot_of (disc_pair a b) (measured 0 a.center b.center)) None
discs_chosen a b =
    let s = disc_pair a b in
    chosen_of s (point_is a.center) (point_is b.center)
    ∙ ap (λ (v : Vec2). both (spot_of s (measured 0 a.center v)) None) (closest_point s.b a.center (point_is b.center))

-- the manifold that a choice makes
abbrev made_of : Vec2 → Vec2 → Chosen → Manifold
made_of x y k = record { first = point_of x y k.first; second = option_map (point_of x y) k.second }

-- the manifold of one point
abbrev pub alone_in : Disc → Disc → Vec2 → Vec2 → Manifold
alone_in a b x y = record { first = disc_point a b x y; second = None }

manifold_of_pair : (a b : Disc) (x y : Vec2) → manifold_between (disc_pair a b) x y ≡ alone_in a b x y
unfolding disc_point
manifold_of_pair a b x y = ap (made_of x y) (discs_chosen a b)

-- a circle of a body in the world
abbrev circle_in : Vec2 → ℤ → Pose → Disc
circle_in v r o = record { center = transformed o v; radius = r }

circles_pair : (c d : Vec2) (r t : ℤ) (o p : Pose) → posed_pair (Circle c r) o (Circle d t) p ≡ disc_pair (circle_in c r o) (circle_in d t p)
circles_pair c d r t o p =
    ap (λ x. record { a = point_core (transformed o c); b = point_core (transformed p d); radius_a = r; radius_b = t; crossing = x }) (no_cross (transformed o c) (transformed p d))

circles_manifold : (c d : Vec2) (r t : ℤ) (o p : Pose) → manifold_of (Circle c r) o (Circle d t) p ≡ alone_in (circle_in c r o) (circle_in d t p) o.x p.x
circles_manifold c d r t o p =
    ap (λ (s : Pair). manifold_between s o.x p.x) (circles_pair c d r t o p)
    ∙ manifold_of_pair (circle_in c r o) (circle_in d t p) o.x p.x

-- the manifold of two circles has the point of their centres alone
pub manifold_of_discs : (s t : Shape) (o p : Pose) (a b : Disc) → disc_of s o ≡ Some a → disc_of t p ≡ Some b → manifold_of s o t p ≡ alone_in a b o.x p.x
manifold_of_discs (Circle c r) (Circle d k) o p a b e f =
    let ea : circle_in c r o ≡ a = cc in
    let eb : circle_in d k p ≡ b = cc in
    rw (← ea, ← eb) (circles_manifold c d r k o p)
manifold_of_discs (Circle c r) (Capsule u v k) o p a b e f = cc
manifold_of_discs (Circle c r) (Segment u v) o p a b e f = cc
manifold_of_discs (Capsule u v k) t o p a b e f = cc
manifold_of_discs (Segment u v) t o p a b e f = cc

-- the point of two circles that touch is near the centres of their bodies
pub discs_touching : (s t : Shape) (o p : Pose) (a b : Disc) → IsShape s → IsPose o → IsShape t → IsPose p → disc_of s o ≡ Some a → disc_of t p ≡ Some b → (disc_point a b o.x p.x).separation ≤ℤ pos 0 → IsPointWithin (unsigned_abs MAX_OFFSET) (disc_point a b o.x p.x)
discs_touching s t o p a b hs ho ht hp e f =
    (manifold_has_touching s o t p (alone_in a b o.x p.x) (sym (manifold_of_discs s t o p a b e f)) hs ho ht hp).first

-- how far two circles are apart
pub disc_gap : (a b : Disc) (x y : Vec2) → (disc_point a b x y).separation ≡ span (minus b.center a.center) -ℤ a.radius -ℤ b.radius
unfolding disc_point spot_of separation_of
disc_gap a b x y = refl
