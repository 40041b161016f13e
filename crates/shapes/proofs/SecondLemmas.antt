-- The second point of a contact.
use Rattle.std.proofs.Common.{◌≡◌, ◌==◌, int_lt, int_le, Bool, true, false, cond, ℤ, pos, ◌+ℤ◌, ◌≤ℤ◌, List, [], ◌∷◌, All, Option, Some, None, IfSome, option_map, inl, inr, arith, refl}
use Rattle.std.specs.List.{filter}
use Rattle.std.proofs.lemmas.Int.{ints}
use Rattle.std.proofs.lemmas.Bool.{cases_Bool, false≢true}
use Rattle.std.proofs.lemmas.Bool.Decides.{nat_tests}
use Rattle.std.proofs.lemmas.List.Elements.{All-nil, All-cons}
use Rattle.fixed_geom.specs.declared.vectors.Vec2.{Vec2}
use Rattle.shapes.specs.declared.pose.Pose.{Pose}
use Rattle.shapes.specs.declared.shape.Shape.{Shape}
use Rattle.shapes.specs.declared.spots.Spot.{Spot}
use Rattle.shapes.specs.declared.points.Manifold.{Manifold}
use Rattle.shapes.specs.Manifolds.{least_of, is_second, nearest_spot, chosen_spots, spots, allowed_spots, point_of, posed_pair, manifold_of, is_rival, is_far}
use Rattle.shapes.specs.PointsWithin.{IsSecond}
use Rattle.shapes.proofs.SpotLists.{least_all}

allowed_other : (first t : Spot) → is_second first t ≡ true → (t.candidate == first.candidate) ≡ false
unfolding is_second is_rival
allowed_other first t h = elim (cases_Bool (t.candidate == first.candidate)) [
  | inl e ↦ absurd (false≢true (rw e at h))
  | inr e ↦ e
]

passed : (a b c d : Bool) → cond (cond a false (cond b false c)) d false ≡ true → c ≡ true
passed true b c d h = absurd (false≢true h)
passed false true c d h = absurd (false≢true h)
passed false false true d h = refl
passed false false false d h = absurd (false≢true h)

not_above : (x : ℤ) → int_le x (pos 0) ≡ true → x ≤ℤ pos 0
not_above x h = grind (arith, ints, nat_tests)

allowed_overlap : (first t : Spot) → is_second first t ≡ true → t.separation ≤ℤ pos 0
unfolding is_second is_rival
allowed_overlap first t h =
    not_above t.separation (passed (t.candidate == first.candidate) (int_lt (first.dist +ℤ pos 20972) t.dist) (int_le t.separation (pos 0)) (is_far t.at first.at) h)

kept_passes : (ok : Spot → Bool) (b : Bool) (t : Spot) (ts : List Spot) → ok t ≡ b → All (λ u. ok u ≡ true) ts → All (λ u. ok u ≡ true) (cond b (t ∷ ts) ts)
kept_passes ok true t ts e h = All-cons (λ u. ok u ≡ true) t ts e h
kept_passes ok false t ts e h = h

filter_passes : (ok : Spot → Bool) (ts : List Spot) → All (λ u. ok u ≡ true) (filter ok ts)
filter_passes ok [] = All-nil (λ u. ok u ≡ true)
filter_passes ok (t ∷ ts) = kept_passes ok (ok t) t (filter ok ts) refl (filter_passes ok ts)

second_is : (x y : Vec2) (first : Spot) (ts : List Spot) → All (λ u. is_second first u ≡ true) ts → IfSome (option_map (point_of x y) (least_of ts)) (λ p. IsSecond (point_of x y first) p)
second_is x y first ts h = by (least_of ts) (least_all (λ u. is_second first u ≡ true) ts h)
  where
    by : (o : Option Spot) → IfSome o (λ u. is_second first u ≡ true) → IfSome (option_map (point_of x y) o) (λ p. IsSecond (point_of x y first) p)
    by None allowed = tt
    by (Some t) allowed = record { other = allowed_other first t allowed; overlap = allowed_overlap first t allowed }

has_second : (a : Shape) (o : Pose) (b : Shape) (p : Pose) → IfSome (manifold_of a o b p).second (λ q. IsSecond (manifold_of a o b p).first q)
unfolding chosen_spots
has_second a o b p =
    let s = posed_pair a o b p in
    second_is o.x p.x (nearest_spot s) (allowed_spots s) (filter_passes (is_second (nearest_spot s)) (spots s))

pub manifold_has_second : (a : Shape) (o : Pose) (b : Shape) (p : Pose) (m : Manifold) → m ≡ manifold_of a o b p → IfSome m.second (λ q. IsSecond m.first q)
manifold_has_second a o b p m e = rw e (has_second a o b p)
