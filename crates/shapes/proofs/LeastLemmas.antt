-- The least of a list is one of the list, and none of the list is less.
use Rattle.std.proofs.Common.{◌≡◌, ℕ, true, false, cond, ℤ, List, [], ◌∷◌, Contains, Option, Some, IfSome, IfNone, map, option_map, ◌⊎◌, inl, inr, refl, sym, ap, subst, ◌∙◌, arith}
use Rattle.std.specs.Prelude.{unwrap_or}
use Rattle.std.proofs.lemmas.Int.{ints}
use Rattle.std.proofs.lemmas.Bool.{cases_Bool}
use Rattle.std.proofs.lemmas.Bool.Decides.{nat_tests}
use Rattle.std.proofs.lemmas.List.Elements.{All-nil, All-cons, All-head, All-tail, All-weaker, All-contains_itself}
use Rattle.fixed_geom.specs.declared.vectors.Vec2.{Vec2}
use Rattle.fixed_geom.proofs.UnbeatenLemmas.{best_of, IsStrict, unbeaten_is_best}
use Rattle.shapes.specs.declared.pose.Pose.{Pose}
use Rattle.shapes.specs.declared.shape.Shape.{Shape}
use Rattle.shapes.specs.declared.spots.Pair.{Pair}
use Rattle.shapes.specs.declared.spots.Spot.{Spot}
use Rattle.shapes.specs.declared.points.Manifold.{Manifold}
use Rattle.shapes.specs.Manifolds.{is_before, is_sooner, least_of, point_of, nearest_spot, spots, first_spot, allowed_spots, chosen_spots, posed_pair, manifold_of}
use Rattle.shapes.specs.PointsWithin.{IsAmong, IsLeast, IsLeastPoint}
use Rattle.shapes.specs.Spots.{spot_of, others}

before_trans : (d e f : ℤ) (n m k : ℕ) → is_before e m d n ≡ false → is_before f k e m ≡ false → is_before f k d n ≡ false
unfolding is_before
before_trans d e f n m k h l = grind (arith, ints, nat_tests)

before_self : (d : ℤ) (n : ℕ) → is_before d n d n ≡ false
unfolding is_before
before_self d n = grind (arith, ints, nat_tests)

before_one : (d e : ℤ) (n m : ℕ) → is_before d n e m ≡ true → is_before e m d n ≡ false
unfolding is_before
before_one d e n m h = grind (arith, ints, nat_tests)

-- ---- the least is the best of those seen one after another

is_strict : IsStrict (λ (t : Spot). Unit {0}) is_sooner
is_strict = record {
  one_way = λ x y hx hy h. before_one x.dist y.dist x.candidate y.candidate h;
  through = λ x y z hx hy hz h k. before_trans z.dist y.dist x.dist z.candidate y.candidate x.candidate k h;
}

pub least_is_best : (t : Spot) (ts : List Spot) → least_of (t ∷ ts) ≡ Some (best_of is_sooner t ts)
least_is_best t ts = unbeaten_is_best (λ u. Unit {0}) is_sooner t ts is_strict tt (All-weaker (Contains ts) (λ u. Unit {0}) (λ u h. tt) ts (All-contains_itself ts))

pub nearest_is_best : (s : Pair) → nearest_spot s ≡ best_of is_sooner (first_spot s) (map (spot_of s) (others s))
unfolding nearest_spot
nearest_is_best s = ap (λ (o : Option Spot). unwrap_or o (first_spot s)) (least_is_best (first_spot s) (map (spot_of s) (others s)))

-- ---- none is less

record IsLesser (b c l : Spot) : Type 0 where
  among : (l ≡ b) ⊎ (l ≡ c)
  first : is_sooner b l ≡ false
  second : is_sooner c l ≡ false

lesser_is : (b c : Spot) → IsLesser b c (cond (is_sooner c b) c b)
lesser_is b c = elim (cases_Bool (is_sooner c b)) [
  | inl h ↦ rw h (record { among = inr refl; first = before_one c.dist b.dist c.candidate b.candidate h; second = before_self c.dist c.candidate })
  | inr h ↦ rw h (record { among = inl refl; first = before_self b.dist b.candidate; second = h })
]

among_of : (b c m l : Spot) (cs : List Spot) → (l ≡ b) ⊎ (l ≡ c) → IsAmong m (l ∷ cs) → IsAmong m (b ∷ c ∷ cs)
among_of b c m l cs (inl e) (inl h) = inl (h ∙ e)
among_of b c m l cs (inr e) (inl h) = inr (inl (h ∙ e))
among_of b c m l cs e (inr h) = inr (inr h)

least_is : (b : Spot) (cs : List Spot) → IsLeast (best_of is_sooner b cs) (b ∷ cs)
least_is b [] = record { among = inl refl; none_before = All-cons (λ d. is_sooner d b ≡ false) b [] (before_self b.dist b.candidate) (All-nil (λ d. is_sooner d b ≡ false)) }
least_is b (c ∷ cs) =
    let l : Spot = cond (is_sooner c b) c b in
    let m = best_of is_sooner l cs in
    let rest = least_is l cs in
    let chosen = lesser_is b c in
    let head : is_sooner l m ≡ false = All-head (λ d. is_sooner d m ≡ false) l cs rest.none_before in
    record {
      among = among_of b c m l cs chosen.among rest.among;
      none_before = All-cons (λ d. is_sooner d m ≡ false) b (c ∷ cs) (before_trans m.dist l.dist b.dist m.candidate l.candidate b.candidate head chosen.first)
          (All-cons (λ d. is_sooner d m ≡ false) c cs (before_trans m.dist l.dist c.dist m.candidate l.candidate c.candidate head chosen.second)
          (All-tail (λ d. is_sooner d m ≡ false) l cs rest.none_before));
    }

record IsLeastOf (ca cb : Vec2) (ts : List Spot) (second : Option Spot) : Type 0 where
  some : IfSome (option_map (point_of ca cb) second) (λ p. IsLeastPoint ca cb ts p)
  none : IfNone (option_map (point_of ca cb) second) (ts ≡ [])

least_of_is : (ca cb : Vec2) (ts : List Spot) → IsLeastOf ca cb ts (least_of ts)
least_of_is ca cb [] = record { some = tt; none = refl }
least_of_is ca cb (t ∷ ts) =
    subst (λ (o : Option Spot). IsLeastOf ca cb (t ∷ ts) o) (sym (least_is_best t ts))
    (record { some = record { spot = best_of is_sooner t ts; least = least_is t ts; is = refl }; none = tt })

pub record HasLeast (a : Shape) (o : Pose) (b : Shape) (p : Pose) (m : Manifold) : Type 0 where
  pub first : IsLeastPoint o.x p.x (spots (posed_pair a o b p)) m.first
  pub second : IfSome m.second (λ q. IsLeastPoint o.x p.x (allowed_spots (posed_pair a o b p)) q)
  pub alone : IfNone m.second (allowed_spots (posed_pair a o b p) ≡ [])

has_least : (a : Shape) (o : Pose) (b : Shape) (p : Pose) → HasLeast a o b p (manifold_of a o b p)
unfolding chosen_spots
has_least a o b p =
    let s = posed_pair a o b p in
    let rest = least_of_is o.x p.x (allowed_spots s) in
    record {
      first = record { spot = nearest_spot s; least = subst (λ (t : Spot). IsLeast t (spots s)) (sym (nearest_is_best s)) (least_is (first_spot s) (map (spot_of s) (others s))); is = refl };
      second = rest.some;
      alone = rest.none;
    }

pub manifold_has_least : (a : Shape) (o : Pose) (b : Shape) (p : Pose) (m : Manifold) → m ≡ manifold_of a o b p → HasLeast a o b p m
manifold_has_least a o b p m e = rw e (has_least a o b p)
