-- Trusted: The first and the second point of a contact.
use Rattle.std.specs.Prelude.{ℕ, ◌==◌, nat_lt, Bool, false, ◌&&◌, ◌||◌, cond, ℤ, pos, int_lt, int_le, ◌+ℤ◌, ◌*ℤ◌, List, ◌∷◌, Option, option_map, unwrap_or, map, filter}
use Rattle.std.specs.Ordering.{int_eq}
use Rattle.fixed_geom.specs.Options.{unbeaten}
use Rattle.fixed_geom.specs.Vectors.{dot, minus}
use Rattle.fixed_geom.specs.declared.vectors.Vec2.{Vec2}
use Rattle.shapes.specs.declared.limits.TheConstants.{TOLERANCE}
use Rattle.shapes.specs.declared.pose.Pose.{Pose}
use Rattle.shapes.specs.declared.shape.Shape.{Shape}
use Rattle.shapes.specs.declared.spots.Pair.{Pair}
use Rattle.shapes.specs.declared.spots.Spot.{Spot}
use Rattle.shapes.specs.declared.choice.Chosen.{Chosen}
use Rattle.shapes.specs.declared.points.Point.{Point}
use Rattle.shapes.specs.declared.points.Manifold.{Manifold}
use Rattle.shapes.specs.Shapes.{radius_of}
use Rattle.shapes.specs.Poses.{core_of}
use Rattle.shapes.specs.Spots.{pair_of, of_a, others, spot_of}

-- the spots of all candidates
abbrev pub first_spot : Pair → Spot
first_spot s = spot_of s (of_a s 0 s.a.p)

abbrev pub spots : Pair → List Spot
spots s = first_spot s ∷ map (spot_of s) (others s)

-- ---- the least of a list

-- the distance d and the number n come before the distance e and the number m
unfoldable pub is_before : ℤ → ℕ → ℤ → ℕ → Bool
is_before d n e m = int_lt d e || (int_eq d e && nat_lt n m)

-- the spot t has the lesser distance, or the lesser number at the same distance
abbrev pub is_sooner : Spot → Spot → Bool
is_sooner t u = is_before t.dist t.candidate u.dist u.candidate

-- none of the list is sooner, and of equal ones it is the first
abbrev pub least_of : List Spot → Option Spot
least_of ts = unbeaten is_sooner ts

-- ---- the second point

-- two positions are more than the tolerance apart
unfoldable pub is_far : Vec2 → Vec2 → Bool
is_far a b = int_lt (TOLERANCE *ℤ TOLERANCE) (dot (minus a b) (minus a b))

-- t is another candidate than the first, about as near, and overlaps
unfoldable pub is_rival : Spot → Spot → Bool
is_rival first t = cond (t.candidate == first.candidate) false (cond (int_lt (first.dist +ℤ TOLERANCE) t.dist) false (int_le t.separation (pos 0)))

-- t may be the second point beside the first
unfoldable pub is_second : Spot → Spot → Bool
is_second first t = cond (is_rival first t) (is_far t.at first.at) false

-- ---- the manifold

-- a spot as the two bodies keep it: by its offsets from their centres
abbrev pub point_of : Vec2 → Vec2 → Spot → Point
point_of center_a center_b t = record { normal = t.normal; separation = t.separation; ra = minus t.at center_a; rb = minus t.at center_b; candidate = t.candidate }

unfoldable pub nearest_spot : Pair → Spot
nearest_spot s = unwrap_or (least_of (spots s)) (first_spot s)

-- the spots that may be the second point
abbrev pub allowed_spots : Pair → List Spot
allowed_spots s = filter (is_second (nearest_spot s)) (spots s)

-- the spots of the first and the second point
unfoldable pub chosen_spots : Pair → Chosen
chosen_spots s = record { first = nearest_spot s; second = least_of (allowed_spots s) }

abbrev pub manifold_between : Pair → Vec2 → Vec2 → Manifold
manifold_between s center_a center_b = record {
  first = point_of center_a center_b (chosen_spots s).first;
  second = option_map (point_of center_a center_b) (chosen_spots s).second;
}

-- two shapes of bodies with the poses o and p
abbrev pub posed_pair : Shape → Pose → Shape → Pose → Pair
posed_pair a o b p = pair_of (core_of a o) (radius_of a) (core_of b p) (radius_of b)

abbrev pub manifold_of : Shape → Pose → Shape → Pose → Manifold
manifold_of a o b p = manifold_between (posed_pair a o b p) o.x p.x
