-- Inner: what holds of the candidates and the points of a contact: which spots they are of, and how large their numbers
-- are.
use Rattle.std.specs.Prelude.{◌≡◌, ℕ, ◌==◌, false, ℤ, pos, ◌≤ℤ◌, unsigned_abs, ◌≤◌, List, [], ◌∷◌, All, ◌⊎◌, ◌^◌}
use Rattle.fixed_geom.specs.Vectors.{IsWithin, minus, span}
use Rattle.fixed_geom.specs.declared.vectors.TheConstants.{UNIT}
use Rattle.fixed_geom.specs.declared.vectors.Vec2.{Vec2}
use Rattle.shapes.specs.declared.spots.Spot.{Spot}
use Rattle.shapes.specs.declared.points.Point.{Point}
use Rattle.shapes.specs.Manifolds.{is_sooner, point_of}
use Rattle.shapes.specs.declared.limits.TheConstants.{MAX_RADIUS}
use Rattle.shapes.specs.declared.spots.Pair.{Pair}
use Rattle.shapes.specs.declared.spots.Candidate.{Candidate}
use Rattle.shapes.specs.Poses.{IsPosed}

-- ---- the least of a list

abbrev pub IsAmong : Spot → List Spot → Type 0
IsAmong t [] = ⊥
IsAmong t (u ∷ us) = (t ≡ u) ⊎ IsAmong t us

-- the spot t is one of the list, and none of the list is less
pub record IsLeast (t : Spot) (ts : List Spot) : Type 0 where
  pub among : IsAmong t ts
  pub none_before : All (λ u. is_sooner u t ≡ false) ts

-- ---- the points

-- the point is of one of four candidates, its normal is no longer than one in each part, and its
-- other numbers are within k
pub record IsPointWithin (k : ℕ) (p : Point) : Type 0 where
  pub candidate : p.candidate ≤ 3
  pub normal : IsWithin (unsigned_abs UNIT) p.normal
  pub separation : unsigned_abs p.separation ≤ k
  pub ra : IsWithin k p.ra
  pub rb : IsWithin k p.rb

-- a second point is of another candidate than the first, and the shapes overlap there
pub record IsSecond (first p : Point) : Type 0 where
  pub other : (p.candidate == first.candidate) ≡ false
  pub overlap : p.separation ≤ℤ pos 0

-- the point p is what the bodies keep of the least spot of a list
pub record IsLeastPoint (center_a center_b : Vec2) (ts : List Spot) (p : Point) : Type 0 where
  pub spot : Spot
  pub least : IsLeast spot ts
  pub is : p ≡ point_of center_a center_b spot

-- ---- the candidates

pub record IsPair (s : Pair) : Type 0 where
  pub a : IsPosed s.a
  pub b : IsPosed s.b
  pub radius_a : unsigned_abs s.radius_a ≤ unsigned_abs MAX_RADIUS
  pub radius_b : unsigned_abs s.radius_b ≤ unsigned_abs MAX_RADIUS

pub record IsCandidate (c : Candidate) : Type 0 where
  pub a : IsWithin (2 ^ 39) c.a
  pub b : IsWithin (2 ^ 39) c.b
  pub dist : c.dist ≡ span (minus c.b c.a)
  pub nonnegative : pos 0 ≤ℤ c.dist
  pub covers : IsWithin (unsigned_abs c.dist) (minus c.b c.a)
  pub small : unsigned_abs c.dist ≤ 2 ^ 41

pub record IsSpot (t : Spot) : Type 0 where
  pub at : IsWithin (2 ^ 44) t.at
  pub dist : unsigned_abs t.dist ≤ 2 ^ 41
