-- Trusted: Candidates for the points of a contact, and what each makes of the contact.
use Rattle.std.specs.Prelude.{ℕ, Bool, cond, ℤ, pos, neg_ℤ, ◌+ℤ◌, ◌-ℤ◌, List, [], ◌∷◌}
use Rattle.std.specs.Ordering.{int_eq}
use Rattle.fixed_geom.specs.Numbers.{fdiv}
use Rattle.fixed_geom.specs.Vectors.{unit_length, minus, moved, opposite, span, unit}
use Rattle.fixed_geom.specs.declared.vectors.Vec2.{Vec2}
use Rattle.shapes.specs.declared.pose.Core.{Core}
use Rattle.shapes.specs.declared.spots.Pair.{Pair}
use Rattle.shapes.specs.declared.spots.Candidate.{Candidate}
use Rattle.shapes.specs.declared.spots.Spot.{Spot}
use Rattle.shapes.specs.Cores.{is_point, way_of, closest, cores_cross}

abbrev pub pair_of : Core → ℤ → Core → ℤ → Pair
pair_of a radius_a b radius_b = record { a = a; b = b; radius_a = radius_a; radius_b = radius_b; crossing = cores_cross a b }

-- ---- candidates

abbrev pub measured : ℕ → Vec2 → Vec2 → Candidate
measured n a b = record { number = n; a = a; b = b; dist = span (minus b a) }

-- an end of the first core against the second
abbrev pub of_a : Pair → ℕ → Vec2 → Candidate
of_a s n e = measured n e (closest s.b e)

-- an end of the second core against the first
abbrev pub of_b : Pair → ℕ → Vec2 → Candidate
of_b s n e = measured n (closest s.a e) e

-- the candidates but the first; a point has only its first end
unfoldable pub others : Pair → List Candidate
others s = cond (is_point s.a)
    (cond (is_point s.b) (of_b s 2 s.b.p ∷ []) (of_b s 2 s.b.p ∷ of_b s 3 s.b.q ∷ []))
    (cond (is_point s.b) (of_a s 1 s.a.q ∷ of_b s 2 s.b.p ∷ []) (of_a s 1 s.a.q ∷ of_b s 2 s.b.p ∷ of_b s 3 s.b.q ∷ []))

-- ---- the contact point of a candidate

-- v turned to the left by a quarter
abbrev pub square_to : Vec2 → Vec2
square_to v = record { x = neg_ℤ v.y; y = v.x }

-- the unit vector square to a core
unfoldable pub across : Core → Vec2
across c = unit (square_to (way_of c))

abbrev pub up : Vec2
up = record { x = pos 0; y = unit_length }

-- the normal where the two points of a candidate are one
unfoldable pub flat_normal : Core → Core → Vec2
flat_normal a b = cond (is_point b) (cond (is_point a) up (across a)) (across b)

unfoldable pub normal_of : Pair → Candidate → Vec2
normal_of s c = cond (int_eq c.dist (pos 0)) (flat_normal s.a s.b)
    (cond s.crossing (opposite (unit (minus c.b c.a))) (unit (minus c.b c.a)))

abbrev pub flipped : Bool → ℤ → ℤ
flipped flip x = cond flip (neg_ℤ x) x

unfoldable pub separation_of : Pair → Candidate → ℤ
separation_of s c = flipped s.crossing c.dist -ℤ s.radius_a -ℤ s.radius_b

-- halfway between the two surfaces
unfoldable pub position_of : Pair → Candidate → Vec2
position_of s c = moved c.a (normal_of s c) (s.radius_a +ℤ fdiv (separation_of s c) (pos 2))

unfoldable pub spot_of : Pair → Candidate → Spot
spot_of s c = record { candidate = c.number; dist = c.dist; normal = normal_of s c; separation = separation_of s c; at = position_of s c }
