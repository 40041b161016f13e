-- Trusted: Where a ray meets a shape: the least of its hits, in 2^24ths of the ray's way.
use Rattle.std.specs.Prelude.{◌≡◌, ℕ, ◌^◌, Bool, true, false, cond, All, ◌⊎◌, nat_lt, ℤ, pos, neg_ℤ, ◌-ℤ◌, ◌*ℤ◌, int_lt, int_le, unsigned_abs, List, [], ◌∷◌, Option, None, Some}
use Rattle.std.specs.Ordering.{int_eq}
use Rattle.std.specs.Int.{int_max}
use Rattle.fixed_geom.specs.Numbers.{rdiv, fdiv, isqrt}
use Rattle.fixed_geom.specs.Vectors.{IsWithin, unit_length, dot, cross, plus, minus, opposite, span}
use Rattle.fixed_geom.specs.declared.limits.TheConstants.{MAX_POSITION}
use Rattle.fixed_geom.specs.declared.vectors.Vec2.{Vec2}
use Rattle.shapes.specs.declared.pose.Pose.{Pose}
use Rattle.shapes.specs.declared.pose.Core.{Core}
use Rattle.shapes.specs.declared.shape.Shape.{Shape}
use Rattle.shapes.specs.declared.beam.Beam.{Beam}
use Rattle.shapes.specs.declared.beam.TheConstants.{WHOLE}
use Rattle.shapes.specs.declared.limits.TheConstants.{MAX_RAY}
use Rattle.shapes.specs.Shapes.{radius_of}
use Rattle.shapes.specs.Poses.{core_of}
use Rattle.shapes.specs.Cores.{is_point, closest}
use Rattle.shapes.specs.Spots.{across}

-- where a ray is in the world
pub record IsBeam (r : Beam) : Type 0 where
  pub from : IsWithin (unsigned_abs MAX_POSITION) r.from
  pub along : IsWithin (unsigned_abs MAX_RAY) r.along

-- the whole way
abbrev pub whole : ℤ
whole = WHOLE

-- a hit at t, unless that is beyond the way's end
abbrev pub fraction : ℤ → Option ℕ
fraction t = cond (int_lt whole t) None (Some (unsigned_abs t))

-- ---- an end of a core, as a circle

-- how far the line of a way with this square, that passes the centre at `off`, is inside the circle;
-- below zero where it misses the circle
abbrev pub room_of : ℤ → ℤ → ℤ → ℤ
room_of radius square off = radius *ℤ radius *ℤ square -ℤ off *ℤ off

abbrev pub entered : ℤ → ℤ → ℤ → Option ℕ
entered ahead room square = fraction (int_max (fdiv ((ahead -ℤ isqrt room) *ℤ whole) square) (pos 0))

unfoldable pub circle_hit : ℤ → ℤ → ℤ → ℤ → Option ℕ
circle_hit ahead off radius square =
    cond (int_le ahead (pos 0)) None (cond (int_lt (room_of radius square off) (pos 0)) None (entered ahead (room_of radius square off) square))

-- the hit on the circle round an end: only one that lies ahead of the start
unfoldable pub end_hit : Beam → ℤ → Vec2 → Option ℕ
end_hit r radius e = circle_hit (dot (minus e r.from) r.along) (cross (minus e r.from) r.along) radius (dot r.along r.along)

-- ---- a side of a shape

-- at s / den of the way and z / den of the side
unfoldable pub crossed : ℤ → ℤ → ℤ → Option ℕ
crossed den s z = cond (int_le den (pos 0)) None
    (cond (int_lt s (pos 0)) None (cond (int_lt den s) None
    (cond (int_lt z (pos 0)) None (cond (int_lt den z) None
    (Some (unsigned_abs (fdiv (s *ℤ whole) den)))))))

unfoldable pub crossed_from_either_side : ℤ → ℤ → ℤ → Option ℕ
crossed_from_either_side den s z = cond (int_lt den (pos 0)) (crossed (neg_ℤ den) (neg_ℤ s) (neg_ℤ z)) (crossed den s z)

-- the hit on the way from one end to the other
unfoldable pub side_hit : Beam → Core → Option ℕ
side_hit r c = crossed_from_either_side (cross r.along (minus c.q c.p)) (cross (minus c.p r.from) (minus c.q c.p)) (cross (minus c.p r.from) r.along)

abbrev pub shifted : Core → Vec2 → Core
shifted c by = record { p = plus c.p by; q = plus c.q by }

-- from the core to its left side
unfoldable pub to_side : Core → ℤ → Vec2
to_side c radius = record { x = rdiv (radius *ℤ (across c).x) unit_length; y = rdiv (radius *ℤ (across c).y) unit_length }

abbrev pub side_hits : Beam → Core → ℤ → List (Option ℕ)
side_hits r c radius = cond (int_eq radius (pos 0)) (side_hit r c ∷ []) (side_hit r (shifted c (to_side c radius)) ∷ side_hit r (shifted c (opposite (to_side c radius))) ∷ [])

-- ---- all hits

abbrev pub earlier : Option ℕ → Option ℕ → Option ℕ
earlier None h = h
earlier (Some s) None = Some s
earlier (Some s) (Some t) = Some (cond (nat_lt t s) t s)

-- the least of a hit and a list
abbrev pub earliest : Option ℕ → List (Option ℕ) → Option ℕ
earliest h [] = h
earliest h (g ∷ gs) = earliest (earlier h g) gs

-- the hits but the one on the first end; a point has no other
abbrev pub other_hits : Beam → Core → ℤ → List (Option ℕ)
other_hits r c radius = cond (is_point c) [] (end_hit r radius c.q ∷ side_hits r c radius)

abbrev pub hits : Beam → Core → ℤ → List (Option ℕ)
hits r c radius = end_hit r radius c.p ∷ other_hits r c radius

-- a hit at a lesser fraction; any hit comes before none
abbrev pub is_earlier : Option ℕ → Option ℕ → Bool
is_earlier None h = false
is_earlier (Some s) None = true
is_earlier (Some s) (Some t) = nat_lt s t

abbrev pub IsAmongHits : Option ℕ → List (Option ℕ) → Type 0
IsAmongHits h [] = ⊥
IsAmongHits h (g ∷ gs) = (h ≡ g) ⊎ IsAmongHits h gs

-- h is one of the hits, and none of them is earlier
pub record IsEarliest (h : Option ℕ) (hs : List (Option ℕ)) : Type 0 where
  pub among : IsAmongHits h hs
  pub none_earlier : All (λ g. is_earlier g h ≡ false) hs

-- the start lies in the shape
unfoldable pub is_inside : Core → ℤ → Vec2 → Bool
is_inside c radius e = int_le (span (minus (closest c e) e)) radius

unfoldable pub core_ray : Beam → Core → ℤ → Option ℕ
core_ray r c radius = cond (is_inside c radius r.from) (Some 0) (earliest (end_hit r radius c.p) (other_hits r c radius))

abbrev pub beam_of : Vec2 → Vec2 → Beam
beam_of from along = record { from = from; along = along }

abbrev pub ray_of : Shape → Pose → Vec2 → Vec2 → Option ℕ
ray_of s o from along = core_ray (beam_of from along) (core_of s o) (radius_of s)
