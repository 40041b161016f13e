-- Trusted: Which regions a world may be asked about.
use Rattle.std.specs.Prelude.{Bool, ◌&&◌, int_le, unsigned_abs}
use Rattle.fixed_geom.specs.Vectors.{is_within}
use Rattle.fixed_geom.specs.declared.boxes.Box2.{Box2}
use Rattle.fixed_geom.specs.declared.vectors.Vec2.{Vec2}
use Rattle.fixed_geom.specs.declared.limits.TheConstants.{MAX_CORNER}

-- neither coordinate of the first is above that of the second
abbrev pub is_ordered : Vec2 → Vec2 → Bool
is_ordered lo hi = int_le lo.x hi.x && int_le lo.y hi.y

-- its corners are within their limit, and in order
abbrev pub is_region : Box2 → Bool
is_region b = is_within (unsigned_abs MAX_CORNER) b.lo && (is_within (unsigned_abs MAX_CORNER) b.hi && is_ordered b.lo b.hi)
