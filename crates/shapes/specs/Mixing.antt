-- Trusted: The friction and the restitution of two shapes together.
use Rattle.std.specs.Prelude.{ℤ, ◌*ℤ◌}
use Rattle.std.specs.Int.{int_max}
use Rattle.fixed_geom.specs.Numbers.{isqrt}

abbrev pub mixed_friction : ℤ → ℤ → ℤ
mixed_friction a b = isqrt (a *ℤ b)

abbrev pub mixed_restitution : ℤ → ℤ → ℤ
mixed_restitution a b = int_max a b
