-- Trusted: The friction and the restitution of a shape, and of two shapes together.
use Rattle.std.specs.Prelude.{pos, ◌≤◌, ◌≤ℤ◌, unsigned_abs}
use Rattle.shapes.specs.Mixing.{mixed_friction, mixed_restitution}
use Rattle.contacts_base.specs.declared.limits.TheConstants.{MAX_FRICTION, MAX_RESTITUTION}
use Rattle.contacts_base.specs.declared.surface.Surface.{Surface}

-- both are in their ranges
pub record IsSurface (s : Surface) : Type 0 where
  pub friction : pos 0 ≤ℤ s.friction
  pub friction_small : unsigned_abs s.friction ≤ MAX_FRICTION
  pub restitution : pos 0 ≤ℤ s.restitution
  pub restitution_small : unsigned_abs s.restitution ≤ MAX_RESTITUTION

abbrev pub mixed : Surface → Surface → Surface
mixed a b = record { friction = mixed_friction a.friction b.friction; restitution = mixed_restitution a.restitution b.restitution }
