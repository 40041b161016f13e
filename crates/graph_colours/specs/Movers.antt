-- Trusted: The movers of a constraint, and which constraints share one.
use Rattle.std.specs.Prelude.{ℕ, ◌<◌, ◌==◌, ◌||◌, Bool, false, IfSome}
use Rattle.std.specs.Option.{option_map_or}
use Rattle.graph_colours.specs.declared.member.Movers.{Movers}

-- the mover in this slot is one of the constraint's
abbrev pub has_mover : Movers → ℕ → Bool
has_mover m slot = m.first == slot || option_map_or (λ other. other == slot) m.second false

-- the two constraints have a mover in common
abbrev pub shares : Movers → Movers → Bool
shares a b = has_mover a b.first || option_map_or (has_mover a) b.second false

-- the movers' slots are below the bound
pub record AreBelow (slots : ℕ) (m : Movers) : Type 0 where
  pub first : m.first < slots
  pub second : IfSome m.second (λ slot. slot < slots)
