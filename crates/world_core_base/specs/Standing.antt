-- Bodies before and after what leaves each in its slot, enabled or not as it was, and a mover or none.
use Rattle.std.specs.Prelude.{◌≡◌, ℕ, Bool, false, List, Option, Some, None}
use Rattle.plain_world.specs.declared.body.Body.{Body}
use Rattle.plain_world.specs.Slots.{body_at}
use Rattle.plain_world.specs.Bodies.{moves}

abbrev pub is_enabled_in : Option Body → Bool
is_enabled_in None = false
is_enabled_in (Some b) = b.enabled

-- the same slots have enabled bodies, and movers
pub record HaveSameStanding (old new : List (Option Body)) : Type 0 where
  pub enabled : (slot : ℕ) → is_enabled_in (body_at new slot) ≡ is_enabled_in (body_at old slot)
  pub movers : (slot : ℕ) → moves new slot ≡ moves old slot
