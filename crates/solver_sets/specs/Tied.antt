-- Trusted: How bodies go with the labels of the islands.
use Rattle.std.specs.Prelude.{◌≡◌, ℕ, List, Option, is_some}
use Rattle.islands.specs.Labels.{Labels, label_at}
use Rattle.plain_world.specs.declared.body.Body.{Body}
use Rattle.plain_world.specs.Bodies.{moves}

-- just the movers have labels
abbrev pub AreTied : List (Option Body) → Labels → Type 0
AreTied bodies labels = (slot : ℕ) → is_some (label_at labels slot) ≡ moves bodies slot
