-- What a source of constraints tells: those of a sleeping island, and those of a mover.
use Rattle.std.specs.Prelude.{◌≡◌, ◌==◌, ℕ, Bool, false, List, filter, Option, Some, None}
use Rattle.graph_colours.specs.declared.member.Member.{Member}
use Rattle.islands.specs.Labels.{Labels}
use Rattle.sleep_wake.specs.Waking.{has_mover_of}
use Rattle.sleep_wake.specs.Sleeping.{name_at}

-- ---- by sleeping island

-- there is a name, and it is this one
abbrev pub is_named : ℕ → Option ℕ → Bool
is_named name None = false
is_named name (Some other) = other == name

-- the constraint's first mover sleeps under the name
abbrev pub is_asleep_under : {C : Type 0} → (ℕ → Option ℕ) → ℕ → Member C → Bool
is_asleep_under names name m = is_named name (names m.movers.first)

abbrev pub asleep_ties : {C : Type 0} → (ℕ → Option ℕ) → ℕ → List (Member C) → List (Member C)
asleep_ties names name ties = filter (is_asleep_under names name) ties

-- ---- by mover

-- the mover in the slot is the constraint's first
abbrev pub is_first : {C : Type 0} → ℕ → Member C → Bool
is_first slot m = m.movers.first == slot

abbrev pub first_ties : {C : Type 0} → ℕ → List (Member C) → List (Member C)
first_ties slot ties = filter (is_first slot) ties

-- ---- what a wake asks for

-- Of each island that sleeps the source tells the constraints as they are now, ascending as they do. It may know others
-- that have come or gone since, but none of a sleeping island.
pub record TellsAsleep {C : Type 0} (names : ℕ → Option ℕ) (told : List (Member C)) (labels : Labels) (ties : List (Member C)) : Type 0 where
  pub each : (name : ℕ) → name_at labels name ≡ Some name → asleep_ties names name told ≡ filter (has_mover_of labels name) ties
