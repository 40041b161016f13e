-- Items that wake or fall asleep as their bodies have, one after the other: with one that wakes all of its set do.
use Rattle.std.specs.Prelude.{◌≡◌, ◌⊎◌, ◌<◌, ℕ, List, length, map, Option, Some, None, slice_set}
use Rattle.world_core_base.specs.Sleeping.{sleep_at, woken}

-- ---- one item

-- an item put under the name under which it is to sleep, if it is to
abbrev pub placed : Option ℕ → ℕ → List (Option ℕ) → List (Option ℕ)
placed None id names = names
placed (Some name) id names = slice_set names id (Some name)

-- all that sleeps under the name wakes, unless what is in its set is to sleep on
abbrev pub woken_unless : ℕ → Option ℕ → List (Option ℕ) → List (Option ℕ)
woken_unless name None names = map (woken name) names
woken_unless name (Some other) names = names

-- one that doesn't sleep is put under its name, if it is to sleep, and with one that is to wake all of its set do
abbrev pub followed_from : Option ℕ → Option ℕ → ℕ → List (Option ℕ) → List (Option ℕ)
followed_from None now id names = placed now id names
followed_from (Some name) now id names = woken_unless name now names

unfoldable pub followed : Option ℕ → ℕ → List (Option ℕ) → List (Option ℕ)
followed now id names = followed_from (sleep_at names id) now id names

-- ---- many items

-- Whoever sleeps sleeps on or is awake, and those of one set do so together. Nobody falls asleep into a set that wakes.
-- There is room for whoever sleeps, and for all names.
pub record CanFollow (old now : ℕ → Option ℕ) (items names : ℕ) : Type 0 where
  pub keeps : (id name : ℕ) → old id ≡ Some name → (now id ≡ Some name) ⊎ (now id ≡ None)
  pub whole : (id other name : ℕ) → old id ≡ Some name → now other ≡ Some name → now id ≡ Some name
  pub named : (id name : ℕ) → now id ≡ Some name → name < names
  pub below : (id name : ℕ) → now id ≡ Some name → id < items

-- once some items have followed: each sleeps as it did or as it is to, and those that are done as they are to
pub record HaveFollowed (now : ℕ → Option ℕ) (Done : ℕ → Type 0) (old new : List (Option ℕ)) : Type 0 where
  pub each : (id : ℕ) → (sleep_at new id ≡ sleep_at old id) ⊎ (sleep_at new id ≡ now id)
  pub done : (id : ℕ) → Done id → sleep_at new id ≡ now id
  pub long : length new ≡ length old
