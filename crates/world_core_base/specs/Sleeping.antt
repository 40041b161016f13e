-- Items of one kind that sleep, each under a name.
use Rattle.std.specs.Prelude.{◌≡◌, ℕ, ◌≤◌, ◌==◌, cond, List, length, Option, Some, None, Contains}
use Rattle.std.specs.List.{slice_index_or}
use Rattle.packed_sets.specs.Linked.{Linked}
use Rattle.packed_sets.specs.Packs.{list_at}

-- by number the name under which each item sleeps, if it does; and by name the items that sleep under it, in the order
-- in which they are told
pub record Sleeping : Type 0 where
  pub names : List (Option ℕ)
  pub sets : List (List ℕ)

-- the name under which an item sleeps
abbrev pub sleep_at : List (Option ℕ) → ℕ → Option ℕ
sleep_at names id = slice_index_or names id None

-- what slept under the name is awake, and everything else is as it was
abbrev pub woken : ℕ → Option ℕ → Option ℕ
woken name None = None
woken name (Some other) = cond (other == name) None (Some other)

-- what is kept: each item that sleeps is in the set of its name, and no other item is in a set
pub record IsSleeping (names : List (Option ℕ)) (l : Linked) : Type 0 where
  pub there : (id name : ℕ) → sleep_at names id ≡ Some name → Contains (list_at l.sets name) id
  pub known : (id name : ℕ) → Contains (list_at l.sets name) id → sleep_at names id ≡ Some name
  pub long : length names ≤ l.ids
