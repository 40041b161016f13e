-- Bodies that are told in some slots alone.
use Rattle.std.specs.Prelude.{◌≡◌, ◌⊎◌, ◌<◌, ℕ, List, Contains, length, Option, Some, None, option_map}
use Rattle.islands.specs.Labels.{Labels, label_at, sleeping_name}
use Rattle.plain_world.specs.declared.body.Body.{Body}
use Rattle.plain_world.specs.Sleep.{told_body}
use Rattle.plain_world.specs.Slots.{body_at}
use Rattle.world_core_base.specs.Asleep.{asleep_in}

-- in each slot beside these the body, if there is one, stays as it is when it is told
abbrev pub AreToldBeside : List ℕ → Labels → List (Option Body) → Type 0
AreToldBeside slots labels bodies = (slot : ℕ) → (Contains slots slot → ⊥) → option_map (told_body (label_at labels slot)) (body_at bodies slot) ≡ body_at bodies slot

-- labels by which whoever sleeps sleeps on or is awake, those that sleep under one name do so together, and nobody
-- falls asleep under the name of who wakes
pub record KeepTogether (labels : Labels) (bodies : List (Option Body)) : Type 0 where
  pub keeps : (slot name : ℕ) → asleep_in (body_at bodies slot) ≡ Some name → (sleeping_name (label_at labels slot) ≡ Some name) ⊎ (sleeping_name (label_at labels slot) ≡ None)
  pub whole : (slot other name : ℕ) → asleep_in (body_at bodies slot) ≡ Some name → sleeping_name (label_at labels other) ≡ Some name → sleeping_name (label_at labels slot) ≡ Some name

-- and no island of a body is named after a slot beyond them all
pub record KeepSets (labels : Labels) (bodies : List (Option Body)) : Type 0 where
  pub together : KeepTogether labels bodies
  pub named : (slot name : ℕ) → slot < length bodies → sleeping_name (label_at labels slot) ≡ Some name → name < length bodies
