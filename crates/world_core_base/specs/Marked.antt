-- Slots that are marked: those whose body has come or gone, or shows the broad phase other shapes than when the marks
-- were last taken away.
use Rattle.std.specs.Prelude.{◌≡◌, ℕ, Bool, true, false, List, Option, Some, None, slice_index_or}
use Rattle.plain_world.specs.declared.body.Body.{Body}
use Rattle.plain_world.specs.Shown.{IsShownAlike}
use Rattle.plain_world.specs.Slots.{body_at}
use Rattle.world_core_base.specs.Awake.{Bodies}

-- no body is there, or two that show the broad phase the same shapes
abbrev pub AreShownAlike : Option Body → Option Body → Type 0
AreShownAlike None None = Unit {0}
AreShownAlike None (Some c) = ⊥
AreShownAlike (Some b) None = ⊥
AreShownAlike (Some b) (Some c) = IsShownAlike b c

-- the slot wasn't marked, and what is in it shows the same shapes as before
pub record IsUnchangedAt (bodies : List (Option Body)) (marks : List Bool) (later : List (Option Body)) (slot : ℕ) : Type 0 where
  pub unmarked : slice_index_or marks slot true ≡ false
  pub alike : AreShownAlike (body_at bodies slot) (body_at later slot)

-- a slot that isn't marked after a change wasn't before, and its body shows the same shapes as before
abbrev pub AreMarkedIn : List (Option Body) → List Bool → List (Option Body) → List Bool → Type 0
AreMarkedIn bodies marks later now = (slot : ℕ) → slice_index_or now slot true ≡ false → IsUnchangedAt bodies marks later slot

abbrev pub AreMarked : Bodies → Bodies → Type 0
AreMarked old new = AreMarkedIn old.bodies old.marks new.bodies new.marks

-- there may be more marks than before, and each slot that was marked still is
pub record AreMoreMarks (marks now : List Bool) : Type 0 where
  pub unmarked : (slot : ℕ) → slice_index_or now slot true ≡ false → slice_index_or marks slot true ≡ false
