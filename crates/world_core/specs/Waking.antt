-- Who is in the islands that wake or fall asleep, so that nobody else is told.
use Rattle.std.specs.Prelude.{◌≡◌, ℕ, All, List, Contains, Option, Some, None, map}
use Rattle.body_handles.specs.declared.handle.Handle.{Handle}
use Rattle.plain_world.specs.declared.constraint.Constraint.{Constraint}
use Rattle.body_handles.specs.Orders.{slot_of}
use Rattle.graph_colours.specs.declared.member.Movers.{Movers}
use Rattle.islands.specs.Labels.{IsIn, Labels, label_at, sleeping_name}
use Rattle.sleep_wake.specs.declared.change.Change.{Change}
use Rattle.sleep_wake.specs.declared.change.Change.TheVariants.{Begin, End}

-- each mover that is in one island with the mover in the slot is listed
abbrev pub HasIsland : Labels → List ℕ → ℕ → Type 0
HasIsland labels movers slot = (name mover : ℕ) → IsIn labels name slot → IsIn labels name mover → Contains movers mover

-- the same of the movers in these slots, such as those that islands are named after
abbrev pub HasIslands : Labels → List ℕ → List ℕ → Type 0
HasIslands labels slots movers = (slot : ℕ) → Contains slots slot → HasIsland labels movers slot

-- those that were listed are so still
abbrev pub IsExtended : List ℕ → List ℕ → Type 0
IsExtended old new = (mover : ℕ) → Contains old mover → Contains new mover

-- the slots of the bodies with these handles
abbrev pub slots_of : List Handle → List ℕ
slots_of handles = map slot_of handles

-- ---- who wakes as constraints begin and end

-- the movers of the constraint that begins or ends
abbrev pub movers_in : Change Constraint → Movers
movers_in (Begin m) = m.movers
movers_in (End m) = m.movers

-- what holds of each mover of a constraint
abbrev pub OfSecond : (ℕ → Type 0) → Option ℕ → Type 0
OfSecond P None = Unit {0}
OfSecond P (Some slot) = P slot

abbrev pub OfBoth : (ℕ → Type 0) → Movers → Type 0
OfBoth P m = P m.first × OfSecond P m.second

-- what holds of each mover of the constraints that begin and end
abbrev pub OfAll : (ℕ → Type 0) → List (Change Constraint) → Type 0
OfAll P changes = All (λ c. OfBoth P (movers_in c)) changes

-- the island of the mover in the slot is named, if it sleeps
abbrev pub HasName : Labels → List ℕ → ℕ → Type 0
HasName labels names slot = (name : ℕ) → sleeping_name (label_at labels slot) ≡ Some name → Contains names name

-- the movers of the island of the mover in the slot are listed, if it sleeps
abbrev pub HasSleepers : Labels → List ℕ → ℕ → Type 0
HasSleepers labels slots slot = (name mover : ℕ) → sleeping_name (label_at labels slot) ≡ Some name → IsIn labels name mover → Contains slots mover
