-- Worked values.
use Rattle.std.specs.Prelude.{◌≡◌, ℕ, List, [], ◌∷◌, Option, Some}
use Rattle.graph_colours.specs.declared.member.Member.{Member}
use Rattle.islands.specs.declared.label.IslandState.{IslandState}
use Rattle.islands.specs.declared.label.IslandState.TheVariants.{Loose, Asleep}
use Rattle.islands.specs.declared.label.Label.{Label}
use Rattle.sleep_wake.specs.Acting.{Acting}
use Rattle.sleep_wake.specs.declared.change.Change.TheVariants.{End}
use Rattle.sleep_wake.specs.Changes.{after_changes}
use Rattle.sleep_wake.specs.SleepPhase.{sleep_phase}

-- a constraint between the movers in two slots
abbrev pub between : ℕ → ℕ → ℕ → Member ℕ
between id a b = record { id = id; movers = record { first = a; second = Some b } }

abbrev pub label_of : ℕ → IslandState → Option Label
label_of name state = Some (record { name = name; state = state })

abbrev pub own_number : ℕ → ℕ
own_number n = n

-- nobody has a colour; the lists of further colours are left out
abbrev pub colourless : List (List (Member ℕ))
colourless = [] ∷ [] ∷ []

-- two movers with a constraint between them, asleep
abbrev pub two_asleep : Acting ℕ
two_asleep = record { ties = between 5 0 1 ∷ []; labels = label_of 0 Asleep ∷ label_of 0 Asleep ∷ []; lists = colourless }

-- one loose island of three movers, of which two have a constraint between them
abbrev pub three_loose : Acting ℕ
three_loose = record { ties = between 5 0 2 ∷ []; labels = label_of 0 Loose ∷ label_of 0 Loose ∷ label_of 0 Loose ∷ []; lists = (between 5 0 2 ∷ []) ∷ [] ∷ [] }

-- the constraint of two sleepers ends: both wake, in one loose island
abbrev pub EndWakes : Type 0
EndWakes = after_changes own_number (End (between 5 0 1) ∷ []) two_asleep ≡ record { ties = []; labels = label_of 0 Loose ∷ label_of 0 Loose ∷ []; lists = colourless }

-- a loose island comes apart, and both parts fall asleep in the same phase
abbrev pub SplitFallsAsleep : Type 0
SplitFallsAsleep = sleep_phase own_number (128 ∷ 130 ∷ 200 ∷ []) three_loose ≡ record { ties = between 5 0 2 ∷ []; labels = label_of 0 Asleep ∷ label_of 1 Asleep ∷ label_of 0 Asleep ∷ []; lists = colourless }

-- one timer that is short of a tick keeps all awake
abbrev pub OneTickShort : Type 0
OneTickShort = sleep_phase own_number (127 ∷ 130 ∷ 200 ∷ []) three_loose ≡ three_loose
