-- Trusted: Islands wake, and their constraints take colours; islands are put to rest, and their constraints give them
-- up.
use Rattle.std.specs.Prelude.{ℕ, ◌||◌, Bool, false, cond, List, [], ◌∷◌, Option, filter, fold}
use Rattle.std.specs.Option.{option_map_or}
use Rattle.graph_colours.specs.declared.member.Movers.{Movers}
use Rattle.graph_colours.specs.declared.member.Member.{Member}
use Rattle.graph_colours.specs.Colours.{with_placed, released}
use Rattle.islands.specs.Labels.{Labels, label_at, is_in, is_asleep, rested, woken}
use Rattle.islands.specs.declared.label.Label.{Label}
use Rattle.sleep_wake.specs.Acting.{Acting}

-- ---- the constraints of an island

abbrev pub second_in : Labels → ℕ → Option ℕ → Bool
second_in labels name second = option_map_or (λ slot. is_in (label_at labels slot) name) second false

abbrev pub are_in : Labels → ℕ → Movers → Bool
are_in labels name m = is_in (label_at labels m.first) name || second_in labels name m.second

abbrev pub has_mover_of : {C : Type 0} → Labels → ℕ → Member C → Bool
has_mover_of labels name m = are_in labels name m.movers

abbrev pub ties_of_mover : {C : Type 0} → Acting C → ℕ → List (Member C)
ties_of_mover s name = filter (has_mover_of s.labels name) s.ties

-- ---- a sleeping island wakes: its constraints take colours, in their order

abbrev pub placed_all : {C : Type 0} → (C → ℕ) → List (List (Member C)) → List (Member C) → List (List (Member C))
placed_all number lists ms = fold (λ now m. with_placed number m now) lists ms

unfoldable pub set_woken : {C : Type 0} → (C → ℕ) → ℕ → Acting C → Acting C
set_woken number name s = record { ties = s.ties; labels = woken s.labels name; lists = placed_all number s.lists (ties_of_mover s name) }

-- the island of the mover in the slot, if it sleeps
unfoldable pub woken_at : {C : Type 0} → (C → ℕ) → ℕ → Acting C → Acting C
woken_at number slot s = option_map_or (λ (l : Label). cond (is_asleep l.state) (set_woken number l.name s) s) (label_at s.labels slot) s

-- the islands of a constraint's movers, the first one's first
abbrev pub movers_woken : {C : Type 0} → (C → ℕ) → Movers → Acting C → Acting C
movers_woken number m s = let now = woken_at number m.first s in option_map_or (λ slot. woken_at number slot now) m.second now

-- ---- an island is put to rest: its constraints give up their colours

abbrev pub released_all : {C : Type 0} → (C → ℕ) → List (List (Member C)) → List (Member C) → List (List (Member C))
released_all number lists ms = fold (λ now m. released number m.id now) lists ms

unfoldable pub put_to_rest : {C : Type 0} → (C → ℕ) → ℕ → Acting C → Acting C
put_to_rest number name s = record { ties = s.ties; labels = rested s.labels name; lists = released_all number s.lists (ties_of_mover s name) }
