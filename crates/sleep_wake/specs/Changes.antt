-- Trusted: Constraints that begin and end, one after the other, and lists of these changes.
use Rattle.std.specs.Prelude.{ℕ, cond, nat_lt, List, [], ◌∷◌, Option, is_some, fold}
use Rattle.std.specs.Option.{option_map_or}
use Rattle.graph_colours.specs.declared.member.Member.{Member}
use Rattle.graph_colours.specs.Members.{inserted, without_member}
use Rattle.graph_colours.specs.Colours.{with_placed, released}
use Rattle.islands.specs.Labels.{Labels, merged, loosened}
use Rattle.sleep_wake.specs.declared.change.Change.{Change}
use Rattle.sleep_wake.specs.declared.change.Change.TheVariants.{Begin, End}
use Rattle.sleep_wake.specs.Acting.{Acting}
use Rattle.sleep_wake.specs.Waking.{movers_woken}

-- ---- one constraint begins or ends, while its movers are awake

-- two movers lose a link, and their island gets loose
abbrev pub parted : Option ℕ → ℕ → Labels → Labels
parted second first labels = cond (is_some second) (loosened labels first) labels

-- two movers get a link, and their islands are merged
abbrev pub united : Option ℕ → ℕ → Labels → Labels
united second first labels = option_map_or (merged labels first) second labels

-- the constraint goes, and gives up its colour
unfoldable pub ended : {C : Type 0} → (C → ℕ) → Member C → Acting C → Acting C
ended number m s = record { ties = without_member number m.id s.ties; labels = parted m.movers.second m.movers.first s.labels; lists = released number m.id s.lists }

-- the constraint comes, and takes a colour
unfoldable pub begun : {C : Type 0} → (C → ℕ) → Member C → Acting C → Acting C
begun number m s = record { ties = inserted number m s.ties; labels = united m.movers.second m.movers.first s.labels; lists = with_placed number m s.lists }

-- ---- several begin or end, one after the other, while their movers are awake

abbrev pub each_begun : {C : Type 0} → (C → ℕ) → List (Member C) → Acting C → Acting C
each_begun number ms s = fold (λ now m. begun number m now) s ms

abbrev pub each_ended : {C : Type 0} → (C → ℕ) → List (Member C) → Acting C → Acting C
each_ended number ms s = fold (λ now m. ended number m now) s ms

-- ---- changes, each at its turn

-- sleeping movers of the constraint wake first
abbrev pub after_change : {C : Type 0} → (C → ℕ) → Change C → Acting C → Acting C
after_change number (Begin m) s = begun number m (movers_woken number m.movers s)
after_change number (End m) s = ended number m (movers_woken number m.movers s)

abbrev pub after_changes : {C : Type 0} → (C → ℕ) → List (Change C) → Acting C → Acting C
after_changes number changes s = fold (λ now c. after_change number c now) s changes

-- ---- changes in a list that ascends by number

abbrev pub change_number : {C : Type 0} → (C → ℕ) → Change C → ℕ
change_number number (Begin m) = number m.id
change_number number (End m) = number m.id

-- with one more change, which stands before the first whose number isn't lower
abbrev pub change_inserted : {C : Type 0} → (C → ℕ) → Change C → List (Change C) → List (Change C)
change_inserted number c [] = c ∷ []
change_inserted number c (d ∷ ds) = cond (nat_lt (change_number number d) (change_number number c)) (d ∷ change_inserted number c ds) (c ∷ d ∷ ds)

abbrev pub begins_inserted : {C : Type 0} → (C → ℕ) → List (Member C) → List (Change C) → List (Change C)
begins_inserted number [] ds = ds
begins_inserted number (m ∷ ms) ds = change_inserted number (Begin m) (begins_inserted number ms ds)
