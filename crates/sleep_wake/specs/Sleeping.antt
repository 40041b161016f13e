-- Trusted: Which islands sleep, who wakes them by their names, and how one mover is put to sleep.
use Rattle.std.specs.Prelude.{ℕ, ◌==◌, cond, nat_lt, List, [], ◌∷◌, Option, fold}
use Rattle.std.specs.Option.{option_map_or}
use Rattle.islands.specs.declared.label.Label.{Label}
use Rattle.islands.specs.Labels.{Labels, label_at, is_loose, is_asleep, sleeping_name}
use Rattle.sleep_wake.specs.Acting.{Acting}
use Rattle.sleep_wake.specs.Waking.{woken_at, put_to_rest}
use Rattle.sleep_wake.specs.SleepPhase.{split_at}

-- ---- the names of sleeping islands

-- the name of the island of the mover in the slot, if it sleeps
abbrev pub name_at : Labels → ℕ → Option ℕ
name_at labels slot = sleeping_name (label_at labels slot)

-- with one more name, each once and ascending
abbrev pub with_one_name : ℕ → List ℕ → List ℕ
with_one_name name [] = name ∷ []
with_one_name name (n ∷ names) = cond (nat_lt n name) (n ∷ with_one_name name names) (cond (n == name) (n ∷ names) (name ∷ n ∷ names))

abbrev pub with_name : Option ℕ → List ℕ → List ℕ
with_name name names = option_map_or (λ n. with_one_name n names) name names

-- the names of the sleeping islands in which the movers of these slots are, ascending and each once
abbrev pub sleeping_names : Labels → List ℕ → List ℕ
sleeping_names labels slots = fold (λ names slot. with_name (name_at labels slot) names) [] slots

-- ---- islands wake by their names, one after the other

abbrev pub islands_woken : {C : Type 0} → (C → ℕ) → List ℕ → Acting C → Acting C
islands_woken number names s = fold (λ now name. woken_at number name now) s names

-- ---- one mover is put to sleep: its island is split if it is loose, and then the island that the mover is in is put to rest

abbrev pub split_if_loose : {C : Type 0} → Label → Acting C → Acting C
split_if_loose l s = cond (is_loose l.state) (split_at l.name s) s

abbrev pub rested_at : {C : Type 0} → (C → ℕ) → ℕ → Acting C → Acting C
rested_at number slot s = option_map_or (λ (l : Label). put_to_rest number l.name s) (label_at s.labels slot) s

-- one that sleeps stays as it is
unfoldable pub slept_at : {C : Type 0} → (C → ℕ) → ℕ → Acting C → Acting C
slept_at number slot s = option_map_or (λ (l : Label). cond (is_asleep l.state) s (rested_at number slot (split_if_loose l s))) (label_at s.labels slot) s
