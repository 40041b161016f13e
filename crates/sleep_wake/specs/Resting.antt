-- All islands of a sleep phase together: the least timer of each, and what falls asleep by these.
use Rattle.std.specs.Prelude.{◌≡◌, ℕ, suc, ◌&&◌, ◌||◌, Bool, true, false, not, cond, nat_lt, List, [], ◌∷◌, length, Option, Some, None, slice_set, nat_le}
use Rattle.std.specs.List.{slice_index_or}
use Rattle.graph_colours.specs.declared.member.Movers.{Movers}
use Rattle.graph_colours.specs.declared.member.Member.{Member}
use Rattle.islands.specs.declared.label.Label.{Label}
use Rattle.islands.specs.Labels.{Labels, label_at, is_loose, is_asleep, rested}
use Rattle.sleep_wake.specs.SleepPhase.{lesser, least_timer, is_time_to_sleep, is_island, is_less, ticks_to_sleep}

-- ---- the least timer of each island

-- the least timer that a list has for the island of this name; None past the end too
abbrev pub least_at : List (Option ℕ) → ℕ → Option ℕ
least_at leasts name = slice_index_or leasts name None

-- the island of this name has a mover with this timer too
abbrev pub lowered : List (Option ℕ) → ℕ → ℕ → List (Option ℕ)
lowered leasts name t = slice_set leasts name (Some (lesser t (least_at leasts name)))

-- the mover in the slot, which has this label, has a timer, and that is one of its island's
abbrev pub noted : Option Label → List ℕ → ℕ → List (Option ℕ) → List (Option ℕ)
noted None timers slot leasts = leasts
noted (Some l) timers slot leasts = cond (nat_lt slot (length timers)) (lowered leasts l.name (slice_index_or timers slot 0)) leasts

-- nothing is known of what stands in these slots
abbrev pub forgotten : List ℕ → List (Option ℕ) → List (Option ℕ)
forgotten [] leasts = leasts
forgotten (slot ∷ slots) leasts = forgotten slots (slice_set leasts slot None)

-- the list has the least timer of each awake island, by its name; what it has for others means nothing
pub record AreLeast (labels : Labels) (timers : List ℕ) (leasts : List (Option ℕ)) : Type 0 where
  pub each : (slot : ℕ) (l : Label) → label_at labels slot ≡ Some l → is_asleep l.state ≡ false → least_at leasts l.name ≡ least_timer l.name labels timers

-- ---- which islands are ready, where `timer` has the least timer of each

-- a mover with this timer, if it has one, doesn't keep its island from being due
abbrev pub may_be_ready : Option ℕ → Bool
may_be_ready None = true
may_be_ready (Some t) = nat_le ticks_to_sleep t

abbrev pub is_ready_island : Bool → (ℕ → Option ℕ) → ℕ → Option Label → Bool
is_ready_island loose timer slot o = is_island loose slot o && is_time_to_sleep (timer slot)

-- where the list begins with this slot
abbrev pub ready_after : Bool → (ℕ → Option ℕ) → ℕ → Labels → List ℕ
ready_after loose timer slot [] = []
ready_after loose timer slot (o ∷ rest) = cond (is_ready_island loose timer slot o) (slot ∷ ready_after loose timer (suc slot) rest) (ready_after loose timer (suc slot) rest)

-- the names of the loose islands that are ready, or of the whole ones, ascending
abbrev pub ready_names : Bool → (ℕ → Option ℕ) → Labels → List ℕ
ready_names loose timer labels = ready_after loose timer 0 labels

-- ---- the island to split

-- of two names the one with the greater timer, the best so far where they are equal
abbrev pub longer_at_rest : (ℕ → Option ℕ) → Option ℕ → ℕ → Option ℕ
longer_at_rest timer None name = Some name
longer_at_rest timer (Some best) name = cond (is_less (timer best) (timer name)) (Some name) (Some best)

-- the name with the greatest timer, the first of those that have it
abbrev pub longest_at_rest : (ℕ → Option ℕ) → Option ℕ → List ℕ → Option ℕ
longest_at_rest timer best [] = best
longest_at_rest timer best (name ∷ names) = longest_at_rest timer (longer_at_rest timer best name) names

-- the best so far, once the label in a slot was looked at too
abbrev pub weighed_by : (ℕ → Option ℕ) → Option ℕ → ℕ → Option Label → Option ℕ
weighed_by timer best slot o = cond (is_ready_island true timer slot o) (longer_at_rest timer best slot) best

-- of the loose islands that are ready, the one with the greatest least timer, the lowest of those
abbrev pub longest_ready : (ℕ → Option ℕ) → Labels → Option ℕ
longest_ready timer labels = longest_at_rest timer None (ready_names true timer labels)

-- ---- what falls asleep

-- the label is that of a whole island that is awake
abbrev pub is_whole : Option Label → Bool
is_whole None = false
is_whole (Some l) = not (is_loose l.state) && not (is_asleep l.state)

-- a mover with this label is in a whole island that is awake and ready
abbrev pub rests_by : (ℕ → Option ℕ) → Option Label → Bool
rests_by timer None = false
rests_by timer (Some l) = (not (is_loose l.state) && not (is_asleep l.state)) && is_time_to_sleep (timer l.name)

abbrev pub second_rests : (ℕ → Option ℕ) → Labels → Option ℕ → Bool
second_rests timer labels None = false
second_rests timer labels (Some slot) = rests_by timer (label_at labels slot)

-- one of the movers is in such an island
abbrev pub movers_rest : (ℕ → Option ℕ) → Labels → Movers → Bool
movers_rest timer labels m = rests_by timer (label_at labels m.first) || second_rests timer labels m.second

-- the constraint has such a mover
abbrev pub is_to_rest : {C : Type 0} → (ℕ → Option ℕ) → Labels → Member C → Bool
is_to_rest timer labels m = movers_rest timer labels m.movers

-- the islands of these names fall asleep
abbrev pub all_rested : List ℕ → Labels → Labels
all_rested [] labels = labels
all_rested (name ∷ names) labels = all_rested names (rested labels name)
