-- Trusted: The sleep phase: which islands are ready to sleep, by the timers of their movers, and what becomes of them.
use Rattle.std.specs.Prelude.{ℕ, suc, ◌&&◌, ◌==◌, Bool, true, false, not, cond, nat_lt, nat_le, min, List, [], ◌∷◌, Option, Some, None, filter, fold}
use Rattle.std.specs.Option.{option_map_or}
use Rattle.fixed_geom.specs.Options.{unbeaten}
use Rattle.graph_colours.specs.declared.member.Member.{Member}
use Rattle.islands.specs.declared.label.Label.{Label}
use Rattle.islands.specs.Links.{Edges}
use Rattle.islands.specs.Labels.{Labels, label_at, is_in, is_loose, is_asleep, split_by}
use Rattle.sleep_wake.specs.Acting.{Acting, links_of}
use Rattle.sleep_wake.specs.Waking.{put_to_rest}

-- for how many ticks each mover of an island has to have been slow, before it is ready to sleep
abbrev pub ticks_to_sleep : ℕ
ticks_to_sleep = 128

-- ---- a split

abbrev pub edges_in : {C : Type 0} → Labels → ℕ → List (Member C) → Edges
edges_in labels name ties = filter (λ e. is_in (label_at labels e.0) name) (links_of ties)

-- the island is replaced by its components; no constraint changes
unfoldable pub split_at : {C : Type 0} → ℕ → Acting C → Acting C
split_at name s = record { ties = s.ties; labels = split_by s.labels name (edges_in s.labels name s.ties); lists = s.lists }

-- ---- which islands are ready; timers by slot, in ticks

abbrev pub lesser : ℕ → Option ℕ → ℕ
lesser t None = t
lesser t (Some u) = min t u

-- the least timer of an island, if it has movers
abbrev pub least_timer : ℕ → Labels → List ℕ → Option ℕ
least_timer name [] timers = None
least_timer name (o ∷ labels) [] = None
least_timer name (o ∷ labels) (t ∷ timers) = cond (is_in o name) (Some (lesser t (least_timer name labels timers))) (least_timer name labels timers)

abbrev pub is_time_to_sleep : Option ℕ → Bool
is_time_to_sleep least = option_map_or (nat_le ticks_to_sleep) least false

-- the label is that of an awake island of this name, a loose one or a whole one
abbrev pub is_island : Bool → ℕ → Option Label → Bool
is_island loose name None = false
is_island true name (Some l) = (l.name == name) && is_loose l.state
is_island false name (Some l) = (l.name == name) && (not (is_loose l.state) && not (is_asleep l.state))

-- it is, and its movers have been slow for long enough
abbrev pub is_ready : Bool → Labels → List ℕ → ℕ → Option Label → Bool
is_ready loose labels timers name o = is_island loose name o && is_time_to_sleep (least_timer name labels timers)

abbrev pub ready_from : Bool → Labels → List ℕ → ℕ → Labels → List ℕ
ready_from loose labels timers slot [] = []
ready_from loose labels timers slot (o ∷ rest) = cond (is_ready loose labels timers slot o) (slot ∷ ready_from loose labels timers (suc slot) rest) (ready_from loose labels timers (suc slot) rest)

-- the names of the loose islands that are ready, or of the whole ones, ascending
abbrev pub ready : Bool → Labels → List ℕ → List ℕ
ready loose labels timers = ready_from loose labels timers 0 labels

-- ---- the phase

abbrev pub is_less : Option ℕ → Option ℕ → Bool
is_less (Some a) (Some b) = nat_lt a b
is_less a b = false

-- of the loose islands that are ready, the one with the greatest least timer, the lowest of those
abbrev pub picked_to_split : Labels → List ℕ → Option ℕ
picked_to_split labels timers = unbeaten (λ a b. is_less (least_timer b labels timers) (least_timer a labels timers)) (ready true labels timers)

abbrev pub split_picked : {C : Type 0} → Option ℕ → Acting C → Acting C
split_picked picked s = option_map_or (λ name. split_at name s) picked s

-- all whole islands that are ready fall asleep
abbrev pub ready_put_to_rest : {C : Type 0} → (C → ℕ) → List ℕ → Acting C → Acting C
ready_put_to_rest number timers s = fold (λ now name. put_to_rest number name now) s (ready false s.labels timers)

-- one loose island that is ready is split, and then all whole ones that are ready fall asleep
abbrev pub sleep_phase : {C : Type 0} → (C → ℕ) → List ℕ → Acting C → Acting C
sleep_phase number timers s = ready_put_to_rest number timers (split_picked (picked_to_split s.labels timers) s)
