-- Trusted: Islands as labels: by slot the island of the mover there, and what each call makes of them.
use Rattle.std.specs.Prelude.{◌≡◌, ℕ, ◌+◌, ◌-◌, List, ◌++◌, length, Some, None, Option, map, replicate, slice_set, ◌==◌, ◌||◌, ◌&&◌, Bool, true, false, cond, min, nat_lt, option_and_then}
use Rattle.std.specs.List.{slice_index_or, position_or_len, range_with_len}
use Rattle.std.specs.Option.{option_map_or}
use Rattle.islands.specs.declared.label.IslandState.{IslandState}
use Rattle.islands.specs.declared.label.IslandState.TheVariants.{Whole, Loose, Asleep}
use Rattle.islands.specs.declared.label.Label.{Label}
use Rattle.islands.specs.Links.{Edges, reaches}

-- by slot the label of the mover there, if there is one
abbrev pub Labels : Type 0
Labels = List (Option Label)

-- None where there is no mover, past the end too
abbrev pub label_at : Labels → ℕ → Option Label
label_at labels slot = slice_index_or labels slot None

-- the label is that of the island of this name
abbrev pub is_in : Option Label → ℕ → Bool
is_in label name = option_map_or (λ (l : Label). l.name == name) label false

-- the mover in the slot is in the island of this name
abbrev pub IsIn : Labels → ℕ → ℕ → Type 0
IsIn labels name slot = is_in (label_at labels slot) name ≡ true

abbrev pub is_loose : IslandState → Bool
is_loose Whole = false
is_loose Loose = true
is_loose Asleep = false

abbrev pub is_asleep : IslandState → Bool
is_asleep Whole = false
is_asleep Loose = false
is_asleep Asleep = true

-- the name of the island, if it sleeps: a mover of it sleeps with that name
abbrev pub sleeping_name : Option Label → Option ℕ
sleeping_name label = option_and_then (λ (l : Label). cond (is_asleep l.state) (Some l.name) None) label

-- ---- islands get another label

-- the movers of the islands a and b get one label
abbrev pub relabel : ℕ → ℕ → Label → Option Label → Option Label
relabel a b to o = cond (is_in o a || is_in o b) (Some to) o

abbrev pub relabelled : ℕ → ℕ → Label → Labels → Labels
relabelled a b to labels = map (relabel a b to) labels

-- the island of this name gets another state
abbrev pub with_state : ℕ → IslandState → Labels → Labels
with_state name state labels = relabelled name name (record { name = name; state = state }) labels

-- ---- a mover comes: an island of its own

abbrev pub own_label : ℕ → Label
own_label slot = record { name = slot; state = Whole }

-- at least n slots
abbrev pub padded : Labels → ℕ → Labels
padded labels n = labels ++ replicate (n - length labels) None

abbrev pub added : Labels → ℕ → Labels
added labels slot = slice_set (padded labels (slot + 1)) slot (Some (own_label slot))

-- ---- the islands of two movers become one, under the lesser name, and loose if either was

abbrev pub union_label : Label → Label → Label
union_label x y = record { name = min x.name y.name; state = cond (is_loose x.state || is_loose y.state) Loose Whole }

abbrev pub merged_by : Option Label → Option Label → Labels → Labels
merged_by None y labels = labels
merged_by (Some x) None labels = labels
merged_by (Some x) (Some y) labels = relabelled x.name y.name (union_label x y) labels

unfoldable pub merged : Labels → ℕ → ℕ → Labels
merged labels a b = merged_by (label_at labels a) (label_at labels b) labels

-- ---- the island of a mover has lost a link: it may have come apart

unfoldable pub loosened : Labels → ℕ → Labels
loosened labels slot = option_map_or (λ (l : Label). with_state l.name Loose labels) (label_at labels slot) labels

-- ---- a mover goes: those that it leaves behind are loose, under their lowest slot

-- the lowest slot of an island, or the number of slots where it has no mover
abbrev pub lowest_member : ℕ → Labels → ℕ
lowest_member name labels = position_or_len (λ o. is_in o name) labels

abbrev pub left_behind : ℕ → ℕ → Labels → Labels
left_behind low name labels = cond (nat_lt low (length labels)) (relabelled name name (record { name = low; state = Loose }) labels) labels

unfoldable pub taken_out : Labels → ℕ → Labels
taken_out labels slot = option_map_or (λ (l : Label). left_behind (lowest_member l.name (slice_set labels slot None)) l.name (slice_set labels slot None)) (label_at labels slot) labels

-- ---- an island falls asleep, or wakes

unfoldable pub rested : Labels → ℕ → Labels
rested labels name = with_state name Asleep labels

unfoldable pub woken : Labels → ℕ → Labels
woken labels name = with_state name Whole labels

-- ---- an island is split: each of its movers gets the label of its component

-- all slots, ascending: each stands at the index of its own number
abbrev pub slots_of : Labels → List ℕ
slots_of labels = range_with_len 0 (length labels)

-- the lowest slot of the island that the mover in this slot is joined to by the links
abbrev pub least_reached : Labels → ℕ → Edges → ℕ → ℕ
least_reached labels name edges slot = position_or_len (λ other. is_in (label_at labels other) name && reaches edges slot other) (slots_of labels)

-- whoever isn't of the island keeps the label
abbrev pub split_label : Labels → ℕ → Edges → ℕ → Option Label
split_label labels name edges slot = cond (is_in (label_at labels slot) name) (Some (own_label (least_reached labels name edges slot))) (label_at labels slot)

unfoldable pub split_by : Labels → ℕ → Edges → Labels
split_by labels name edges = map (split_label labels name edges) (slots_of labels)
