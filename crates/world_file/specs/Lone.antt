-- The components of movers as they are found: each mover stands alone, and then the ends of each link are merged.
use Rattle.std.specs.Prelude.{◌≡◌, ℕ, suc, List, [], ◌∷◌, Option, Some, None, option_map}
use Rattle.islands.specs.Labels.{Labels, added, label_at, own_label}
use Rattle.islands.specs.Merging.{merged_all}
use Rattle.islands.specs.declared.label.Label.{Label}
use Rattle.world_file_base.specs.declared.saved.Membership.{Membership}
use Rattle.sleep_wake.specs.Acting.{links_of}
use Rattle.world_file.specs.Fitting.{members_among}
use Rattle.world_file.specs.declared.ties.Tie.{Tie}

-- in each slot is the same label
abbrev pub AreSameLabels : Labels → Labels → Type 0
AreSameLabels labels others = (slot : ℕ) → label_at labels slot ≡ label_at others slot

-- a mover has come, if it is one
abbrev pub added_if : Option ℕ → ℕ → Labels → Labels
added_if None slot labels = labels
added_if (Some name) slot labels = added labels slot

-- each mover for itself
abbrev pub alone_at : ℕ → Option ℕ → Option Label
alone_at slot island = option_map (λ name. own_label slot) island

-- where the list begins with this slot
abbrev pub apart_from : ℕ → List Membership → Labels
apart_from slot [] = []
apart_from slot (m ∷ rest) = alone_at slot m.island ∷ apart_from (suc slot) rest

-- the movers of each tie are joined
abbrev pub joined_by : List Tie → Labels → Labels
joined_by ties labels = merged_all labels (links_of (members_among ties))

-- the components of the movers over the links of the ties
abbrev pub components_by : List Membership → List Tie → Labels
components_by memberships ties = joined_by ties (apart_from 0 memberships)
