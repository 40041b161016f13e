-- Trusted: What acts: the constraints, the islands of their movers, and the colours of those whose movers are awake.
use Rattle.std.specs.Prelude.{◌≡◌, ℕ, ◌&&◌, ◌↔◌, Bool, true, false, not, List, Option, Some, option_map, Contains}
use Rattle.std.specs.List.{filter_map}
use Rattle.std.specs.Option.{option_map_or}
use Rattle.graph_colours.specs.declared.member.Movers.{Movers}
use Rattle.graph_colours.specs.declared.member.Member.{Member}
use Rattle.graph_colours.specs.Members.{AreRising}
use Rattle.graph_colours.specs.Colours.{all_members, IsColouring}
use Rattle.islands.specs.declared.label.Label.{Label}
use Rattle.islands.specs.Links.{Edges, Linked}
use Rattle.islands.specs.Labels.{Labels, label_at, is_asleep}
use Rattle.islands.specs.Partition.{AreIslands}

-- the constraints of a world, of which a tie is one: a joint, or a contact that touches
pub record Acting (C : Type 0) : Type 0 where
  -- all that act, or would if their movers were awake, ascending by number: joints by slot, then contacts by key
  pub ties : List (Member C)
  -- by slot the island of each mover
  pub labels : Labels
  -- the colours of those that act
  pub lists : List (List (Member C))

abbrev pub acting : {C : Type 0} → List (Member C) → Labels → List (List (Member C)) → Acting C
acting ties labels lists = record { ties = ties; labels = labels; lists = lists }

-- ---- links

-- a constraint of two movers links them
abbrev pub link_of : {C : Type 0} → Member C → Option (ℕ × ℕ)
link_of m = option_map (λ b. (m.movers.first, b)) m.movers.second

abbrev pub links_of : {C : Type 0} → List (Member C) → Edges
links_of ties = filter_map link_of ties

-- ---- who is awake

abbrev pub awake_label : Option Label → Bool
awake_label label = option_map_or (λ (l : Label). not (is_asleep l.state)) label false

-- a mover is awake while its island is
abbrev pub is_mover_awake : Labels → ℕ → Bool
is_mover_awake labels slot = awake_label (label_at labels slot)

-- a constraint acts while all its movers are awake
abbrev pub are_awake : Labels → Movers → Bool
are_awake labels m = is_mover_awake labels m.first && option_map_or (is_mover_awake labels) m.second true

-- ---- what holds

-- each mover of the constraint is in an island
pub record AreMovers (labels : Labels) (m : Movers) : Type 0 where
  pub first : (l : Label) × (label_at labels m.first ≡ Some l)
  pub second : (slot : ℕ) → m.second ≡ Some slot → (l : Label) × (label_at labels slot ≡ Some l)

-- The constraints ascend. Their links make the islands of their movers. Just those that act have a colour.
pub record IsConsistent {C : Type 0} (number : C → ℕ) (s : Acting C) : Type 0 where
  pub rising : AreRising number s.ties
  pub movers : (m : Member C) → Contains s.ties m → AreMovers s.labels m.movers
  pub islands : AreIslands (Linked (links_of s.ties)) s.labels
  pub colouring : IsColouring number s.lists
  pub acting : (m : Member C) → Contains (all_members s.lists) m ↔ (Contains s.ties m × (are_awake s.labels m.movers ≡ true))
