-- What contracts see of the sets, and what the sets keep.
use Rattle.std.specs.Prelude.{ℕ, ◌≤◌, ◌+◌, length}
use Rattle.graph_colours.specs.Colours.{all_members}
use Rattle.sleep_wake.specs.Acting.{Acting, IsConsistent}

-- the constraints, islands and colours; how many constraints may stand with no memory, those that do counted; the bound
-- below which a mover's slot must be; and whether edits of the colours are put off: if it is 0, none is
pub record Standing (C : Type 0) : Type 0 where
  pub acting : Acting C
  pub room : ℕ
  pub slots : ℕ
  pub pending : ℕ

-- for how much the parts have room
pub record Capacity : Type 0 where
  pub ties : ℕ
  pub colours : ℕ
  pub colour_slots : ℕ
  pub islands : ℕ
  pub edges : ℕ
  pub scratch_slots : ℕ
  pub links : ℕ
  pub gathering_ties : ℕ
  pub gathering_slots : ℕ
  pub leasts : ℕ

-- each part has room for all constraints, also where all movers wake, and for movers in all slots
pub record HasRoomFor (coloured room slots : ℕ) (c : Capacity) : Type 0 where
  pub ties : room ≤ c.ties
  pub colours : room ≤ c.colours + coloured
  pub colour_slots : slots ≤ c.colour_slots
  pub islands : slots ≤ c.islands
  pub edges : room ≤ c.edges
  pub scratch_slots : slots ≤ c.scratch_slots
  pub links : room ≤ c.links
  pub gathering_ties : room ≤ c.gathering_ties
  pub gathering_slots : slots ≤ c.gathering_slots
  pub leasts : slots ≤ c.leasts

-- the sets are consistent, no more constraints and slots are there than there is room for, and the parts have that room
pub record IsStanding {C : Type 0} (number : C → ℕ) (s : Acting C) (room slots : ℕ) (c : Capacity) : Type 0 where
  pub consistent : IsConsistent number s
  pub enough : length s.ties ≤ room
  pub few : length s.labels ≤ slots
  pub rooms : HasRoomFor (length (all_members s.lists)) room slots c
