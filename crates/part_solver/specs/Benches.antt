-- The lists of a part: for how many bodies, rows and colours they have room, and what is in them before its walk.
use Rattle.std.specs.Prelude.{◌≡◌, ◌≤◌, ◌+◌, ◌*◌, ℕ, [], length, vec_capacity}
use Rattle.colour_solver.specs.ColourRows.{all_rows}
use Rattle.colour_solver.specs.States.{carried_of, movers_of}
use Rattle.part_runs.specs.Runs.{Step, at_home}
use Rattle.part_solver.specs.declared.seat.Lists.{Lists}

-- nothing is walked yet, and there is room for the walk of a part over so many bodies, rows and colours
pub record CanWalk (bodies rows colours : ℕ) (l : Lists) : Type 0 where
  pub rows_room : rows ≤ l.rows.room
  pub colours_room : colours + 1 ≤ l.rows.more
  pub own_room : rows ≤ vec_capacity l.own
  pub moves_room : 2 * rows + bodies ≤ vec_capacity l.moves
  pub ends_room : colours + 2 ≤ vec_capacity l.ends
  pub no_colours : l.rows.colours ≡ []
  pub no_rows : l.rows.left ≡ []
  pub no_moves : l.moves.items ≡ []
  pub no_ends : l.ends.items ≡ []

-- nothing is in them, and there is room for all
pub record IsRoomy (bodies rows colours : ℕ) (l : Lists) : Type 0 where
  pub states : bodies ≤ vec_capacity l.states
  pub awake : bodies ≤ vec_capacity l.awake
  pub carried : bodies ≤ vec_capacity l.carried
  pub at : bodies ≤ vec_capacity l.at
  pub no_states : l.states.items ≡ []
  pub no_awake : l.awake.items ≡ []
  pub no_carried : l.carried.items ≡ []
  pub no_at : l.at.items ≡ []
  pub walk : CanWalk bodies rows colours l

-- there is room for a part of the step t
abbrev pub IsRoomyFor : Step → Lists → Type 0
IsRoomyFor t l = IsRoomy (length t.states) (length (all_rows t.rows)) (length t.rows.colours) l

-- what the part k sees of the step t before it walks: its bodies, and who has which
pub record HasSeen (t : Step) (k : ℕ) (l : Lists) : Type 0 where
  pub states : l.states.items ≡ at_home t k t.states
  pub awake : l.awake.items ≡ movers_of (at_home t k t.states)
  pub carried : l.carried.items ≡ carried_of (at_home t k t.states)
  pub at : l.at.items ≡ t.home
  pub walk : CanWalk (length t.states) (length (all_rows t.rows)) (length t.rows.colours) l
