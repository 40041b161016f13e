-- A step that is solved by parts: what it may be.
use Rattle.std.specs.Prelude.{◌≡◌, ◌≤◌, ◌^◌, length}
use Rattle.body_handles.specs.declared.slot_table.TheConstants.{MAX_SLOTS}
use Rattle.fixed_geom.specs.Vectors.{IsWithin}
use Rattle.graph_colours.specs.declared.limits.TheConstants.{COLOURS}
use Rattle.part_runs.specs.Runs.{Step}
use Rattle.part_runs.specs.Laws.{CanRun}

-- the ranges that a step keeps, each slot having a home
pub record CanSolve (t : Step) : Type 0 where
  pub few : length t.states ≤ MAX_SLOTS
  pub gravity : IsWithin (2 ^ 16) t.gravity
  pub can : CanRun t.states t.rows
  pub count : t.count ≤ 8
  pub colours : length t.rows.colours ≡ COLOURS
  pub homes : length t.home ≡ length t.states
