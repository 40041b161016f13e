use Rattle.std.proofs.Common.{◌≡◌, ◌≤◌, ◌+◌, take, vec_capacity, vec_len}
use Rattle.part_runs.specs.Walks.{setting_out, walk_home}
use Rattle.part_solver.specs.Walking.{IsOnward}
use Rattle.part_solver.proofs.walk.walk_home.Given as goal

abbrev pub invariant-loop-place : goal.invariant-loop-place
invariant-loop-place l = record {
  onward : IsOnward l.homes.number (walk_home l.homes.home.now (take l.place l.awake) (setting_out l.fn.at.items)) l.at.items l.fn.moves.items l.moves.items;
  room : vec_capacity l.moves ≡ vec_capacity l.fn.moves;
  few : vec_len l.moves ≤ vec_len l.fn.moves + l.place;
}
