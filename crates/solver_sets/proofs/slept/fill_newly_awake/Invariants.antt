use Rattle.std.proofs.Common.{◌≡◌, ◌≤◌, ◌++◌, ◌&&◌, not, drop, slice_get, vec_len, vec_capacity}
use Rattle.std.specs.List.{filter_map}
use Rattle.solver_sets.specs.Slept.{sleeps}
use Rattle.solver_sets.specs.SinceTold.{handle_if, was_asleep}
use Rattle.solver_sets.proofs.slept.fill_newly_awake.Given as goal

abbrev pub invariant-loop-place : goal.invariant-loop-place
invariant-loop-place l = record {
  handles : l.handles.items ++ filter_map (λ slot. handle_if (was_asleep l.bodies slot && not (sleeps l.islands.labels slot)) slot (slice_get l.slot_entries slot)) (drop l.place l.asleep) ≡ filter_map (λ slot. handle_if (was_asleep l.bodies slot && not (sleeps l.islands.labels slot)) slot (slice_get l.slot_entries slot)) l.asleep;
  len : vec_len l.handles ≤ l.place;
  capacity : vec_capacity l.fn.handles ≤ vec_capacity l.handles;
}
