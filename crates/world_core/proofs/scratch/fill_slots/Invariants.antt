use Rattle.std.proofs.Common.{◌≡◌, ◌≤◌, ◌++◌, map, drop, vec_len, vec_capacity}
use Rattle.body_handles.specs.Orders.{slot_of}
use Rattle.world_core.proofs.scratch.fill_slots.Given as goal

abbrev pub invariant-loop-place : goal.invariant-loop-place
invariant-loop-place l = record {
  slots : l.slots.items ++ map slot_of (drop l.place l.handles) ≡ map slot_of l.handles;
  len : vec_len l.slots ≤ l.place;
  capacity : vec_capacity l.fn.slots ≤ vec_capacity l.slots;
}
