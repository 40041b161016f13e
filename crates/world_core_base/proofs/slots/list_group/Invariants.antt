use Rattle.std.proofs.Common.{◌≡◌, ◌≤◌, ◌++◌, drop, vec_len, vec_capacity}
use Rattle.colour_solver.specs.States.{places_from}
use Rattle.world_core_base.specs.Listing.{is_of}
use Rattle.world_core_base.proofs.slots.list_group.Given as goal

abbrev pub invariant-loop-slot : goal.invariant-loop-slot
invariant-loop-slot l = record {
  items : (l.slots.items ++ places_from (is_of l.group) l.slot (drop l.slot l.states)) ≡ places_from (is_of l.group) 0 l.states;
  len : vec_len l.slots ≤ l.slot;
  capacity : vec_capacity l.fn.slots ≤ vec_capacity l.slots;
}
