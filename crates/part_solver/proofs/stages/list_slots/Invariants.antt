use Rattle.std.proofs.Common.{◌≡◌, ◌≤◌, length, take, vec_capacity, vec_len}
use Rattle.part_solver.specs.Stages.{slots_of}
use Rattle.part_solver.proofs.stages.list_slots.Given as goal

abbrev pub invariant-loop-index : goal.invariant-loop-index
invariant-loop-index l = record {
  done : l.slots.items ≡ slots_of l.joints (take l.index l.members);
  room : length l.members ≤ vec_capacity l.slots;
  long : vec_len l.slots ≡ l.index;
}
