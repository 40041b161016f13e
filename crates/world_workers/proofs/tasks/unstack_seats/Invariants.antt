use Rattle.std.proofs.Common.{◌≡◌, ◌++◌, ◌+◌, ◌≤◌, map, reverse, vec_capacity, vec_len}
use Rattle.world_workers.specs.declared.tasks.Task.TheVariants.{Seat}
use Rattle.world_workers.proofs.tasks.unstack_seats.Given as goal

abbrev pub invariant-loop-taken : goal.invariant-loop-taken
invariant-loop-taken l = record {
  whole : l.tasks.items ++ map Seat (reverse l.stack.items) ≡ l.fn.tasks.items ++ map Seat (reverse l.fn.stack.items);
  left : vec_len l.stack + l.taken ≡ vec_len l.fn.stack;
  room : vec_len l.tasks + vec_len l.stack ≤ vec_capacity l.tasks;
}
