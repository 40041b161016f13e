use Rattle.std.proofs.Common.{◌≡◌, ◌≤◌, ◌+◌, ◌++◌, reverse, vec_len, vec_capacity}
use Rattle.crew.proofs.stack.stack_last.Given as goal

abbrev pub invariant-loop-moved : goal.invariant-loop-moved
invariant-loop-moved g l = record {
  whole : l.items.items ++ reverse l.stack.items ≡ l.fn.items.items;
  long : vec_len l.items + l.moved ≡ vec_len l.fn.items;
  put : vec_len l.stack ≡ l.moved;
  room : l.count ≤ vec_capacity l.stack;
  capacity : vec_capacity l.items ≡ vec_capacity l.fn.items;
}
