use Rattle.std.proofs.Common.{◌≡◌, ◌++◌, ◌+◌, ◌≤◌, reverse, vec_capacity, vec_len}
use Rattle.std.specs.List.{filter_map}
use Rattle.world_workers.proofs.tasks.unstack_answers.Given as goal

abbrev pub invariant-loop-taken : goal.invariant-loop-taken
invariant-loop-taken g l = record {
  whole : l.answers.items ++ filter_map g.T.Answer.taken (reverse l.stack.items) ≡ l.fn.answers.items ++ filter_map g.T.Answer.taken (reverse l.fn.stack.items);
  left : vec_len l.stack + l.taken ≡ vec_len l.fn.stack;
  room : vec_len l.answers + vec_len l.stack ≤ vec_capacity l.answers;
}
