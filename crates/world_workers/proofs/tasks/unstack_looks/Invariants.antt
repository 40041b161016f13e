use Rattle.std.proofs.Common.{◌≡◌, ◌++◌, ◌+◌, ◌≤◌, map, reverse, vec_capacity, vec_len}
use Rattle.std.specs.Arc.{arc_value}
use Rattle.world_workers.specs.declared.tasks.Task.TheVariants.{Look}
use Rattle.world_workers.proofs.tasks.unstack_looks.Given as goal

abbrev pub invariant-loop-taken : goal.invariant-loop-taken
invariant-loop-taken l = record {
  whole : l.tasks.items ++ map (λ p. Look (arc_value l.lent, p)) (reverse l.stack.items) ≡ l.fn.tasks.items ++ map (λ p. Look (arc_value l.lent, p)) (reverse l.fn.stack.items);
  left : vec_len l.stack + l.taken ≡ vec_len l.fn.stack;
  room : vec_len l.tasks + vec_len l.stack ≤ vec_capacity l.tasks;
}
