use Rattle.std.proofs.Common.{◌+◌, ◌-◌, ◌≤◌, length, vec_capacity}
use Rattle.islands.proofs.StandingLemmas.{AreSoMany}
use Rattle.islands.proofs.thread_nodes.pad_node_entries.Given as goal

abbrev pub invariant-loop-number : goal.invariant-loop-number
invariant-loop-number l = record {
  many : AreSoMany l.fn.node_entries.items l.number l.node_entries.items;
  least : length l.fn.node_entries.items ≤ l.number;
  most : l.number ≤ length l.fn.node_entries.items + (l.slots - length l.fn.node_entries.items);
  capacity : vec_capacity l.fn.node_entries ≤ vec_capacity l.node_entries;
}
