use Rattle.std.proofs.Common.{◌≡◌, ◌≤◌, ℕ, length, drop, vec_capacity}
use Rattle.std.specs.Prelude.{IsSome}
use Rattle.islands.specs.Merging.{merged_all}
use Rattle.islands.specs.Packed.{IsStanding, by_slot, note_at, labels_by}
use Rattle.islands.proofs.merge.merge_all.Given as goal

abbrev pub invariant-loop-edge : goal.invariant-loop-edge
invariant-loop-edge l = record {
  standing : IsStanding l.node_entries l.notes.items l.heads.items;
  labels : merged_all (labels_by l.node_entries l.notes.items l.heads.items) (drop l.edge-index l.edges) ≡ merged_all (labels_by l.node_entries l.fn.notes.items l.fn.heads.items) l.edges;
  size : length l.notes.items ≡ length l.fn.notes.items;
  there : (s : ℕ) → IsSome (note_at (by_slot l.node_entries l.fn.notes.items) s) → IsSome (note_at (by_slot l.node_entries l.notes.items) s);
  capacity : vec_capacity l.fn.notes ≤ vec_capacity l.notes;
  heads_capacity : vec_capacity l.fn.heads ≤ vec_capacity l.heads;
}
