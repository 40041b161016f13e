use Rattle.std.proofs.Common.{◌≡◌, ◌≤◌, ◌-◌, ℕ, map, length, vec_capacity}
use Rattle.packed_sets.specs.Packs.{list_at, HaveAtLeast}
use Rattle.packed_sets.proofs.packing.push_lists.Given as goal

abbrev pub invariant-loop-alloc : goal.invariant-loop-alloc
invariant-loop-alloc g l = record {
  more : length l.fn.lists.items ≤ length l.lists.items;
  same : (set : ℕ) → list_at (map (λ v. v.items) l.lists.items) set ≡ list_at (map (λ v. v.items) l.fn.lists.items) set;
  capacities : HaveAtLeast (map vec_capacity l.fn.lists.items) (map vec_capacity l.lists.items);
  room : l.sets ≤ vec_capacity l.lists;
}

abbrev pub decreases-loop-alloc : goal.decreases-loop-alloc
decreases-loop-alloc g l = l.sets - length l.lists.items
