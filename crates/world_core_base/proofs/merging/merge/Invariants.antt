use Rattle.std.proofs.Common.{◌≤◌, vec_capacity}
use Rattle.world_core_base.specs.Listing.{is_of}
use Rattle.world_core_base.proofs.MergingLaws.{IsMerged}
use Rattle.world_core_base.proofs.merging.merge.Given as goal

abbrev pub invariant-loop-turn : goal.invariant-loop-turn
invariant-loop-turn l = record {
  merged : IsMerged (is_of l.group) l.states l.slots l.added l.passed l._turn l.end l.list.items;
  capacity : vec_capacity l.fn.list ≤ vec_capacity l.list;
}
