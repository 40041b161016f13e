use Rattle.std.proofs.Common.{◌≤◌, vec_capacity, take}
use Rattle.islands.specs.Packed.{AreScattered}
use Rattle.islands.proofs.split.scatter.Given as goal

abbrev pub invariant-loop-member : goal.invariant-loop-member
invariant-loop-member l = record {
  scattered : AreScattered l.node_entries l.fn.notes.items l.fn.heads.items (take l.member-index l.members) l.notes.items l.heads.items;
  capacity : vec_capacity l.fn.notes ≤ vec_capacity l.notes;
  heads_capacity : vec_capacity l.fn.heads ≤ vec_capacity l.heads;
}
