use Rattle.std.proofs.Common.{◌≡◌, length, drop}
use Rattle.std.specs.Vec.{vec_capacity}
use Rattle.graph_colours.specs.Members.{AreRising}
use Rattle.graph_colours.specs.Edits.{all_edited}
use Rattle.graph_colours.specs.Gaps.{IsGap, closed}
use Rattle.graph_colours.proofs.removals.remove_from.Given as goal

abbrev pub invariant-loop-place : goal.invariant-loop-place
invariant-loop-place g l = record {
  rest : closed g.C.ConstraintId.number l.gap (drop l.place l.edits) l.list.items ≡ all_edited g.C.ConstraintId.number l.edits l.fn.list.items;
  gap : IsGap l.gap (length l.list.items);
  rising : AreRising g.C.ConstraintId.number (drop l.gap.end l.list.items);
  capacity : vec_capacity l.list ≡ vec_capacity l.fn.list;
}
