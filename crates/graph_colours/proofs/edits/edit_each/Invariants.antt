use Rattle.std.proofs.Common.{◌≡◌, ◌≤◌, drop}
use Rattle.std.specs.Vec.{vec_capacity}
use Rattle.graph_colours.specs.Edits.{all_edited, IsEdited}
use Rattle.graph_colours.proofs.edits.edit_each.Given as goal

abbrev pub invariant-loop-place : goal.invariant-loop-place
invariant-loop-place g l = record {
  rest : all_edited g.C.ConstraintId.number (drop l.place l.edits) l.list.items ≡ all_edited g.C.ConstraintId.number l.edits l.fn.list.items;
  edited : IsEdited g.C.ConstraintId.number l.list.items (drop l.place l.edits) (vec_capacity l.list);
  capacity : vec_capacity l.fn.list ≤ vec_capacity l.list;
}
