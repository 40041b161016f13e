use Rattle.std.proofs.Common.{◌≡◌, ◌≤◌, ◌+◌, ◌++◌, length, drop}
use Rattle.std.specs.Vec.{vec_len, vec_capacity}
use Rattle.graph_colours.specs.Edits.{all_edited}
use Rattle.graph_colours.proofs.edits.pass.Given as goal

abbrev pub invariant-loop-place : goal.invariant-loop-place
invariant-loop-place g l = record {
  within : l.done ≤ length l.members;
  rest : l.list.items ++ all_edited g.C.ConstraintId.number (drop l.place l.edits) (drop l.done l.members) ≡ l.fn.list.items ++ all_edited g.C.ConstraintId.number l.edits l.members;
  room : vec_len l.list + length (drop l.done l.members) + length (drop l.place l.edits) ≤ vec_capacity l.list;
  capacity : vec_capacity l.fn.list ≤ vec_capacity l.list;
}
