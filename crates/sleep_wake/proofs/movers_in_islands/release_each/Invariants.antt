use Rattle.std.proofs.Common.{◌≡◌, ◌+◌, drop, length}
use Rattle.graph_colours.specs.Colours.{all_members}
use Rattle.sleep_wake.specs.Waking.{released_all}
use Rattle.sleep_wake.specs.Rooms.{OwnMovers}
use Rattle.sleep_wake.proofs.movers_in_islands.release_each.Given as goal

abbrev pub invariant-loop-place : goal.invariant-loop-place
invariant-loop-place g l = record {
  own : OwnMovers g.C.ConstraintId.number l.list l.colours.lists;
  rest : released_all g.C.ConstraintId.number l.colours.lists (drop l.place l.list) ≡ released_all g.C.ConstraintId.number l.fn.colours.lists l.list;
  slots : l.colours.slots ≡ l.fn.colours.slots;
  room : l.colours.room + length (all_members l.colours.lists) ≡ l.fn.colours.room + length (all_members l.fn.colours.lists);
}
