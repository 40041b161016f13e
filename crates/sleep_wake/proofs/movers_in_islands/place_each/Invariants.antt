use Rattle.std.proofs.Common.{◌≡◌, ◌+◌, drop, length}
use Rattle.graph_colours.specs.Colours.{all_members}
use Rattle.sleep_wake.specs.Waking.{placed_all}
use Rattle.sleep_wake.specs.Rooms.{CanPlace}
use Rattle.sleep_wake.proofs.movers_in_islands.place_each.Given as goal

abbrev pub invariant-loop-place : goal.invariant-loop-place
invariant-loop-place g l = record {
  can : CanPlace g.C.ConstraintId.number (drop l.place l.list) l.colours.lists l.colours.room l.colours.slots;
  rest : placed_all g.C.ConstraintId.number l.colours.lists (drop l.place l.list) ≡ placed_all g.C.ConstraintId.number l.fn.colours.lists l.list;
  slots : l.colours.slots ≡ l.fn.colours.slots;
  room : l.colours.room + length (all_members l.colours.lists) ≡ l.fn.colours.room + length (all_members l.fn.colours.lists);
}
