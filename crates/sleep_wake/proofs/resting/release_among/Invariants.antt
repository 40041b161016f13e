use Rattle.std.proofs.Common.{◌≡◌, ◌+◌, drop, length}
use Rattle.std.specs.Prelude.{filter}
use Rattle.graph_colours.specs.Colours.{all_members}
use Rattle.sleep_wake.specs.Waking.{released_all}
use Rattle.sleep_wake.specs.Resting.{least_at, is_to_rest}
use Rattle.sleep_wake.specs.Rooms.{OwnMovers}
use Rattle.sleep_wake.proofs.resting.release_among.Given as goal

abbrev pub invariant-loop-place : goal.invariant-loop-place
invariant-loop-place g l = record {
  own : OwnMovers g.C.ConstraintId.number l.ties l.colours.lists;
  rest : released_all g.C.ConstraintId.number l.colours.lists (filter (is_to_rest (least_at l.leasts) l.islands.labels) (drop l.place l.ties)) ≡ released_all g.C.ConstraintId.number l.fn.colours.lists (filter (is_to_rest (least_at l.leasts) l.islands.labels) l.ties);
  slots : l.colours.slots ≡ l.fn.colours.slots;
  room : l.colours.room + length (all_members l.colours.lists) ≡ l.fn.colours.room + length (all_members l.fn.colours.lists);
}
