use Rattle.std.proofs.Common.{◌≡◌, ◌≤◌, ◌+◌, ◌*◌, [], All, drop, length, take, vec_capacity, vec_len}
use Rattle.colour_solver.specs.ConstraintVisits.{AreRowsBelow}
use Rattle.part_solver.proofs.WalkStages.{AreMoved, flat, own_of}
use Rattle.part_solver.proofs.walk.walk.Given as goal

abbrev pub invariant-loop-colour : goal.invariant-loop-colour
invariant-loop-colour l =
    let rest = length (flat (drop l.colour l.step.rows.colours)) + length l.step.rows.left in
    record {
      moved : AreMoved l.step l.number l.colour l.lists.at.items l.lists.ends.items l.lists.moves.items;
      count : vec_len l.lists.ends ≡ l.colour;
      colours : l.lists.rows.colours ≡ take l.colour (own_of l.step l.number);
      left : l.lists.rows.left ≡ [];
      below : All (AreRowsBelow (length l.step.states)) l.lists.rows.colours;
      rows_room : rest ≤ l.lists.rows.room;
      own_room : rest ≤ vec_capacity l.lists.own;
      moves_room : vec_len l.lists.moves + (2 * rest + length l.step.states) ≤ vec_capacity l.lists.moves;
      colours_room : length l.step.rows.colours + 1 ≤ l.lists.rows.more + l.colour;
      ends_room : length l.step.rows.colours + 2 ≤ vec_capacity l.lists.ends;
      states : l.lists.states.items ≡ l.fn.lists.states.items;
      awake : l.lists.awake.items ≡ l.fn.lists.awake.items;
      carried : l.lists.carried.items ≡ l.fn.lists.carried.items;
    }
