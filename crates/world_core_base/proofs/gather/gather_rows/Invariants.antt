use Rattle.std.proofs.Common.{◌≡◌, ◌≤◌, ◌+◌, [], drop, length, map, take, All}
use Rattle.contacts_base.specs.Split.{contacts_in}
use Rattle.colour_solver.specs.ConstraintVisits.{AreRowsBelow}
use Rattle.graph_colours.specs.Colours.{all_members}
use Rattle.graph_colours.specs.declared.limits.TheConstants.{COLOURS}
use Rattle.world_core_base.specs.ConstraintRows.{rows_in}
use Rattle.world_core_base.proofs.gather.gather_rows.Given as goal

abbrev pub invariant-loop-colour : goal.invariant-loop-colour
invariant-loop-colour l = record {
  colours : l.rows.colours ≡ map (rows_in l.sources.states.now l.sources.joints.now (contacts_in l.sources.contacts.now)) (take l.colour l.colours.lists);
  left : l.rows.left ≡ [];
  rows : All (AreRowsBelow (length l.sources.states.now)) l.rows.colours;
  room : length (all_members (drop l.colour l.colours.lists)) ≤ l.rows.room;
  more : COLOURS + 1 ≤ l.rows.more + l.colour;
  low : l.colour ≤ COLOURS;
}
