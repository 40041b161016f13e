use Rattle.std.proofs.Common.{◌≡◌, ◌≤◌, ◌+◌, ◌++◌, drop, length}
use Rattle.contacts_base.specs.Split.{contacts_in}
use Rattle.colour_solver.specs.ConstraintVisits.{AreRowsBelow}
use Rattle.world_core_base.specs.ConstraintRows.{rows_in}
use Rattle.world_core_base.proofs.gather.gather_colour.Given as goal

abbrev pub invariant-loop-member : goal.invariant-loop-member
invariant-loop-member l = record {
  colours : l.rows.colours ≡ l.initial.rows.colours;
  left : l.rows.left ++ rows_in l.sources.states.now l.sources.joints.now (contacts_in l.sources.contacts.now) (drop l.member-index l.members) ≡ rows_in l.sources.states.now l.sources.joints.now (contacts_in l.sources.contacts.now) l.members;
  rows : AreRowsBelow (length l.sources.states.now) l.rows.left;
  room : l.initial.rows.room ≤ l.rows.room + l.member-index;
  more : l.rows.more ≡ l.initial.rows.more;
}
