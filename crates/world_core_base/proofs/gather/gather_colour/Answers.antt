use Rattle.std.proofs.Common.{◌∙◌, length, slice_index_or, sym, subst, arith}
use Rattle.colour_solver.specs.ConstraintVisits.{AreRowsBelow, IsRowBelow}
use Rattle.graph_colours.specs.declared.member.Member.{Member}
use Rattle.contacts_base.specs.Split.{contacts_in}
use Rattle.plain_world.specs.declared.constraint.Constraint.{Constraint}
use Rattle.world_core_base.specs.ConstraintRows.{constraint_row}
use Rattle.world_core_base.proofs.ContactLaws.{all_more, row_more}
use Rattle.world_core_base.proofs.RowOrderLaws.{joints_so_far}
use Rattle.world_core_base.proofs.gather.gather_colour.Goals as goal

pub add_row-requires-clause-first : goal.add_row-requires-clause-first
add_row-requires-clause-first c = λ low.
    joints_so_far c.args.sources.states.now c.args.sources.joints.now (contacts_in c.args.sources.contacts.now) c.args.members.now c.loop-member.member-index _ c.loop-member.rows.left c.requires.ascend c.loop-member-test.true c.loop-member.invariant.left low

pub loop-member-preserved : goal.loop-member-preserved
loop-member-preserved c =
    let find = λ (m : Member Constraint). constraint_row c.args.sources.states.now c.args.sources.joints.now (contacts_in c.args.sources.contacts.now) m.id in
    let pushed = c.add_row.ensures.left in
    record {
      colours = c.add_row.ensures.colours ∙ c.loop-member.invariant.colours;
      left = rw pushed (row_more find c.loop-member.rows.left _ c.args.members.now c.loop-member.member-index _ c.loop-member-test.true c.loop-member.invariant.left);
      rows = subst (AreRowsBelow (length c.args.sources.states.now)) (sym pushed) (all_more (IsRowBelow (length c.args.sources.states.now)) c.loop-member.rows.left (find (slice_index_or c.args.members.now c.loop-member.member-index _)) c.loop-member.invariant.rows c.add_row.ensures.row);
      room = omega (arith, c.add_row.ensures.room, c.loop-member.invariant.room);
      more = c.add_row.ensures.more ∙ c.loop-member.invariant.more;
    }
