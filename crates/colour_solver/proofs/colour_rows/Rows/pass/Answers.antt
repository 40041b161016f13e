use Rattle.std.proofs.Common.{ℕ, length, map, subst}
use Rattle.joint_rows.specs.Rows.{IsJointRow}
use Rattle.colour_solver_base.specs.Rows.{IsRow}
use Rattle.colour_solver.specs.declared.colour_ends.ColourEnd.{ColourEnd}
use Rattle.colour_solver.specs.ColourRows.{rows_kept}
use Rattle.colour_solver.specs.RowVisits.{AreRowsOn}
use Rattle.colour_solver.specs.ConstraintVisits.{AreRowsBelow, contact_slots, joint_slots}
use Rattle.colour_solver.proofs.KeptRowLaws.{as_many_ends, colours_long, contacts_kept, joints_kept}
use Rattle.colour_solver.proofs.KindLaws.{contacts_below, joints_below}
use Rattle.colour_solver.proofs.colour_rows.Rows.pass.Goals as goal

abbrev joint_end : ColourEnd → ℕ
joint_end e = e.joints

abbrev contact_end : ColourEnd → ℕ
contact_end e = e.contacts

pub pass_colours-requires-clause-joints : goal.pass_colours-requires-clause-joints
pass_colours-requires-clause-joints g c =
    let ends = c.self.inside.ends.items in
    let n = length c.args.states.now.items in
    let below : AreRowsBelow n (rows_kept (map joint_end ends) (map contact_end ends) c.self.inside.joints.items c.self.inside.contacts.items) = rw (← c.self.view_is) at c.requires.rows in
    subst (AreRowsOn joint_slots IsJointRow n) (joints_kept (map joint_end ends) (map contact_end ends) c.self.inside.joints.items c.self.inside.contacts.items (as_many_ends joint_end contact_end ends)) (joints_below n _ below)

pub pass_colours-requires-clause-contacts : goal.pass_colours-requires-clause-contacts
pass_colours-requires-clause-contacts g c =
    let ends = c.self.inside.ends.items in
    let n = length c.args.states.now.items in
    let below : AreRowsBelow n (rows_kept (map joint_end ends) (map contact_end ends) c.self.inside.joints.items c.self.inside.contacts.items) = rw (← c.self.view_is) at c.requires.rows in
    subst (AreRowsOn contact_slots IsRow n) (contacts_kept (map joint_end ends) (map contact_end ends) c.self.inside.joints.items c.self.inside.contacts.items (as_many_ends joint_end contact_end ends)) (contacts_below n _ below)

pub returns-clause-colours : goal.returns-clause-colours
returns-clause-colours g c =
    let ends = c.self.inside.ends.items in
    rw (← c.self.view_is)
    (colours_long (map joint_end ends) (map contact_end ends) c.pass_colours.new.joints.items c.self.inside.joints.items c.pass_colours.new.contacts.items c.self.inside.contacts.items (as_many_ends joint_end contact_end ends) c.pass_colours.ensures.as_many_joints c.pass_colours.ensures.as_many_contacts)
