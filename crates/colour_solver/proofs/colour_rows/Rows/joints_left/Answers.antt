use Rattle.std.proofs.Common.{ℕ, ◌≡◌, map}
use Rattle.colour_solver.specs.declared.colour_ends.ColourEnd.{ColourEnd}
use Rattle.colour_solver.specs.ColourRows.{left_of}
use Rattle.colour_solver.proofs.RowPlaceLaws.{left_joints, left_order}
use Rattle.colour_solver.proofs.colour_rows.Rows.joints_left.Goals as goal

abbrev joint_end : ColourEnd → ℕ
joint_end e = e.joints

abbrev contact_end : ColourEnd → ℕ
contact_end e = e.contacts

pub returns-clause-joints : goal.returns-clause-joints
returns-clause-joints c =
    let ends = c.self.inside.ends.items in
    let found : c.joints_behind.result.now ≡ left_of 0 (map joint_end ends) c.self.inside.joints.items = rw (c.deref.ensures.value, c.deref-2.ensures.value) at c.joints_behind.ensures in
    rw (← c.self.view_is) (left_joints (map joint_end ends) (map contact_end ends) c.self.inside.joints.items c.joints_behind.result.now c.self.inside.contacts.items found)

pub returns-clause-order : goal.returns-clause-order
returns-clause-order c =
    let ends = c.self.inside.ends.items in
    let found : c.joints_behind.result.now ≡ left_of 0 (map joint_end ends) c.self.inside.joints.items = rw (c.deref.ensures.value, c.deref-2.ensures.value) at c.joints_behind.ensures in
    rw (← c.self.view_is) (left_order (map joint_end ends) (map contact_end ends) c.self.inside.joints.items c.joints_behind.result.now c.self.inside.contacts.items found)
