use Rattle.std.proofs.Common.{ℕ, ◌≡◌, map}
use Rattle.colour_solver.specs.declared.colour_ends.ColourEnd.{ColourEnd}
use Rattle.colour_solver.specs.ColourRows.{left_of}
use Rattle.colour_solver.proofs.RowPlaceLaws.{left_contacts}
use Rattle.colour_solver.proofs.colour_rows.Rows.contacts_left.Goals as goal

abbrev joint_end : ColourEnd → ℕ
joint_end e = e.joints

abbrev contact_end : ColourEnd → ℕ
contact_end e = e.contacts

pub returns : goal.returns
returns c =
    let ends = c.self.inside.ends.items in
    let found : c.contacts_behind.result.now ≡ left_of 0 (map contact_end ends) c.self.inside.contacts.items = rw (c.deref.ensures.value, c.deref-2.ensures.value) at c.contacts_behind.ensures in
    record { contacts = rw (← c.self.view_is) (left_contacts (map joint_end ends) (map contact_end ends) c.self.inside.joints.items c.self.inside.contacts.items c.contacts_behind.result.now found) }
