use Rattle.std.proofs.Common.{ℕ, ◌≡◌, ◌<◌, [], length, get_or, map, arith}
use Rattle.std.proofs.lemmas.List.{length-map}
use Rattle.colour_solver.specs.declared.colour_ends.ColourEnd.{ColourEnd}
use Rattle.colour_solver.specs.ColourRows.{colours_of, cut}
use Rattle.colour_solver.proofs.KeptRowLaws.{as_many_ends}
use Rattle.colour_solver.proofs.RowPlaceLaws.{colour_joints, colour_order, colours_count}
use Rattle.colour_solver.proofs.colour_rows.Rows.joints_in.Goals as goal

abbrev joint_end : ColourEnd → ℕ
joint_end e = e.joints

abbrev contact_end : ColourEnd → ℕ
contact_end e = e.contacts

pub joints_of-requires-clause-colour : goal.joints_of-requires-clause-colour
joints_of-requires-clause-colour c =
    let ends = c.self.inside.ends.items in
    let few : c.args.colour < length (colours_of (map joint_end ends) (map contact_end ends) c.self.inside.joints.items c.self.inside.contacts.items) = rw (← c.self.view_is) at c.requires in
    let long = colours_count (map joint_end ends) (map contact_end ends) c.self.inside.joints.items c.self.inside.contacts.items (as_many_ends joint_end contact_end ends) in
    let ends_long = length-map ends joint_end in
    rw c.deref-2.ensures.value (omega (arith, few, long, ends_long))

pub returns-clause-joints : goal.returns-clause-joints
returns-clause-joints c =
    let ends = c.self.inside.ends.items in
    let found : c.joints_of.result.now ≡ get_or (cut 0 (map joint_end ends) c.self.inside.joints.items) c.args.colour [] = rw (c.deref.ensures.value, c.deref-2.ensures.value) at c.joints_of.ensures in
    rw (← c.self.view_is) (colour_joints (map joint_end ends) (map contact_end ends) c.self.inside.joints.items c.joints_of.result.now c.self.inside.contacts.items c.args.colour (as_many_ends joint_end contact_end ends) found)

pub returns-clause-order : goal.returns-clause-order
returns-clause-order c =
    let ends = c.self.inside.ends.items in
    let found : c.joints_of.result.now ≡ get_or (cut 0 (map joint_end ends) c.self.inside.joints.items) c.args.colour [] = rw (c.deref.ensures.value, c.deref-2.ensures.value) at c.joints_of.ensures in
    rw (← c.self.view_is) (colour_order (map joint_end ends) (map contact_end ends) c.self.inside.joints.items c.joints_of.result.now c.self.inside.contacts.items c.args.colour (as_many_ends joint_end contact_end ends) found)
