use Rattle.std.proofs.Common.{rules, ◌≡◌, ℕ, ◌++◌, [], ◌∷◌, length}
use Rattle.colour_solver.specs.declared.colour_ends.ColourEnd.{ColourEnd}
use Rattle.colour_solver.proofs.KeptRowLaws.{colours_pushed, ends_pushed, none_left}
use Rattle.colour_solver.proofs.colour_rows.Rows.end_colour.Goals as goal

abbrev joint_end : ColourEnd → ℕ
joint_end e = e.joints

abbrev contact_end : ColourEnd → ℕ
contact_end e = e.contacts

pub invariant_of-self : goal.invariant_of-self
invariant_of-self c =
    let ends = c.self.inside.ends.items in
    let end : ColourEnd = record { joints = c.len.result; contacts = c.len-2.result } in
    let pushed : c.push.new.self.items ≡ ends ++ end ∷ [] = search rules in
    let joints : joint_end end ≡ length c.self.inside.joints.items = search rules in
    let contacts : contact_end end ≡ length c.self.inside.contacts.items = search rules in
    rw pushed (ends_pushed joint_end ends end (length c.self.inside.joints.items) joints c.self.invariant.0, ends_pushed contact_end ends end (length c.self.inside.contacts.items) contacts c.self.invariant.1)

pub returns-clause-colours : goal.returns-clause-colours
returns-clause-colours c =
    let ends = c.self.inside.ends.items in
    let end : ColourEnd = record { joints = c.len.result; contacts = c.len-2.result } in
    let pushed : c.push.new.self.items ≡ ends ++ end ∷ [] = search rules in
    let joints : joint_end end ≡ length c.self.inside.joints.items = search rules in
    let contacts : contact_end end ≡ length c.self.inside.contacts.items = search rules in
    rw (pushed, ← c.self.view_is) (colours_pushed joint_end contact_end ends end c.self.inside.joints.items c.self.inside.contacts.items joints contacts c.self.invariant.0 c.self.invariant.1)

pub returns-clause-left : goal.returns-clause-left
returns-clause-left c =
    let ends = c.self.inside.ends.items in
    let end : ColourEnd = record { joints = c.len.result; contacts = c.len-2.result } in
    let pushed : c.push.new.self.items ≡ ends ++ end ∷ [] = search rules in
    let joints : joint_end end ≡ length c.self.inside.joints.items = search rules in
    let contacts : contact_end end ≡ length c.self.inside.contacts.items = search rules in
    rw pushed (none_left joint_end contact_end ends end c.self.inside.joints.items c.self.inside.contacts.items joints contacts c.self.invariant.0 c.self.invariant.1)
