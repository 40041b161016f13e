use Rattle.std.proofs.Common.{rules, ◌≡◌, ◌++◌, [], ◌∷◌, map}
use Rattle.colour_solver.specs.ColourRows.{rows_left}
use Rattle.colour_solver.specs.ConstraintVisits.{contacts_among}
use Rattle.colour_solver.specs.declared.colour_ends.ColourEnd.{ColourEnd}
use Rattle.colour_solver.proofs.KeptRowLaws.{ends_still, joint_colours, joint_left}
use Rattle.colour_solver.proofs.colour_rows.Rows.push_joint.Goals as goal

pub invariant_of-self : goal.invariant_of-self
invariant_of-self c =
    let pushed : c.push.new.self.items ≡ c.self.inside.joints.items ++ c.args.row ∷ [] = search rules in
    (rw pushed (ends_still (map (λ (e : ColourEnd). e.joints) c.self.inside.ends.items) c.self.inside.joints.items c.args.row c.self.invariant.0), c.self.invariant.1)

pub returns-clause-colours : goal.returns-clause-colours
returns-clause-colours c =
    let ends = c.self.inside.ends.items in
    let pushed : c.push.new.self.items ≡ c.self.inside.joints.items ++ c.args.row ∷ [] = search rules in
    rw (pushed, ← c.self.view_is) (joint_colours (map (λ (e : ColourEnd). e.joints) ends) (map (λ (e : ColourEnd). e.contacts) ends) c.self.inside.joints.items c.self.inside.contacts.items c.args.row c.self.invariant.0)

pub returns-clause-left : goal.returns-clause-left
returns-clause-left c =
    let ends = c.self.inside.ends.items in
    let pushed : c.push.new.self.items ≡ c.self.inside.joints.items ++ c.args.row ∷ [] = search rules in
    let none : contacts_among (rows_left (map (λ (e : ColourEnd). e.joints) ends) (map (λ (e : ColourEnd). e.contacts) ends) c.self.inside.joints.items c.self.inside.contacts.items) ≡ [] = rw (← c.self.view_is) at c.requires.first in
    rw (pushed, ← c.self.view_is) (joint_left (map (λ (e : ColourEnd). e.joints) ends) (map (λ (e : ColourEnd). e.contacts) ends) c.self.inside.joints.items c.self.inside.contacts.items c.args.row c.self.invariant.0 none)
