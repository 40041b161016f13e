use Rattle.std.proofs.Common.{rules, ◌≡◌, ◌∙◌, length, arith, Fits, w32}
use Rattle.contacts_base.specs.Split.{contacts_in}
use Rattle.plain_world.specs.declared.constraint.Constraint.TheVariants as constraints
use Rattle.plain_world.specs.Joints.{joint_at}
use Rattle.world_core_base.specs.Gather.{row_of}
use Rattle.world_core_base.proofs.JointLaws.{contact_below, joint_below}
use Rattle.world_core_base.proofs.gather.add_row.Goals as goal

pub push_joint-requires-clause-first : goal.push_joint-requires-clause-first
push_joint-requires-clause-first c =
    let slot : Fits w32 c.in-Joint.handle.slot = search rules in
    let generation : Fits w32 c.in-Joint.handle.generation = search rules in
    let first = rw c.in-Joint.is at c.requires.first in
    first (omega (arith, slot.fits, generation.fits))

pub returns-in-Joint-clause-row : goal.returns-in-Joint-clause-row
returns-in-Joint-clause-row c = λ x e.
    let slot = c.in-Joint.handle.slot in
    joint_below c.args.sources.states.now slot (joint_at c.args.sources.joints.now slot) x (rw c.in-Joint.is at c.requires.joint) (λ r f. c.joint_row_at-row.ensures.row r (c.joint_row_at-row.ensures.value ∙ f)) (rw c.in-Joint.is at e)

pub returns-in-Contact-clause-row : goal.returns-in-Contact-clause-row
returns-in-Contact-clause-row c = λ x e.
    let made = row_of c.args.sources.states.now (contacts_in c.args.sources.contacts.now) (constraints.Contact c.in-Contact.field-0) in
    let value : c.row_of-row.result ≡ made = rw c.in-Contact.is at c.row_of-row.ensures.value in
    contact_below (length c.args.sources.states.now) made x (λ r f. c.row_of-row.ensures.row r (value ∙ f)) (rw c.in-Contact.is at e)
