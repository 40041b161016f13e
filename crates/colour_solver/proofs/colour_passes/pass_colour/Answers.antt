use Rattle.colour_solver.specs.States.{as_vector}
use Rattle.colour_solver.specs.RowVisits.{between}
use Rattle.colour_solver.specs.ColourRows.{joints_first}
use Rattle.colour_solver.specs.ConstraintVisits.{IsConstraintRow, both_visits, constraint_slots}
use Rattle.colour_solver.proofs.KindLaws.{joints_then_contacts}
use Rattle.colour_solver.proofs.PassedLaws.{passed_small}
use Rattle.colour_solver.proofs.colour_passes.pass_colour.Goals as goal

pub returns-clause-passed : goal.returns-clause-passed
returns-clause-passed g c =
    let joints = c.pass_rows-by_joints in
    let contacts = c.pass_rows-by_contacts in
    rw (c.plus.ensures.x, c.plus.ensures.y)
    (joints_then_contacts (g.J.Visit.visit c.args.joint_visit.now) (g.C.Visit.visit c.args.contact_visit.now) c.args.states.now.items joints.new.states.items contacts.new.states.items
    (between c.args.span.start.joints c.args.span.end.joints c.args.joints.now.items) (between c.args.span.start.joints c.args.span.end.joints joints.new.rows.items)
    (between c.args.span.start.contacts c.args.span.end.contacts c.args.contacts.now.items) (between c.args.span.start.contacts c.args.span.end.contacts contacts.new.rows.items)
    (as_vector joints.result) (as_vector contacts.result) joints.ensures.passed contacts.ensures.passed)

pub returns-clause-small : goal.returns-clause-small
returns-clause-small g c =
    passed_small constraint_slots IsConstraintRow (both_visits (g.J.Visit.visit c.args.joint_visit.now) (g.C.Visit.visit c.args.contact_visit.now)) c.args.states.now.items c.pass_rows-by_contacts.new.states.items
    (joints_first (between c.args.span.start.joints c.args.span.end.joints c.args.joints.now.items) (between c.args.span.start.contacts c.args.span.end.contacts c.args.contacts.now.items))
    (joints_first (between c.args.span.start.joints c.args.span.end.joints c.pass_rows-by_joints.new.rows.items) (between c.args.span.start.contacts c.args.span.end.contacts c.pass_rows-by_contacts.new.rows.items))
    c.plus.result c.requires.few c.requires.states (returns-clause-passed g c)
