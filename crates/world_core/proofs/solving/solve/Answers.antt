use Rattle.std.proofs.Common.{◌∙◌, List, length, map, refl, ap, sym, subst}
use Rattle.colour_solver.specs.Ticks.{Run}
use Rattle.colour_solver.specs.ConstraintVisits.{AreRowsBelow, contacts_among, joints_among}
use Rattle.world_core_base.specs.ConstraintRows.{rows_of}
use Rattle.world_core_base.specs.Gather.{states_of}
use Rattle.world_core_base.specs.Renewal.{renewed_bodies}
use Rattle.world_core_base.specs.Solving.{solve_order, solved}
use Rattle.world_core_base.specs.StepRuns.{HaveImpulses, run_over}
use Rattle.graph_colours.specs.Colours.{ids_of}
use Rattle.plain_world.specs.Joints.{AreJoints}
use Rattle.world_core_base.proofs.GatherLaws.{courses-all, states-all}
use Rattle.world_rules.proofs.StepParts.{IsLeft, arrays_left}
use Rattle.contacts_base.specs.Contacts.{number_of}
use Rattle.contacts_base.specs.declared.contact.ContactEntry.{ContactEntry}
use Rattle.world_core_base.specs.ContactBodies.{AreContactsOf}
use Rattle.world_core_base.proofs.ContactLaws.{contacts_on, contacts_stay, keys_stay}
use Rattle.world_core_base.proofs.JointLaws.{bare_rows, contact_rows_whole, joint_rows_whole, joints_stay}
use Rattle.world_core_base.proofs.SolvingJoints.{bare_joints}
use Rattle.world_core.proofs.ForbiddenLaws.{barely_pairs}
use Rattle.world_core.proofs.ChangedJointLaws.{barely_ends}
use Rattle.world_core.proofs.solving.solve.Given
use Rattle.world_core.proofs.solving.solve.Goals as goal

pub run-requires-clause-can : goal.run-requires-clause-can
run-requires-clause-can g c =
    let bodies = c.args.bodies.now.bodies in
    let can = c.requires.can in
    record {
      states_within = states-all bodies c.requires.bodies;
      courses = courses-all bodies c.requires.bodies;
      joined = can.joined;
      contacts_on = contacts_on bodies c.args.constraints.now.contacts.contacts (rw c.split-kept.ensures at c.know_ascending.ensures.contacts) can.pairs;
      movable = can.movable;
      there = can.there;
      once = can.once.once;
      apart = c.requires.apart;
      movers = c.requires.movers;
    }

-- the run of the step
abbrev run_now : (g : Given.Over) (c : goal.After-run g) → Run
run_now g c = run_over c.args.pace.count c.args.pace.gravity (states_of c.args.bodies.now.bodies) c.args.constraints.now.joints.joints c.args.constraints.now.contacts.contacts c.args.colours.now.lists

-- what it leaves of impulses, and where the bodies of its rows stand
impulses : (g : Given.Over) (c : goal.After-run g) → HaveImpulses (run_now g c) c.args.constraints.now.joints.joints c.args.constraints.now.contacts.contacts c.run.new.constraints.joints.joints c.run.new.constraints.contacts.contacts c.run.result
impulses g c = c.run.ensures.impulses

below : (g : Given.Over) (c : goal.After-run g) → AreRowsBelow (length c.args.bodies.now.bodies) (run_now g c).rows
below g c = c.run.ensures.rows

-- what the arrays leave is what the definition of a step leaves
left : (g : Given.Over) (c : goal.After-run g) → IsLeft c.args.bodies.now.bodies c.args.constraints.now.joints.joints c.args.constraints.now.contacts.contacts (run_now g c).states (run_now g c).rows c.run.result (solved c.args.pace.count c.args.pace.gravity (solve_order (ids_of c.args.colours.now.lists)) c.args.bodies.now.bodies c.args.constraints.now.joints.joints c.args.constraints.now.contacts.contacts)
left g c =
    let lists = c.args.colours.now.lists in
    let rows = rows_of (states_of c.args.bodies.now.bodies) c.args.constraints.now.joints.joints c.args.constraints.now.contacts.contacts lists in
    arrays_left c.args.pace.count c.args.pace.gravity c.args.bodies.now.bodies c.args.constraints.now.joints.joints c.args.constraints.now.contacts.contacts lists rows (run_now g c).rows c.run.result c.requires.can.rising c.requires.can.once refl (impulses g c).sums_are

pub returns-clause-bodies : goal.returns-clause-bodies
returns-clause-bodies g c = c.run.ensures.bodies ∙ ap renewed_bodies (left g c).bodies_left

pub returns-clause-joints : goal.returns-clause-joints
returns-clause-joints g c = (impulses g c).joints_left ∙ (left g c).joints_left

pub returns-clause-contacts : goal.returns-clause-contacts
returns-clause-contacts g c = (impulses g c).contacts_left ∙ (left g c).contacts_left

pub returns-clause-sums : goal.returns-clause-sums
returns-clause-sums g c = (left g c).sums_left

pub returns-clause-all_joints : goal.returns-clause-all_joints
returns-clause-all_joints g c =
    let bodies = c.args.bodies.now.bodies in
    subst (AreJoints bodies) (sym (impulses g c).joints_left) (joints_stay bodies c.args.constraints.now.joints.joints (joints_among (run_now g c).rows) (joint_rows_whole (length bodies) (run_now g c).rows (below g c)) c.requires.can.joints_there)

pub returns-clause-pairs : goal.returns-clause-pairs
returns-clause-pairs g c =
    let bodies = c.args.bodies.now.bodies in
    subst (AreContactsOf bodies) (sym (impulses g c).contacts_left) (contacts_stay bodies c.args.constraints.now.contacts.contacts (contacts_among (run_now g c).rows) (contact_rows_whole (length bodies) (run_now g c).rows (below g c)) c.requires.can.pairs)

pub returns-clause-forbidden : goal.returns-clause-forbidden
returns-clause-forbidden g c = barely_pairs c.args.constraints.now.joints.joints c.run.new.constraints.joints.joints (ap bare_joints (impulses g c).joints_left ∙ bare_rows c.args.constraints.now.joints.joints (joints_among (run_now g c).rows))

pub returns-clause-ends : goal.returns-clause-ends
returns-clause-ends g c = barely_ends c.args.constraints.now.joints.joints c.run.new.constraints.joints.joints (ap bare_joints (impulses g c).joints_left ∙ bare_rows c.args.constraints.now.joints.joints (joints_among (run_now g c).rows))

pub returns-clause-numbers : goal.returns-clause-numbers
returns-clause-numbers g c = ap (λ (es : List ContactEntry). map number_of es) (impulses g c).contacts_left ∙ keys_stay c.args.constraints.now.contacts.contacts (contacts_among (run_now g c).rows)

pub returns-clause-numbered : goal.returns-clause-numbered
returns-clause-numbered g c = c.run.ensures.numbered
