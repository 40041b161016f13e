-- What the ticks of a step leave, told by the rows that have been run over.
use Rattle.std.proofs.Common.{◌≡◌, ◌^◌, List, Option, length, sym, ap, ◌∙◌, subst}
use Rattle.fixed_geom.specs.Vectors.{plus}
use Rattle.momenta.specs.declared.state.BodyState.{BodyState}
use Rattle.contacts_base.specs.declared.contact.ContactEntry.{ContactEntry}
use Rattle.colour_solver.specs.declared.constraint_row.ConstraintRow.{ConstraintRow}
use Rattle.colour_solver.specs.declared.ticks.StepSums.{StepSums}
use Rattle.colour_solver.specs.ConstraintVisits.{AreRowsBelow, contacts_among, joints_among}
use Rattle.colour_solver.specs.States.{AreAllStates, AreSameBeside, HaveCourses, total}
use Rattle.colour_solver.specs.Ticks.{AreSums, Run, added, run_of}
use Rattle.plain_world.specs.declared.joint.BodyJoint.{BodyJoint}
use Rattle.world_core_base.specs.ConstraintRows.{with_joint_rows}
use Rattle.world_core_base.specs.Gather.{with_rows}
use Rattle.world_core_base.specs.StepRuns.{HasLeft, HaveImpulses}

pub has_left : (r : Run) (states now : List BodyState) (rows : List ConstraintRow) (sums : StepSums) → run_of now rows sums ≡ r → AreRowsBelow (length now) rows → AreAllStates now → length now ≡ length states → AreSameBeside states now → HaveCourses now → AreSums (2 ^ 83) sums
    → total now ≡ plus (total states) (added sums) → HasLeft r states now sums
has_left r states now rows sums run below within long same courses small momentum = record {
  states_are = ap (λ (x : Run). x.states) run;
  rows = subst (AreRowsBelow (length now)) (ap (λ (x : Run). x.rows) run) below;
  states_within = within;
  long = long;
  same = same;
  courses = courses;
  small = small;
  momentum = momentum;
}

pub have_impulses : (r : Run) (now : List BodyState) (rows : List ConstraintRow) (sums : StepSums) (joints joints_now : List (Option BodyJoint)) (contacts contacts_now : List ContactEntry) → run_of now rows sums ≡ r → joints_now ≡ with_joint_rows joints (joints_among rows) → contacts_now ≡ with_rows contacts (contacts_among rows)
    → HaveImpulses r joints contacts joints_now contacts_now sums
have_impulses r now rows sums joints joints_now contacts contacts_now run to_joints to_contacts =
    let same_states : now ≡ r.states = ap (λ (x : Run). x.states) run in
    let same_rows : rows ≡ r.rows = ap (λ (x : Run). x.rows) run in
    record {
      sums_are = (λ j. run_of (sym same_states j) (sym same_rows j) sums) ∙ run;
      joints_left = to_joints ∙ ap (λ (l : List ConstraintRow). with_joint_rows joints (joints_among l)) same_rows;
      contacts_left = to_contacts ∙ ap (λ (l : List ConstraintRow). with_rows contacts (contacts_among l)) same_rows;
    }
