use Rattle.std.proofs.Common.{[], ◌∙◌, List, Option, add-one, ap, sym}
use Rattle.contacts_base.specs.declared.contact.ContactEntry.{ContactEntry}
use Rattle.colour_solver.specs.ConstraintVisits.{contacts_among, joints_among}
use Rattle.colour_solver.specs.Ticks.{start}
use Rattle.colour_solver.specs.declared.constraint_row.ConstraintRow.{ConstraintRow}
use Rattle.plain_world.specs.declared.joint.BodyJoint.{BodyJoint}
use Rattle.world_core_base.specs.ConstraintRows.{with_joint_rows}
use Rattle.world_core_base.specs.Gather.{with_rows}
use Rattle.part_solver.specs.Parts.{Solved, run_at}
use Rattle.part_solver.specs.PuttingBack.{contacts_by, joints_by}
use Rattle.part_solver.proofs.ReadLaws.{there_is}
use Rattle.part_solver.proofs.back.put_all_impulses.Goals as goal

pub loop-number-preserved : goal.loop-number-preserved
loop-number-preserved c =
    let parts = c.args.parts.now in
    let i = c.loop-number.number in
    let known = c.loop-number.invariant in
    let here = there_is parts i c.index-parts-number.result c.index-parts-number.result (record { number = 0; run = start [] [] }) c.loop-number-test.true c.index-parts-number.is in
    let rows = c.rows.ensures ∙ ap (λ (s : Solved). s.run.rows) here in
    record {
      joints = c.put_impulses.ensures.joints ∙ ap (λ (l : List ConstraintRow). with_joint_rows c.loop-number.constraints.joints.joints (joints_among l)) rows ∙ ap (λ (js : List (Option BodyJoint)). with_joint_rows js (joints_among (run_at parts i).rows)) known.joints ∙ ap (joints_by c.args.constraints.now.joints.joints parts) (sym (add-one i));
      contacts = c.put_impulses.ensures.contacts ∙ ap (λ (l : List ConstraintRow). with_rows c.loop-number.constraints.contacts.contacts (contacts_among l)) rows ∙ ap (λ (es : List ContactEntry). with_rows es (contacts_among (run_at parts i).rows)) known.contacts ∙ ap (contacts_by c.args.constraints.now.contacts.contacts parts) (sym (add-one i));
      numbered = c.put_impulses.ensures.numbered ∙ known.numbered;
    }
