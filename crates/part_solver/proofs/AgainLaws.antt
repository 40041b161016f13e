-- A step that its parts have given up is the one that the calling thread runs alone, since nothing of it is changed.
use Rattle.std.proofs.Common.{◌≡◌, ◌≤◌, ℕ, List, Option, length, ap, sym, ◌∙◌, subst}
use Rattle.body_handles.specs.declared.slot_table.TheConstants.{MAX_SLOTS}
use Rattle.fixed_geom.specs.declared.vectors.Vec2.{Vec2}
use Rattle.momenta.specs.declared.state.BodyState.{BodyState}
use Rattle.graph_colours.specs.Colours.{Coloured}
use Rattle.graph_colours.specs.declared.member.Member.{Member}
use Rattle.contacts_base.specs.declared.contact.ContactEntry.{ContactEntry}
use Rattle.plain_world.specs.declared.constraint.Constraint.{Constraint}
use Rattle.colour_solver.specs.declared.ticks.StepSums.{StepSums}
use Rattle.colour_solver.specs.States.{carried_of, movers_of}
use Rattle.plain_world.specs.declared.joint.BodyJoint.{BodyJoint}
use Rattle.world_core_base.specs.declared.gathered_rows.GatheredRows.{GatheredRows}
use Rattle.world_core_base.specs.declared.step_solver.Constraints.{Constraints}
use Rattle.world_core_base.specs.declared.step_solver.MovingSlots.{MovingSlots}
use Rattle.world_core_base.specs.declared.step_solver.Pace.{Pace}
use Rattle.world_core_base.specs.StepRuns.{CanRun, CanStep, HasLeft, HasRun, HaveImpulses, run_over}
use Rattle.part_solver.specs.Lending.{CanLend}
use Rattle.part_solver.specs.Stages.{AreStages, lists_of}
use Rattle.part_solver.specs.declared.stages.Stage.{Stage}

record Given : Type 0 where
  states : List BodyState
  joints : List (Option BodyJoint)
  contacts : List ContactEntry

module _ (states old_states : List BodyState) (k old : Constraints) (pace : Pace) (states_are : states ≡ old_states) (joints_are : k.joints.joints ≡ old.joints.joints) (contacts_are : k.contacts.contacts ≡ old.contacts.contacts) where
  same : ◌≡◌ {A = Given} (record { states = states; joints = k.joints.joints; contacts = k.contacts.contacts }) (record { states = old_states; joints = old.joints.joints; contacts = old.contacts.contacts })
  same = λ j. record { states = states_are j; joints = joints_are j; contacts = contacts_are j }

  pub can_run_again : (colours : Coloured Constraint) (gathered : GatheredRows) (moving : MovingSlots) → CanRun old_states old colours gathered moving pace → CanRun states k colours gathered moving pace
  can_run_again colours gathered moving can = record {
    few = subst (λ (l : List BodyState). length l ≤ MAX_SLOTS) (sym states_are) can.few;
    gravity = can.gravity;
    count = can.count;
    awake = can.awake ∙ ap movers_of (sym states_are);
    carried = can.carried ∙ ap carried_of (sym states_are);
    flushed = can.flushed;
    can = subst (λ (x : Given). CanStep x.states x.joints x.contacts colours.lists) (sym same) can.can;
    room = can.room;
    more = can.more;
  }

  pub has_run_again : (lists : List (List (Member Constraint))) → k.contacts.numbered ≡ old.contacts.numbered → (now : List BodyState) (new : Constraints) (sums : StepSums) → HasRun pace lists states k now new sums → HasRun pace lists old_states old now new sums
  has_run_again lists numbered_are now new sums run = record {
    left = subst (λ (x : Given). HasLeft (run_over pace.count pace.gravity x.states x.joints x.contacts lists) x.states now sums) same run.left;
    impulses = subst (λ (x : Given). HaveImpulses (run_over pace.count pace.gravity x.states x.joints x.contacts lists) x.joints x.contacts new.joints.joints new.contacts.contacts sums) same run.impulses;
    numbered = run.numbered ∙ numbered_are;
  }

-- ---- constraints that are listed by stage

module _ (states : List BodyState) (joints : List (Option BodyJoint)) (contacts : List ContactEntry) (stages : List Stage) (lists : List (List (Member Constraint))) (listed : lists_of stages ≡ lists) where
  pub can_lend : CanStep states joints contacts lists → AreStages joints stages → CanLend states joints contacts stages
  can_lend can are = record { can = subst (CanStep states joints contacts) (sym listed) can; are = are }

  pub left_over : (n : ℕ) (g : Vec2) (now : List BodyState) (sums : StepSums) → HasLeft (run_over n g states joints contacts (lists_of stages)) states now sums → HasLeft (run_over n g states joints contacts lists) states now sums
  left_over n g now sums left = subst (λ (l : List (List (Member Constraint))). HasLeft (run_over n g states joints contacts l) states now sums) listed left

  pub impulses_over : (n : ℕ) (g : Vec2) (joints_now : List (Option BodyJoint)) (contacts_now : List ContactEntry) (sums : StepSums) → HaveImpulses (run_over n g states joints contacts (lists_of stages)) joints contacts joints_now contacts_now sums
      → HaveImpulses (run_over n g states joints contacts lists) joints contacts joints_now contacts_now sums
  impulses_over n g joints_now contacts_now sums have = subst (λ (l : List (List (Member Constraint))). HaveImpulses (run_over n g states joints contacts l) joints contacts joints_now contacts_now sums) listed have
