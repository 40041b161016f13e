-- What is lent to the parts of a step: joints, contacts and the constraints that act, by stage. The rows of the step are
-- those that are gathered of them.
use Rattle.std.specs.Prelude.{◌≡◌, ℕ, List, Option}
use Rattle.momenta.specs.declared.state.BodyState.{BodyState}
use Rattle.contacts_base.specs.declared.contact.ContactEntry.{ContactEntry}
use Rattle.colour_solver.specs.declared.constraint_row.ConstraintRow.{ConstraintRow}
use Rattle.colour_solver.specs.ColourRows.{ColourRows}
use Rattle.plain_world.specs.declared.joint.BodyJoint.{BodyJoint}
use Rattle.world_core_base.specs.StepRuns.{CanStep}
use Rattle.world_core_base.specs.declared.step_solver.Pace.{Pace}
use Rattle.part_runs.specs.Runs.{Step}
use Rattle.part_solver.specs.Stages.{AreStages, lists_of, rows_by}
use Rattle.part_solver.specs.declared.lent.Lent.{Lent}
use Rattle.part_solver.specs.declared.stages.Stage.{Stage}

-- a step over these bodies, joints, contacts and stages
abbrev pub step_over : List BodyState → List (Option BodyJoint) → List ContactEntry → List Stage → List ℕ → Pace → Step
step_over states joints contacts stages home pace = record { states = states; rows = rows_by states joints contacts (lists_of stages); home = home; gravity = pace.gravity; count = pace.count }

-- rows can be gathered of these
pub record CanLend (states : List BodyState) (joints : List (Option BodyJoint)) (contacts : List ContactEntry) (stages : List Stage) : Type 0 where
  pub can : CanStep states joints contacts (lists_of stages)
  pub are : AreStages joints stages

-- the same of what is lent
abbrev pub rows_from : List BodyState → Lent → ColourRows ConstraintRow
rows_from states l = rows_by states l.constraints.joints.joints l.constraints.contacts.contacts (lists_of l.stages.items)

abbrev pub step_of : List BodyState → Lent → List ℕ → Pace → Step
step_of states l home pace = step_over states l.constraints.joints.joints l.constraints.contacts.contacts l.stages.items home pace

abbrev pub IsLent : List BodyState → Lent → Type 0
IsLent states l = CanLend states l.constraints.joints.joints l.constraints.contacts.contacts l.stages.items

-- the rows of the step t are gathered of what is lent
pub record HasSources (t : Step) (l : Lent) : Type 0 where
  pub rows : t.rows ≡ rows_from t.states l
  pub lent : IsLent t.states l
