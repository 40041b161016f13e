-- What is read back from the parts of a step is what the run of all leaves.
use Rattle.std.proofs.Common.{◌≡◌, ◌^◌, ℕ, List, Option, length, refl, sym, subst, ◌∙◌}
use Rattle.contacts_base.specs.declared.contact.ContactEntry.{ContactEntry}
use Rattle.momenta.specs.declared.state.BodyState.{BodyState}
use Rattle.colour_solver.specs.Ticks.{AreSums, run_of}
use Rattle.colour_solver.specs.declared.ticks.StepSums.{StepSums}
use Rattle.plain_world.specs.declared.joint.BodyJoint.{BodyJoint}
use Rattle.part_runs.specs.Hidden.{part_at}
use Rattle.part_runs.specs.Laws.{PartsAreRuns, PartsStepAll, RunsAreReadBack}
use Rattle.part_runs.specs.ReadBack.{AreBodiesBack}
use Rattle.part_runs.specs.Runs.{Step}
use Rattle.world_core_base.specs.StepRuns.{HasLeft, HaveImpulses}
use Rattle.part_solver.specs.Parts.{IsRunBy, Solved, run_at, run_of_all}
use Rattle.part_solver.specs.PuttingBack.{AreNamesApart, contacts_by, joints_by}
use Rattle.part_solver.proofs.ImpulseLaws.{contacts_put, joints_put}
use Rattle.part_solver.proofs.SolvedLaws.{AreAdded, IsToBeRead, step_left, to_be_read}

-- bodies that are read back are those of any run that the parts' runs make up
pub record AreRead (states : List BodyState) (home : List ℕ) (parts : List Solved) (now : List BodyState) : Type 0 where
  pub all : (bodies : List BodyState) → AreBodiesBack (part_at home) states (λ k. (run_at parts k).states) bodies → length bodies ≡ length states → now ≡ bodies

module _ (t : Step) (states : List BodyState) (home : List ℕ) (parts : List Solved) (is : IsRunBy t states home parts) (law : RunsAreReadBack) where
  by : IsRunBy t t.states t.home parts
  by = record { states_are = refl; home_is = refl; can = is.can; homes = is.homes; runs = is.runs }

  to : IsToBeRead t parts by
  to = to_be_read t parts by law

  pub all_left : PartsAreRuns → PartsStepAll → (sums : StepSums) → AreAdded parts sums → AreSums (2 ^ 83) sums → (now : List BodyState) → AreRead states home parts now → HasLeft (run_of_all t) states now sums × (run_of (run_of_all t).states (run_of_all t).rows sums ≡ run_of_all t)
  all_left parted_law step_law sums added small now read =
      let here : AreRead t.states t.home parts now = subst (λ (h : List ℕ). AreRead t.states h parts now) (sym is.home_is) (subst (λ (ss : List BodyState). AreRead ss home parts now) (sym is.states_are) read) in
      let left = step_left t parts by parted_law step_law sums added small now (here.all (run_of_all t).states to.states to.long) in
      (subst (λ (ss : List BodyState). HasLeft (run_of_all t) ss now sums) is.states_are left.0, left.1)

  pub all_impulses : AreNamesApart t → (sums : StepSums) → run_of (run_of_all t).states (run_of_all t).rows sums ≡ run_of_all t → (joints joints_now : List (Option BodyJoint)) → joints_now ≡ joints_by joints parts (length parts) → (contacts contacts_now : List ContactEntry)
      → contacts_now ≡ contacts_by contacts parts (length parts) → HaveImpulses (run_of_all t) joints contacts joints_now contacts_now sums
  all_impulses apart sums sums_are joints joints_now joints_are contacts contacts_now contacts_are = record {
    sums_are = sums_are;
    joints_left = joints_are ∙ joints_put t parts by to.rows apart joints;
    contacts_left = contacts_are ∙ contacts_put t parts by to.rows apart contacts;
  }
