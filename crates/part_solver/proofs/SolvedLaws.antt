-- From the parts of a step to the step of all.
use Rattle.std.proofs.Common.{◌≡◌, ◌<◌, ◌^◌, ℕ, Bool, true, false, cond, List, length, get_or, arith, sym, ap, ◌∙◌, subst}
use Rattle.fixed_geom.specs.Vectors.{plus}
use Rattle.fixed_geom.specs.declared.vectors.Vec2.{Vec2}
use Rattle.momenta.specs.declared.state.BodyState.{BodyState}
use Rattle.colour_solver.specs.declared.ticks.StepSums.{StepSums}
use Rattle.colour_solver.specs.Colour.{is_mover}
use Rattle.colour_solver.specs.States.{as_vector, nobody, total}
use Rattle.colour_solver.specs.Ticks.{AreSums, Run, run_of}
use Rattle.part_runs.specs.Hidden.{part_at, sum_below}
use Rattle.part_runs.specs.Laws.{IsReadBack, PartsAreRuns, PartsStepAll, RunsAreReadBack}
use Rattle.part_runs.specs.ReadBack.{AreBodiesBack, source}
use Rattle.part_runs.specs.Runs.{IsInRange, IsParted, IsStepped, Step, part_ran}
use Rattle.part_runs.proofs.SumLaws.{sum_alike}
use Rattle.world_core_base.specs.StepRuns.{HasLeft}
use Rattle.part_solver.specs.Parts.{IsRunBy, Solved, run_at, run_of_all}

source_below : (x : Bool) (i n : ℕ) → i < n → cond x i 0 < n
source_below true i n h = h
source_below false i n h = omega (arith, h)

-- the sums of some parts, which are within their ranges
pub record AreAdded (parts : List Solved) (sums : StepSums) : Type 0 where
  pub gravity : as_vector sums.gravity ≡ sum_below (length parts) (λ k. (run_at parts k).gravity)
  pub immovable : as_vector sums.immovable ≡ sum_below (length parts) (λ k. (run_at parts k).immovable)
  pub clamp : as_vector sums.clamp ≡ sum_below (length parts) (λ k. (run_at parts k).clamp)
  pub ranges : (k : ℕ) → k < length parts → IsInRange (run_at parts k)

module _ (t : Step) (parts : List Solved) (by : IsRunBy t t.states t.home parts) where
  some : 0 < length parts
  some = let first : part_at t.home 0 < length parts = by.homes.below 0 in omega (arith, first)

  -- ---- what is read back

  pub record IsToBeRead : Type 0 where
    pub states : AreBodiesBack (part_at t.home) t.states (λ k. (run_at parts k).states) (run_of_all t).states
    pub long : length (run_of_all t).states ≡ length t.states
    pub rows : IsReadBack (length parts) t (run_of_all t) (part_ran t)

  pub to_be_read : RunsAreReadBack → IsToBeRead
  to_be_read law =
      let back = law t (length parts) some by.can by.homes in
      record {
        states = λ slot.
            back.states slot
            ∙ ap (λ (x : Run). get_or x.states slot nobody) (sym (by.runs (source (part_at t.home) t.states slot) (source_below (is_mover t.states slot) (part_at t.home slot) (length parts) (by.homes.below slot))));
        long = back.long;
        rows = back;
      }

  -- ---- the whole step

  sum_is : (f : Run → Vec2) (sum : Vec2) → f (run_of_all t) ≡ sum_below (length parts) (λ k. f (part_ran t k)) → sum ≡ sum_below (length parts) (λ k. f (run_at parts k)) → sum ≡ f (run_of_all t)
  sum_is f sum whole is = is ∙ sum_alike (length parts) (λ k. f (run_at parts k)) (λ k. f (part_ran t k)) (λ k lt. ap f (by.runs k lt)) ∙ sym whole

  -- the bodies and the sums are those of the run of all
  pub step_left : PartsAreRuns → PartsStepAll → (sums : StepSums) → AreAdded parts sums → AreSums (2 ^ 83) sums → (bodies : List BodyState) → bodies ≡ (run_of_all t).states
      → HasLeft (run_of_all t) t.states bodies sums × (run_of (run_of_all t).states (run_of_all t).rows sums ≡ run_of_all t)
  step_left parted_law step_law sums added_up small bodies are_bodies =
      let r : Run = run_of_all t in
      let parted : IsParted t (length parts) r (part_ran t) = parted_law t (length parts) some by.can by.homes in
      let stepped : IsStepped t.states r = step_law t (length parts) some by.can by.homes (λ k lt. subst IsInRange (by.runs k lt) (added_up.ranges k lt)) in
      let gravity : as_vector sums.gravity ≡ r.gravity = sum_is (λ x. x.gravity) (as_vector sums.gravity) parted.gravity added_up.gravity in
      let immovable : as_vector sums.immovable ≡ r.immovable = sum_is (λ x. x.immovable) (as_vector sums.immovable) parted.immovable added_up.immovable in
      let clamp : as_vector sums.clamp ≡ r.clamp = sum_is (λ x. x.clamp) (as_vector sums.clamp) parted.clamp added_up.clamp in (
        record {
          states_are = are_bodies;
          rows = rw are_bodies stepped.rows;
          states_within = rw are_bodies stepped.states;
          long = rw are_bodies stepped.long;
          same = rw are_bodies stepped.same;
          courses = rw are_bodies stepped.courses;
          small = small;
          momentum = ap total are_bodies ∙ stepped.momentum ∙ ap (plus (total t.states)) (λ j. plus (sym gravity j) (plus (sym immovable j) (sym clamp j)));
        },
        (λ j. record { states = r.states; rows = r.rows; gravity = gravity j; immovable = immovable j; clamp = clamp j }),
      )
