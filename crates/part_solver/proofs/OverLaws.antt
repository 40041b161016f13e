-- A step over joints, contacts and stages: what it may be, and what its parts leave when they have run.
use Rattle.std.proofs.Common.{◌≡◌, ◌≤◌, ◌<◌, ◌+◌, ◌^◌, ℕ, List, [], Option, length, map, take, All, refl, sym, ap, subst, ◌∙◌}
use Rattle.std.specs.Prelude.{slice_index_or}
use Rattle.std.proofs.lemmas.List.{length-map}
use Rattle.fixed_geom.specs.Vectors.{IsWithin}
use Rattle.momenta.specs.declared.state.BodyState.{BodyState}
use Rattle.body_handles.specs.declared.slot_table.TheConstants.{MAX_SLOTS}
use Rattle.graph_colours.specs.Colours.{all_members}
use Rattle.graph_colours.specs.declared.limits.TheConstants.{COLOURS}
use Rattle.graph_colours.specs.declared.member.Member.{Member}
use Rattle.contacts_base.specs.declared.contact.ContactEntry.{ContactEntry}
use Rattle.plain_world.specs.declared.constraint.Constraint.{Constraint}
use Rattle.colour_solver.specs.Ticks.{Run, ran, start}
use Rattle.colour_solver.specs.declared.constraint_row.ConstraintRow.{ConstraintRow}
use Rattle.colour_solver.specs.declared.ticks.StepSums.{StepSums}
use Rattle.plain_world.specs.declared.joint.BodyJoint.{BodyJoint}
use Rattle.world_core_base.specs.ConstraintRows.{rows_in, rows_of}
use Rattle.world_core_base.specs.StepRuns.{HasLeft, HaveImpulses, run_over}
use Rattle.world_core_base.specs.declared.step_solver.Pace.{Pace}
use Rattle.world_core_base.proofs.ColourLists.{joined}
use Rattle.part_runs.specs.Runs.{Step, part_ran}
use Rattle.part_solver.specs.Benches.{IsRoomy, IsRoomyFor}
use Rattle.part_solver.specs.Lending.{CanLend, HasSources, IsLent, step_of, step_over}
use Rattle.part_solver.specs.Parts.{AreDealt, IsRunBy, Solved, run_at, run_of_all}
use Rattle.part_solver.specs.PuttingBack.{AreNamesApart}
use Rattle.part_solver.specs.Steps.{CanSolve}
use Rattle.part_solver.specs.Stages.{lists_of, rows_by}
use Rattle.part_solver.specs.declared.lent.Lent.{Lent}
use Rattle.part_solver.specs.declared.seat.Lists.{Lists}
use Rattle.part_solver.specs.declared.stages.Stage.{Stage}
use Rattle.part_solver.proofs.CanLaws.{can_run, colours_count, rows_total}
use Rattle.part_solver.proofs.NameLaws.{names_apart}

-- ---- what is lent, if it is these joints, contacts and stages

module _ (states : List BodyState) (l : Lent) (joints : List (Option BodyJoint)) (contacts : List ContactEntry) (stages : List Stage) (joints_are : l.constraints.joints.joints ≡ joints) (contacts_are : l.constraints.contacts.contacts ≡ contacts) (stages_are : l.stages.items ≡ stages) where
  pub lent_step : (home : List ℕ) (pace : Pace) → step_of states l home pace ≡ step_over states joints contacts stages home pace
  lent_step home pace = λ j. step_over states (joints_are j) (contacts_are j) (stages_are j) home pace

  pub lent_can : CanLend states joints contacts stages → IsLent states l
  lent_can can =
      subst (λ (js : List (Option BodyJoint)). CanLend states js l.constraints.contacts.contacts l.stages.items) (sym joints_are)
      (subst (λ (es : List ContactEntry). CanLend states joints es l.stages.items) (sym contacts_are) (subst (λ (ss : List Stage). CanLend states joints contacts ss) (sym stages_are) can))

-- the step's rows are gathered of what is lent
pub lent_sources : (t : Step) (states : List BodyState) (l : Lent) (home : List ℕ) (pace : Pace) → t ≡ step_of states l home pace → IsLent states l → HasSources t l
lent_sources t states l home pace is lent = subst (λ (s : Step). HasSources s l) (sym is) (record { rows = refl; lent = lent })

-- ---- the step over them

module _ (states : List BodyState) (joints : List (Option BodyJoint)) (contacts : List ContactEntry) (stages : List Stage) (home : List ℕ) (pace : Pace) (can : CanLend states joints contacts stages) where
  abbrev lists : List (List (Member Constraint))
  lists = lists_of stages

  abbrev over : Step
  over = step_over states joints contacts stages home pace

  count : length lists ≡ COLOURS + 1
  count = length-map stages (λ (s : Stage). s.members.items) ∙ can.are.count

  pub can_solve : length states ≤ MAX_SLOTS → IsWithin (2 ^ 16) pace.gravity → pace.count ≤ 8 → length home ≡ length states → CanSolve over
  can_solve few gravity ticks homes = record {
    few = few;
    gravity = gravity;
    can = can_run states joints contacts lists count can.can;
    count = ticks;
    colours = colours_count states joints contacts lists count;
    homes = homes;
  }

  pub all_roomy : (n : ℕ) (benches : List Lists) → n ≡ length (all_members lists) → All (IsRoomy (length states) n COLOURS) benches → All (IsRoomyFor over) benches
  all_roomy n benches e all =
      subst (λ (m : ℕ). All (IsRoomy (length states) m (length (rows_by states joints contacts lists).colours)) benches) (e ∙ sym (rows_total states joints contacts lists count can.can.there))
      (subst (λ (m : ℕ). All (IsRoomy (length states) n m) benches) (sym (colours_count states joints contacts lists count)) all)

  -- ---- when its parts have run

  same_run : run_of_all over ≡ run_over pace.count pace.gravity states joints contacts lists
  unfolding rows_of
  same_run =
      ap (λ (rows : List ConstraintRow). ran pace.count pace.gravity (start states rows))
      (joined (rows_in states joints contacts) lists COLOURS [] (map (rows_in states joints contacts) (take COLOURS lists)) (rows_in states joints contacts (slice_index_or lists COLOURS [])) count refl refl)

  module _ (bodies : List BodyState) (homes : List ℕ) (parts : List Solved) (bodies_are : bodies ≡ states) (homes_are : homes ≡ home) (dealt : AreDealt home (length parts) states) (runs : (k : ℕ) → k < length parts → run_at parts k ≡ part_ran over k) where
    by_parts : IsRunBy over bodies homes parts
    by_parts = record {
      states_are = sym bodies_are;
      home_is = sym homes_are;
      can = can_run states joints contacts lists count can.can;
      homes = record { long = dealt.long; below = dealt.below };
      runs = runs;
    }

    pub over_left : (now : List BodyState) (sums : StepSums) → ((t : Step) → IsRunBy t bodies homes parts → HasLeft (run_of_all t) bodies now sums) → HasLeft (run_over pace.count pace.gravity states joints contacts lists) states now sums
    over_left now sums told = subst (λ (r : Run). HasLeft r states now sums) same_run (subst (λ (ss : List BodyState). HasLeft (run_of_all over) ss now sums) bodies_are (told over by_parts))

    pub over_impulses : (js js_now : List (Option BodyJoint)) (es es_now : List ContactEntry) (sums : StepSums) → js ≡ joints → es ≡ contacts → ((t : Step) → IsRunBy t bodies homes parts → AreNamesApart t → HaveImpulses (run_of_all t) js es js_now es_now sums)
        → HaveImpulses (run_over pace.count pace.gravity states joints contacts lists) joints contacts js_now es_now sums
    over_impulses js js_now es es_now sums joints_are contacts_are told =
        subst (λ (r : Run). HaveImpulses r joints contacts js_now es_now sums) same_run
        (subst (λ (l : List (Option BodyJoint)). HaveImpulses (run_of_all over) l contacts js_now es_now sums) joints_are
        (subst (λ (l : List ContactEntry). HaveImpulses (run_of_all over) js l js_now es_now sums) contacts_are (told over by_parts (names_apart states joints contacts lists count can.can.once))))
