-- The ticks and the restitution of all bodies, by stages; and what was added to the momentum, part by part.
use Rattle.std.proofs.Common.{◌≡◌, ℕ, zero, suc, ◌<◌, length, arith, refl, sym, ap, ◌∙◌}
use Rattle.fixed_geom.specs.Vectors.{plus}
use Rattle.fixed_geom.specs.declared.vectors.Vec2.{Vec2}
use Rattle.momenta.specs.Motions.{advanced, pulled, speed_clamped}
use Rattle.momenta.specs.declared.mass.MassData.{MassData}
use Rattle.momenta.specs.declared.motion.Motion.{Motion}
use Rattle.momenta.specs.declared.state.Ends.{Ends}
use Rattle.colour_solver_base.specs.RowsAfter.{RowAfter}
use Rattle.colour_solver.specs.declared.constraint_row.ConstraintRow.{ConstraintRow}
use Rattle.colour_solver.specs.ColourRows.{all_rows}
use Rattle.colour_solver.specs.ConstraintVisits.{constraint_bounced, constraint_slots, constraint_solved, constraint_warmed}
use Rattle.colour_solver.specs.Passes.{carry, changed, gain, pass}
use Rattle.colour_solver.specs.RowVisits.{passed, rows_passed, share}
use Rattle.colour_solver.specs.Ticks.{Run, carry_all, clamp_all, pull_all, ran, start, tick, ticks, visit_all}
use Rattle.part_runs.specs.Hidden.{hidden, owned, part_at, sum_below}
use Rattle.part_runs.specs.Passes.{IsFairVisit}
use Rattle.part_runs.specs.Runs.{IsReached, PartSums, Stand, Step, at_home, begun, ended, no_sums, own_stages, pass_given, ran_stand, ran_sums, solved_stand, stand_of, tick_stand, tick_sums, ticks_stand, ticks_sums, visited, walks_of, warm_stand}
use Rattle.part_runs.specs.Stages.{IsPassOf, owner_at, rows_at, states_at, walk_at}
use Rattle.part_runs.specs.Laws.{AreHomes, CanRun, PartsAreRuns}
use Rattle.part_runs.proofs.AfterLaws.{count_own}
use Rattle.part_runs.proofs.FairVisits.{all_bounced_fair, all_solved_fair, all_warmed_fair}
use Rattle.part_runs.proofs.FlatLaws.{all_flat_rows, flat, given_apart, rows_flat, states_flat}
use Rattle.part_runs.proofs.HiddenLaws.{hidden-map}
use Rattle.part_runs.proofs.PassLaws.{passes}
use Rattle.part_runs.proofs.ReachLaws.{begun_reached, ticks_reached, warm_reached}
use Rattle.part_runs.proofs.SumLaws.{added_apart, sum_alike, sum_none}
use Rattle.part_runs.proofs.WholeLaws.{changed_is, gain_apart}

-- the run r of all bodies stands as s, and its sums are those of the parts below n
pub record IsSummed (n : ℕ) (r : Run) (s : Stand) (sums : ℕ → PartSums) : Type 0 where
  pub states : r.states ≡ s.states
  pub rows : r.rows ≡ flat s.rows
  pub gravity : r.gravity ≡ sum_below n (λ k. (sums k).gravity)
  pub immovable : r.immovable ≡ sum_below n (λ k. (sums k).immovable)
  pub clamp : r.clamp ≡ sum_below n (λ k. (sums k).clamp)

module _ (t : Step) (n : ℕ) (positive : 0 < n) (can : CanRun t.states t.rows) (homes : AreHomes n t) where
  -- ---- one act

  pull_summed : (v : Vec2) (r : Run) (s : Stand) (sums : ℕ → PartSums) → IsSummed n r s sums
      → IsSummed n (pull_all v r) (record s { states = pass (pulled v) s.states }) (λ k. record (sums k) { gravity = plus (sums k).gravity (gain (pulled v) (at_home t k s.states)) })
  pull_summed v r s sums is = record {
    states = ap (pass (pulled v)) is.states;
    rows = is.rows;
    gravity = added_apart n r.gravity (gain (pulled v) r.states) (λ k. (sums k).gravity) (λ k. gain (pulled v) (at_home t k s.states)) is.gravity
        (ap (gain (pulled v)) is.states ∙ gain_apart (pulled v) (part_at t.home) n homes.below s.states);
    immovable = is.immovable;
    clamp = is.clamp;
  }

  clamp_summed : (f : MassData → Motion → Motion) (given : ℕ → Vec2) (r : Run) (s : Stand) (sums : ℕ → PartSums) → ((k : ℕ) → gain f (at_home t k s.states) ≡ given k) → IsSummed n r s sums
      → IsSummed n (clamp_all f r) (record s { states = pass f s.states }) (λ k. record (sums k) { clamp = plus (sums k).clamp (given k) })
  clamp_summed f given r s sums each is = record {
    states = ap (pass f) is.states;
    rows = is.rows;
    gravity = is.gravity;
    immovable = is.immovable;
    clamp = added_apart n r.clamp (gain f r.states) (λ k. (sums k).clamp) given is.clamp
        (ap (gain f) is.states ∙ gain_apart f (part_at t.home) n homes.below s.states ∙ sum_alike n (λ k. gain f (at_home t k s.states)) given (λ k lt. each k));
  }

  visit_summed : (f : ConstraintRow → Ends → RowAfter ConstraintRow) → IsFairVisit f → (r : Run) (s : Stand) (sums : ℕ → PartSums) → IsReached t s → IsSummed n r s sums
      → IsSummed n (visit_all f r) (visited f s) (λ k. record (sums k) { immovable = plus (sums k).immovable (pass_given t k f s) })
  visit_summed f fair r s sums reached is =
      let pass_is : IsPassOf n t f s = passes t n positive can homes f fair s reached in
      let more : length s.rows < length (walks_of t) = let count = pass_is.walks in omega (arith, count) in
      record {
        states = (λ i. passed constraint_slots f (is.states i) (is.rows i)) ∙ states_flat f s.rows s.states;
        rows = (λ i. rows_passed constraint_slots f (is.states i) (is.rows i)) ∙ rows_flat f s.rows s.states;
        gravity = is.gravity;
        immovable = added_apart n r.immovable (share constraint_slots f r.states r.rows) (λ k. (sums k).immovable) (λ k. pass_given t k f s) is.immovable
            ((λ i. share constraint_slots f (is.states i) (is.rows i))
            ∙ given_apart f n (walks_of t) s.states s.rows (λ k. own_stages t.home k t.states s.rows) more (λ k. count_own t.home k t.states s.rows)
            (λ i lt. (pass_is.each i lt).visited_apart.given
            ∙ sum_alike n (λ k. share constraint_slots f (hidden (part_at (walk_at (walks_of t) i).at) k (states_at f s i)) (owned (owner_at t i) k (rows_at s.rows i)))
            (λ k. share constraint_slots f (hidden (part_at (walk_at (walks_of t) i).at) k (states_at f s i)) (rows_at (own_stages t.home k t.states s.rows) i))
            (λ k less. ap (share constraint_slots f (hidden (part_at (walk_at (walks_of t) i).at) k (states_at f s i))) (sym ((pass_is.each i lt).own k)))));
        clamp = is.clamp;
      }

  carry_summed : (r : Run) (s : Stand) (sums : ℕ → PartSums) → IsSummed n r s sums → IsSummed n (carry_all r) (record s { states = carry s.states }) sums
  carry_summed r s sums is = record { states = ap carry is.states; rows = is.rows; gravity = is.gravity; immovable = is.immovable; clamp = is.clamp }

  -- ---- a tick

  -- with the speed limit
  begun_summed : (r : Run) (s : Stand) (sums : ℕ → PartSums) → IsSummed n r s sums
      → IsSummed n (clamp_all speed_clamped (pull_all t.gravity r)) (begun t.gravity s)
      (λ k. record (sums k) { gravity = plus (sums k).gravity (gain (pulled t.gravity) (at_home t k s.states)); clamp = plus (sums k).clamp (gain speed_clamped (pass (pulled t.gravity) (at_home t k s.states))) })
  begun_summed r s sums is =
      clamp_summed speed_clamped (λ k. gain speed_clamped (pass (pulled t.gravity) (at_home t k s.states))) (pull_all t.gravity r) (record s { states = pass (pulled t.gravity) s.states })
      (λ k. record (sums k) { gravity = plus (sums k).gravity (gain (pulled t.gravity) (at_home t k s.states)) })
      (λ k. ap (gain speed_clamped) (hidden-map (changed (pulled t.gravity)) (changed_is (pulled t.gravity)) (part_at t.home) k s.states))
      (pull_summed t.gravity r s sums is)

  -- the speed limit, the move, and what is carried along
  ended_summed : (r : Run) (s : Stand) (sums : ℕ → PartSums) → IsSummed n r s sums
      → IsSummed n (carry_all (clamp_all advanced (clamp_all speed_clamped r))) (ended s)
      (λ k. record (sums k) { clamp = plus (plus (sums k).clamp (gain speed_clamped (at_home t k s.states))) (gain advanced (pass speed_clamped (at_home t k s.states))) })
  ended_summed r s sums is =
      let slow : Stand = record s { states = pass speed_clamped s.states } in
      let sums_slow : ℕ → PartSums = λ k. record (sums k) { clamp = plus (sums k).clamp (gain speed_clamped (at_home t k s.states)) } in
      carry_summed (clamp_all advanced (clamp_all speed_clamped r)) (record slow { states = pass advanced slow.states })
      (λ k. record (sums_slow k) { clamp = plus (sums_slow k).clamp (gain advanced (pass speed_clamped (at_home t k s.states))) })
      (clamp_summed advanced (λ k. gain advanced (pass speed_clamped (at_home t k s.states))) (clamp_all speed_clamped r) slow sums_slow
      (λ k. ap (gain advanced) (hidden-map (changed speed_clamped) (changed_is speed_clamped) (part_at t.home) k s.states))
      (clamp_summed speed_clamped (λ k. gain speed_clamped (at_home t k s.states)) r s sums (λ k. refl) is))

  tick_summed : (r : Run) (s : Stand) (sums : ℕ → PartSums) → IsReached t s → IsSummed n r s sums → IsSummed n (tick t.gravity r) (tick_stand t.gravity s) (λ k. tick_sums t k s (sums k))
  unfolding tick
  tick_summed r s sums reached is =
      let one : Run = clamp_all speed_clamped (pull_all t.gravity r) in
      let sums_one : ℕ → PartSums = λ k. record (sums k) {
        gravity = plus (sums k).gravity (gain (pulled t.gravity) (at_home t k s.states));
        clamp = plus (sums k).clamp (gain speed_clamped (pass (pulled t.gravity) (at_home t k s.states)));
      } in
      let sums_warm : ℕ → PartSums = λ k. record (sums_one k) { immovable = plus (sums_one k).immovable (pass_given t k constraint_warmed (begun t.gravity s)) } in
      let sums_solved : ℕ → PartSums = λ k. record (sums_warm k) { immovable = plus (sums_warm k).immovable (pass_given t k constraint_solved (warm_stand t.gravity s)) } in
      ended_summed (visit_all constraint_solved (visit_all constraint_warmed one)) (solved_stand t.gravity s) sums_solved
      (visit_summed constraint_solved all_solved_fair (visit_all constraint_warmed one) (warm_stand t.gravity s) sums_warm (warm_reached t s reached)
      (visit_summed constraint_warmed all_warmed_fair one (begun t.gravity s) sums_one (begun_reached t.gravity t s reached) (begun_summed r s sums is)))

  -- ---- a step

  start_summed : IsSummed n (start t.states (all_rows t.rows)) (stand_of t) (λ k. no_sums)
  start_summed =
      let none = sum_none n in
      record { states = refl; rows = sym (all_flat_rows t.rows); gravity = sym none; immovable = sym none; clamp = sym none }

  ticks_summed : (count : ℕ) → IsSummed n (ticks count t.gravity (start t.states (all_rows t.rows))) (ticks_stand count t.gravity (stand_of t)) (λ k. ticks_sums t k count)
  ticks_summed zero = start_summed
  ticks_summed (suc count) =
      tick_summed (ticks count t.gravity (start t.states (all_rows t.rows))) (ticks_stand count t.gravity (stand_of t)) (λ k. ticks_sums t k count) (ticks_reached t count) (ticks_summed count)

  pub ran_summed : IsSummed n (ran t.count t.gravity (start t.states (all_rows t.rows))) (ran_stand t.count t.gravity (stand_of t)) (λ k. ran_sums t k)
  unfolding ran
  ran_summed =
      visit_summed constraint_bounced all_bounced_fair (ticks t.count t.gravity (start t.states (all_rows t.rows))) (ticks_stand t.count t.gravity (stand_of t)) (λ k. ticks_sums t k t.count) (ticks_reached t t.count) (ticks_summed t.count)

pub parts_runs : PartsAreRuns
parts_runs t n positive can homes =
    let is = ran_summed t n positive can homes in
    record {
      states = λ k. ap (at_home t k) is.states;
      gravity = is.gravity;
      immovable = is.immovable;
      clamp = is.clamp;
    }
