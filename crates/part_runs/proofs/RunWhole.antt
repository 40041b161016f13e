-- What a run keeps of the bodies and rows with which it began, and by how much the movers' momentum grows.
use Rattle.std.proofs.Common.{◌≡◌, ℕ, zero, suc, List, [], ◌∷◌, length, map, arith, refl, sym, ◌∙◌, subst}
use Rattle.std.specs.Prelude.{All}
use Rattle.std.proofs.lemmas.List.Elements.{All-cons, All-head, All-map, All-tail}
use Rattle.fixed_geom.specs.Vectors.{plus}
use Rattle.fixed_geom.specs.declared.vectors.Vec2.{Vec2}
use Rattle.momenta.specs.Motions.{advanced, speed_clamped, pulled}
use Rattle.momenta.specs.declared.mass.MassData.{MassData}
use Rattle.momenta.specs.declared.motion.Motion.{Motion}
use Rattle.momenta.specs.declared.state.BodyState.{BodyState}
use Rattle.momenta.specs.declared.state.Ends.{Ends}
use Rattle.colour_solver_base.specs.RowsAfter.{RowAfter}
use Rattle.colour_solver.specs.declared.constraint_row.ConstraintRow.{ConstraintRow}
use Rattle.colour_solver.specs.declared.row_visits.Slots.{Slots}
use Rattle.colour_solver.specs.ConstraintVisits.{constraint_bounced, constraint_slots, constraint_solved, constraint_warmed, row_name}
use Rattle.colour_solver.specs.Passes.{carried_along, carry, changed, gain, pass}
use Rattle.colour_solver.specs.States.{AreSameBeside, total}
use Rattle.colour_solver.specs.Ticks.{Run, carry_all, clamp_all, pull_all, ran, start, tick, ticks, visit_all}
use Rattle.colour_solver.specs.RowVisits.{passed, share}
use Rattle.colour_solver.proofs.CourseLaws.{beside_on, beside_same, total-carry}
use Rattle.colour_solver.proofs.VectorLaws.{plus_zero}
use Rattle.colour_solver.proofs.SlotLaws.{passed_same}
use Rattle.part_runs.specs.Hidden.{ArePlaced, IsPlaced, SameMovers}
use Rattle.part_runs.specs.Passes.{IsFairVisit}
use Rattle.part_runs.specs.Runs.{added_in}
use Rattle.part_runs.proofs.FairVisits.{all_bounced_fair, all_solved_fair, all_warmed_fair}
use Rattle.part_runs.proofs.HiddenLaws.{beside-map}
use Rattle.part_runs.proofs.PassApart.{passed_long, passed_moves}
use Rattle.part_runs.proofs.WholeLaws.{along_is, changed_is, more_clamp, more_gravity, more_immovable, same-passed, same_still, total-pass, total-passed}

-- ---- what a run keeps of the bodies and rows with which it began

pub record IsKept (first : List BodyState) (before : List ConstraintRow) (r : Run) : Type 0 where
  pub movers : SameMovers first r.states
  pub long : length r.states ≡ length first
  pub slots : map constraint_slots r.rows ≡ map constraint_slots before
  pub names : map row_name r.rows ≡ map row_name before

all_unmapped : {X Y : Type 0} (f : X → Y) (P : Y → Type 0) (xs : List X) → All P (map f xs) → All (λ (x : X). P (f x)) xs
all_unmapped f P [] all = λ k d lt. absurd (omega (arith, lt))
all_unmapped f P (x ∷ xs) all = All-cons (λ y. P (f y)) x xs (All-head P (f x) (map f xs) all) (all_unmapped f P xs (All-tail P (f x) (map f xs) all))

-- what is told by the slots of rows alone stays
pub slots_kept : (first : List BodyState) (before : List ConstraintRow) (r : Run) → IsKept first before r → (P : Slots → Type 0) → All (λ x. P (constraint_slots x)) before → All (λ x. P (constraint_slots x)) r.rows
slots_kept first before r kept P all = all_unmapped constraint_slots P r.rows (subst (All P) (sym kept.slots) (All-map P constraint_slots before all))

-- and where the bodies of a row stand, if the run has as many
placed_kept : (first : List BodyState) (before : List ConstraintRow) (r : Run) → IsKept first before r → ArePlaced (length first) before → ArePlaced (length r.states) r.rows
placed_kept first before r kept placed = subst (λ (n : ℕ). ArePlaced n r.rows) (sym kept.long) (slots_kept first before r kept (IsPlaced (length first)) placed)

-- ---- acts

-- what stands and what bodies are is left alone, and the movers' momentum has grown by what was added
pub record IsWhole (first : List BodyState) (r : Run) : Type 0 where
  pub same : AreSameBeside first r.states
  pub momentum : total r.states ≡ plus (total first) (added_in r)

-- what an act of all bodies keeps, and what it leaves alone
record IsAct (h : Run → Run) : Type 0 where
  kept : (first : List BodyState) (before : List ConstraintRow) (r : Run) → IsKept first before r → IsKept first before (h r)
  whole : (first : List BodyState) (before : List ConstraintRow) (r : Run) → ArePlaced (length first) before → IsKept first before r → IsWhole first r → IsWhole first (h r)

-- one act after another
then_act : (h i : Run → Run) → IsAct h → IsAct i → IsAct (λ r. i (h r))
then_act h i one more = record {
  kept = λ first before r kept. more.kept first before (h r) (one.kept first before r kept);
  whole = λ first before r placed kept whole. more.whole first before (h r) placed (one.kept first before r kept) (one.whole first before r placed kept whole);
}

pull_act : (v : Vec2) → IsAct (pull_all v)
pull_act v = record {
  kept = λ first before r kept. record {
    movers = λ slot. (beside-map (changed (pulled v)) (changed_is (pulled v)) r.states).movable slot ∙ kept.movers slot;
    long = (beside-map (changed (pulled v)) (changed_is (pulled v)) r.states).long ∙ kept.long;
    slots = kept.slots;
    names = kept.names;
  };
  whole = λ first before r placed kept whole. record {
    same = beside_on first r.states (pass (pulled v) r.states) whole.same (beside-map (changed (pulled v)) (changed_is (pulled v)) r.states);
    momentum = more_gravity (total (pass (pulled v) r.states)) (total r.states) (total first) r.gravity r.immovable r.clamp (gain (pulled v) r.states) (total-pass (pulled v) r.states) whole.momentum;
  };
}

clamp_act : (f : MassData → Motion → Motion) → IsAct (clamp_all f)
clamp_act f = record {
  kept = λ first before r kept. record {
    movers = λ slot. (beside-map (changed f) (changed_is f) r.states).movable slot ∙ kept.movers slot;
    long = (beside-map (changed f) (changed_is f) r.states).long ∙ kept.long;
    slots = kept.slots;
    names = kept.names;
  };
  whole = λ first before r placed kept whole. record {
    same = beside_on first r.states (pass f r.states) whole.same (beside-map (changed f) (changed_is f) r.states);
    momentum = more_clamp (total (pass f r.states)) (total r.states) (total first) r.gravity r.immovable r.clamp (gain f r.states) (total-pass f r.states) whole.momentum;
  };
}

carry_act : IsAct carry_all
carry_act = record {
  kept = λ first before r kept. record {
    movers = λ slot. (beside-map carried_along along_is r.states).movable slot ∙ kept.movers slot;
    long = (beside-map carried_along along_is r.states).long ∙ kept.long;
    slots = kept.slots;
    names = kept.names;
  };
  whole = λ first before r placed kept whole. record {
    same = beside_on first r.states (carry r.states) whole.same (beside-map carried_along along_is r.states);
    momentum = total-carry r.states ∙ whole.momentum;
  };
}

visit_act : (f : ConstraintRow → Ends → RowAfter ConstraintRow) → IsFairVisit f → IsAct (visit_all f)
visit_act f fair = record {
  kept = λ first before r kept. record {
    movers = λ slot. passed_moves f fair r.rows r.states slot ∙ kept.movers slot;
    long = passed_long f fair r.rows r.states ∙ kept.long;
    slots = passed_same constraint_slots f constraint_slots fair.slots r.states r.rows ∙ kept.slots;
    names = passed_same constraint_slots f row_name fair.name r.states r.rows ∙ kept.names;
  };
  whole = λ first before r placed kept whole.
      let at : ArePlaced (length r.states) r.rows = placed_kept first before r kept placed in
      let now : List BodyState = passed constraint_slots f r.states r.rows in
      record {
        same = beside_on first r.states now whole.same (beside_same r.states now (same-passed f fair r.rows r.states at));
        momentum = more_immovable (total now) (total r.states) (total first) r.gravity r.immovable r.clamp (share constraint_slots f r.states r.rows) (total-passed f fair r.rows r.states at) whole.momentum;
      };
}

-- ---- a tick, all ticks, and the restitution

tick_act : (v : Vec2) → IsAct (tick v)
unfolding tick
tick_act v =
    then_act (pull_all v) (λ r. carry_all (clamp_all advanced (clamp_all speed_clamped (visit_all constraint_solved (visit_all constraint_warmed (clamp_all speed_clamped r)))))) (pull_act v)
    (then_act (clamp_all speed_clamped) (λ r. carry_all (clamp_all advanced (clamp_all speed_clamped (visit_all constraint_solved (visit_all constraint_warmed r))))) (clamp_act speed_clamped)
    (then_act (visit_all constraint_warmed) (λ r. carry_all (clamp_all advanced (clamp_all speed_clamped (visit_all constraint_solved r)))) (visit_act constraint_warmed all_warmed_fair)
    (then_act (visit_all constraint_solved) (λ r. carry_all (clamp_all advanced (clamp_all speed_clamped r))) (visit_act constraint_solved all_solved_fair)
    (then_act (clamp_all speed_clamped) (λ r. carry_all (clamp_all advanced r)) (clamp_act speed_clamped)
    (then_act (clamp_all advanced) carry_all (clamp_act advanced) carry_act)))))

no_act : IsAct (λ r. r)
no_act = record {
  kept = λ first before r kept. kept;
  whole = λ first before r placed kept whole. whole;
}

ticks_act : (count : ℕ) (v : Vec2) → IsAct (ticks count v)
ticks_act zero v = no_act
ticks_act (suc count) v = then_act (ticks count v) (tick v) (ticks_act count v) (tick_act v)

ran_act : (count : ℕ) (v : Vec2) → IsAct (ran count v)
unfolding ran
ran_act count v = then_act (ticks count v) (visit_all constraint_bounced) (ticks_act count v) (visit_act constraint_bounced all_bounced_fair)

-- ---- from the start

start_kept : (states : List BodyState) (rows : List ConstraintRow) → IsKept states rows (start states rows)
start_kept states rows = record { movers = λ slot. refl; long = refl; slots = refl; names = refl }

pub ran_kept : (count : ℕ) (v : Vec2) (states : List BodyState) (rows : List ConstraintRow) → IsKept states rows (ran count v (start states rows))
ran_kept count v states rows = (ran_act count v).kept states rows (start states rows) (start_kept states rows)

pub ran_whole : (count : ℕ) (v : Vec2) (states : List BodyState) (rows : List ConstraintRow) → ArePlaced (length states) rows → IsWhole states (ran count v (start states rows))
ran_whole count v states rows placed =
    (ran_act count v).whole states rows (start states rows) placed (start_kept states rows) (record { same = beside_same states states (same_still states); momentum = sym (plus_zero (total states)) })
