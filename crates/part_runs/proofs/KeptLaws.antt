-- What visits leave alone of all bodies, wherever their rows stand: what an impulse never changes, and all of what no
-- impulse moves.
use Rattle.std.proofs.Common.{◌≡◌, ℕ, zero, suc, Bool, true, false, cond, List, [], ◌∷◌, get_or, set, refl, sym, ap, ◌∙◌}
use Rattle.momenta.specs.declared.mass.MassData.{MassData}
use Rattle.momenta.specs.declared.motion.Motion.{Motion}
use Rattle.momenta.specs.declared.state.BodyState.{BodyState}
use Rattle.momenta.specs.declared.state.Ends.{Ends}
use Rattle.momenta.specs.ImpulseBounds.{AreSameBodies, IsSameBody}
use Rattle.colour_solver_base.specs.RowsAfter.{RowAfter}
use Rattle.colour_solver.specs.declared.constraint_row.ConstraintRow.{ConstraintRow}
use Rattle.colour_solver.specs.declared.row_visits.Slots.{Slots}
use Rattle.colour_solver.specs.ConstraintVisits.{constraint_slots}
use Rattle.colour_solver.specs.Passes.{changed, pass}
use Rattle.colour_solver.specs.RowVisits.{after, ends_of, passed}
use Rattle.colour_solver.specs.States.{AreSameStates, nobody}
use Rattle.part_runs.specs.Passes.{IsFairVisit, states_after}
use Rattle.part_runs.proofs.AfterLaws.{after_long}
use Rattle.part_runs.proofs.HiddenLaws.{beside-map, get-map}
use Rattle.part_runs.proofs.WholeLaws.{changed_is}

set_kept : {X : Type 0} (h : BodyState → X) (ss : List BodyState) (i j : ℕ) (s : BodyState) → h s ≡ h (get_or ss i nobody) → h (get_or (set ss i s) j nobody) ≡ h (get_or ss j nobody)
set_kept h [] i j s e = refl
set_kept h (a ∷ ss) zero zero s e = e
set_kept h (a ∷ ss) zero (suc j) s e = refl
set_kept h (a ∷ ss) (suc i) zero s e = refl
set_kept h (a ∷ ss) (suc i) (suc j) s e = set_kept h ss i j s e

-- what stays of a body that no impulse moves, and nobody of a mover
abbrev rest_of : BodyState → BodyState
rest_of b = cond b.movable nobody b

rest_if : (m : Bool) (b c : BodyState) → b.movable ≡ m → IsSameBody b c → rest_of c ≡ rest_of b
rest_if true b c is same = ap (λ t. cond t nobody c) (same.movable ∙ is) ∙ sym (ap (λ t. cond t nobody b) is)
rest_if false b c is same = ap rest_of (same.immovable is)

rest_same : (b c : BodyState) → IsSameBody b c → rest_of c ≡ rest_of b
rest_same b c same = rest_if b.movable b c refl same

rest_is : (b c : BodyState) → rest_of c ≡ rest_of b → c.movable ≡ b.movable → b.movable ≡ false → c ≡ b
rest_is b c e moves rests = sym (ap (λ t. cond t nobody c) (moves ∙ rests)) ∙ e ∙ ap (λ t. cond t nobody b) rests

module _ (f : ConstraintRow → Ends → RowAfter ConstraintRow) (fair : IsFairVisit f) {X : Type 0} (h : BodyState → X) (same : (b c : BodyState) → IsSameBody b c → h c ≡ h b) where
  after_kept : (ss : List BodyState) (r : ConstraintRow) (slot : ℕ) → h (get_or (after constraint_slots f ss r) slot nobody) ≡ h (get_or ss slot nobody)
  after_kept ss r slot =
      let s : Slots = constraint_slots r in
      let e : Ends = ends_of constraint_slots ss r in
      let t : Ends = (f r e).ends in
      let both : AreSameBodies e t = (fair.ends r e).same in
      set_kept h (set ss s.a t.a) s.b slot t.b (same e.b t.b both.b ∙ sym (set_kept h ss s.a s.b t.a (same e.a t.a both.a))) ∙ set_kept h ss s.a slot t.a (same e.a t.a both.a)

  passed_kept : (rs : List ConstraintRow) (ss : List BodyState) (slot : ℕ) → h (get_or (passed constraint_slots f ss rs) slot nobody) ≡ h (get_or ss slot nobody)
  passed_kept [] ss slot = refl
  passed_kept (r ∷ rs) ss slot = passed_kept rs (after constraint_slots f ss r) slot ∙ after_kept ss r slot

  stages_kept : (rows : List (List ConstraintRow)) (ss : List BodyState) (slot : ℕ) → h (get_or (states_after f ss rows) slot nobody) ≡ h (get_or ss slot nobody)
  stages_kept [] ss slot = refl
  stages_kept (rs ∷ rows) ss slot = stages_kept rows (passed constraint_slots f ss rs) slot ∙ passed_kept rs ss slot

pub stages_same : (f : ConstraintRow → Ends → RowAfter ConstraintRow) → IsFairVisit f → (rows : List (List ConstraintRow)) (ss : List BodyState) → AreSameStates ss (states_after f ss rows)
stages_same f fair rows ss =
    let moves = stages_kept f fair (λ (b : BodyState). b.movable) (λ b c same. same.movable) rows ss in
    record {
      long = after_long f fair rows ss;
      immovable = λ slot rests. rest_is (get_or ss slot nobody) (get_or (states_after f ss rows) slot nobody) (stages_kept f fair rest_of rest_same rows ss slot) (moves slot) rests;
      reciprocals = stages_kept f fair (λ (b : BodyState). b.reciprocals) (λ b c same. same.reciprocals) rows ss;
      movable = moves;
      mass = stages_kept f fair (λ (b : BodyState). b.mass) (λ b c same. same.mass) rows ss;
    }

pub changed_same : (f : MassData → Motion → Motion) (ss : List BodyState) → AreSameStates ss (pass f ss)
changed_same f ss =
    let beside = beside-map (changed f) (changed_is f) ss in
    record {
      long = beside.long;
      immovable = λ slot rests. get-map (changed f) refl ss slot ∙ ap (λ t. cond t (record (get_or ss slot nobody) { motion = f (get_or ss slot nobody).mass (get_or ss slot nobody).motion }) (get_or ss slot nobody)) rests;
      reciprocals = beside.reciprocals;
      movable = beside.movable;
      mass = beside.mass;
    }
