-- The colour law: the visits of a colour, made one by one, are those made at once.
use Rattle.std.proofs.Common.{◌≡◌, ◌≢◌, ℕ, zero, suc, Bool, true, false, List, [], ◌∷◌, Some, map, get_or, set, arith, refl, sym, ap, ap₂, ◌∙◌, subst}
use Rattle.std.specs.List.{slice_get}
use Rattle.std.proofs.lemmas.List.{get_or-set_other, set-get_or}
use Rattle.fixed_geom.specs.Vectors.{plus}
use Rattle.momenta.specs.declared.state.BodyState.{BodyState}
use Rattle.momenta.specs.declared.state.Ends.{Ends}
use Rattle.momenta.specs.ImpulseBounds.{AreSameBodies}
use Rattle.colour_solver_base.specs.RowsAfter.{RowAfter}
use Rattle.colour_solver.specs.declared.row_visits.Slots.{Slots}
use Rattle.colour_solver.specs.States.{nobody}
use Rattle.colour_solver.specs.RowVisits.{after, ends_of, got, passed, rows_passed, share, visit_of, with_ends}
use Rattle.colour_solver.specs.Colour.{AreVisitsFair, ColoursAreAtOnce, IsColour, ShareNone, is_mover, results, scatter, share_at_once}

-- a body written into the slot i leaves the slot j alone, where it is another or the body is as it was
put_else : (ss : List BodyState) (i j : ℕ) (s : BodyState) (moves : Bool) → (moves ≡ true → i ≢ j) → (moves ≡ false → s ≡ get_or ss i nobody) → get_or (set ss i s) j nobody ≡ get_or ss j nobody
put_else ss i j s true apart same = let other : j ≢ i = λ e. apart refl (sym e) in get_or-set_other ss i j s nobody other
put_else ss i j s false apart same = ap (λ (x : BodyState). get_or (set ss i x) j nobody) (same refl) ∙ ap (λ (xs : List BodyState). get_or xs j nobody) (set-get_or ss i nobody)

-- two slots of which one has a mover and the other hasn't are two
not_one : (ss : List BodyState) (i j : ℕ) → is_mover ss i ≡ true → is_mover ss j ≡ false → i ≢ j
not_one ss i j moves still e = let clash : true ≡ false = sym moves ∙ ap (is_mover ss) e ∙ still in cc clash

-- a visit leaves the bodies in other slots alone, and those that don't move
visit_else : {R : Type 0} (at : R → Slots) (before now : List BodyState) (r : R) (made : Ends) (j : ℕ) → AreSameBodies (ends_of at before r) made → ends_of at now r ≡ ends_of at before r
    → (is_mover before (at r).a ≡ true → (at r).a ≢ j) → (is_mover before (at r).b ≡ true → (at r).b ≢ j) → get_or (with_ends at now r made) j nobody ≡ get_or now j nobody
visit_else at before now r made j fair ends apart_a apart_b =
    let a = (at r).a in
    let b = (at r).b in
    let first = set now a made.a in
    let same_a : get_or now a nobody ≡ get_or before a nobody = ap (λ (e : Ends). e.a) ends in
    let same_b : get_or now b nobody ≡ get_or before b nobody = ap (λ (e : Ends). e.b) ends in
    let stays_a : is_mover before a ≡ false → made.a ≡ get_or now a nobody = λ h. fair.a.immovable h ∙ sym same_a in
    let stays_b : is_mover before b ≡ false → made.b ≡ get_or first b nobody = λ h.
    fair.b.immovable h ∙ sym same_b ∙ sym (put_else now a b made.a (is_mover before a) (λ m. not_one before a b m h) stays_a) in
    put_else first b j made.b (is_mover before b) apart_b stays_b ∙ put_else now a j made.a (is_mover before a) apart_a stays_a

-- the rows that are left have the bodies that they had before
abbrev Same : {R : Type 0} → (R → Slots) → List BodyState → List BodyState → List R → Type 0
Same {R} at before now rows = (k : ℕ) (e : R) → slice_get rows k ≡ Some e → ends_of at now e ≡ ends_of at before e

visit_same : {R : Type 0} (at : R → Slots) (f : R → Ends → RowAfter R) (before now : List BodyState) (r : R) (rs : List R) → Same at before now (r ∷ rs) → visit_of at f now r ≡ visit_of at f before r
visit_same at f before now r rs same = ap (f r) (same zero r refl)

still_same : {R : Type 0} (at : R → Slots) (f : R → Ends → RowAfter R) (before now : List BodyState) (r : R) (rs : List R) → IsColour at before (r ∷ rs) → AreVisitsFair at f before (r ∷ rs) → Same at before now (r ∷ rs) → Same at before (after at f now r) rs
still_same {R} at f before now r rs colour fair same k e h =
    let ends : ends_of at now r ≡ ends_of at before r = same zero r refl in
    let at_first : AreSameBodies (ends_of at before r) (visit_of at f before r).ends = fair zero r (omega arith) in
    let here : AreSameBodies (ends_of at before r) (visit_of at f now r).ends = subst (λ (t : RowAfter R). AreSameBodies (ends_of at before r) t.ends) (sym (visit_same at f before now r rs same)) at_first in
    let none : ShareNone at before r e = colour zero (suc k) r e (omega arith) refl h in
    let a = visit_else at before now r (visit_of at f now r).ends (at e).a here ends none.a_a none.b_a in
    let b = visit_else at before now r (visit_of at f now r).ends (at e).b here ends none.a_b none.b_b in
    let kept : ends_of at (after at f now r) e ≡ ends_of at now e = cc (a, b) in
    kept ∙ same (suc k) e h

rest_colour : {R : Type 0} (at : R → Slots) (before : List BodyState) (r : R) (rs : List R) → IsColour at before (r ∷ rs) → IsColour at before rs
rest_colour at before r rs colour i j x y lt at_i at_j = colour (suc i) (suc j) x y (omega arith) at_i at_j

rest_fair : {R : Type 0} (at : R → Slots) (f : R → Ends → RowAfter R) (before : List BodyState) (r : R) (rs : List R) → AreVisitsFair at f before (r ∷ rs) → AreVisitsFair at f before rs
rest_fair at f before r rs fair k d lt = fair (suc k) d (omega arith)

results_from : {R : Type 0} (at : R → Slots) (f : R → Ends → RowAfter R) (rows : List R) (before now : List BodyState) → IsColour at before rows → AreVisitsFair at f before rows → Same at before now rows → results at f now rows ≡ map (visit_of at f before) rows
results_from at f [] before now colour fair same = refl
results_from at f (r ∷ rs) before now colour fair same =
    let here = visit_same at f before now r rs same in
    let more = results_from at f rs before (after at f now r) (rest_colour at before r rs colour) (rest_fair at f before r rs fair) (still_same at f before now r rs colour fair same) in
    cc (here, more)

share_from : {R : Type 0} (at : R → Slots) (f : R → Ends → RowAfter R) (rows : List R) (before now : List BodyState) → IsColour at before rows → AreVisitsFair at f before rows → Same at before now rows → share_at_once at f before rows ≡ share at f now rows
share_from at f [] before now colour fair same = refl
share_from at f (r ∷ rs) before now colour fair same =
    let ends : ends_of at now r ≡ ends_of at before r = same zero r refl in
    let here : got (ends_of at before r) (visit_of at f before r).ends ≡ got (ends_of at now r) (visit_of at f now r).ends = ap (λ (e : Ends). got e (f r e).ends) (sym ends) in
    let more = share_from at f rs before (after at f now r) (rest_colour at before r rs colour) (rest_fair at f before r rs fair) (still_same at f before now r rs colour fair same) in
    ap₂ plus here more

-- on a colour the visits one by one are those at the bodies before it
pub results_mapped : {R : Type 0} (at : R → Slots) (f : R → Ends → RowAfter R) (states : List BodyState) (rows : List R) → IsColour at states rows → AreVisitsFair at f states rows → results at f states rows ≡ map (visit_of at f states) rows
results_mapped at f states rows colour fair = results_from at f rows states states colour fair (λ k e h. refl)

-- with or without a colour: the visits one by one, written back, are the pass
scatter_results : {R : Type 0} (at : R → Slots) (f : R → Ends → RowAfter R) (states : List BodyState) (rows : List R) → scatter at states rows (results at f states rows) ≡ passed at f states rows
scatter_results at f states [] = refl
scatter_results at f states (r ∷ rs) = scatter_results at f (after at f states r) rs

rows_results : {R : Type 0} (at : R → Slots) (f : R → Ends → RowAfter R) (states : List BodyState) (rows : List R) → map (λ (t : RowAfter R). t.row) (results at f states rows) ≡ rows_passed at f states rows
rows_results {R} at f states [] = refl
rows_results {R} at f states (r ∷ rs) = ap (λ (l : List R). (visit_of at f states r).row ∷ l) (rows_results at f (after at f states r) rs)

-- mapping the visit over a colour at the bodies before it, and writing the results back, is the pass one by one
pub colour_law : {R : Type 0} (at : R → Slots) → ColoursAreAtOnce at
colour_law {R} at f states rows colour fair =
    let mapped = results_mapped at f states rows colour fair in
    record {
      visits = mapped;
      bodies = ap (scatter at states rows) (sym mapped) ∙ scatter_results at f states rows;
      visited = ap (map (λ (t : RowAfter R). t.row)) (sym mapped) ∙ rows_results at f states rows;
      given = share_from at f rows states states colour fair (λ k e h. refl);
    }
