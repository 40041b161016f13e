-- What a visit leaves in the list of the bodies.
use Rattle.std.proofs.Common.{◌≡◌, ℕ, zero, suc, ◌<◌, List, [], ◌∷◌, length, get_or, set, arith, refl, sym, ap, ◌∙◌}
use Rattle.std.proofs.lemmas.List.{length-set}
use Rattle.fixed_geom.specs.Vectors.{plus}
use Rattle.fixed_geom.specs.declared.vectors.Vec2.{Vec2}
use Rattle.momenta.specs.declared.state.BodyState.{BodyState}
use Rattle.momenta.specs.declared.state.Ends.{Ends}
use Rattle.momenta.specs.ImpulseBounds.{AreStates, AreSameBodies, IsMomentumKept}
use Rattle.momenta.specs.Line64.{both_ends}
use Rattle.colour_solver_base.specs.RowsAfter.{RowAfter}
use Rattle.colour_solver.specs.declared.row_visits.Slots.{Slots}
use Rattle.colour_solver.specs.States.{AreAllStates, AreSameStates, nobody, total}
use Rattle.colour_solver.specs.RowVisits.{IsRowOn, IsVisited, ends_of, got, visit_of, with_ends}
use Rattle.colour_solver.proofs.SameLaws.{same_visited}
use Rattle.colour_solver.proofs.VisitLaws.{row_kept, states-set, total-after}

-- below the end of the list what stands for nothing doesn't matter
known_in : (ss : List BodyState) (i : ℕ) (d e : BodyState) → i < length ss → get_or ss i d ≡ get_or ss i e
known_in [] i d e h = absurd (omega arith)
known_in (s ∷ ss) zero d e h = refl
known_in (s ∷ ss) (suc i) d e h = known_in ss i d e (omega arith)

all_after : {R : Type 0} (at : R → Slots) (ss : List BodyState) (r : R) (after : Ends) → AreAllStates ss → AreStates after → AreAllStates (with_ends at ss r after)
all_after at ss r after all states = states-set (set ss (at r).a after.a) (at r).b after.b (states-set ss (at r).a after.a all states.a) states.b

same_after : {R : Type 0} (at : R → Slots) (is : R → Type 0) (ss : List BodyState) (r : R) (after : Ends) → IsRowOn at is (length ss) r → AreSameBodies (ends_of at ss r) after → AreSameStates ss (with_ends at ss r after)
same_after at is ss r after below same =
    let e = ends_of at ss r in
    same_visited ss (at r).a (at r).b e after below.a below.b (known_in ss (at r).a nobody e.a below.a) (known_in ss (at r).b nobody e.b below.b) same

total_after : {R : Type 0} (at : R → Slots) (is : R → Type 0) (ss : List BodyState) (r : R) (after : Ends) → IsRowOn at is (length ss) r → AreSameBodies (ends_of at ss r) after → IsMomentumKept (ends_of at ss r) after
    → total (with_ends at ss r after) ≡ plus (total ss) (got (ends_of at ss r) after)
total_after at is ss r after below same kept =
    let e = ends_of at ss r in
    total-after ss (at r).a (at r).b e after below.a below.b below.apart (known_in ss (at r).a nobody e.a below.a) (known_in ss (at r).b nobody e.b below.b) same kept

-- two bodies that stand in the slots of a row are those of the row
pub ends_there : {R : Type 0} (at : R → Slots) (ss : List BodyState) (r : R) (a b : BodyState) → (at r).a < length ss → (at r).b < length ss → a ≡ get_or ss (at r).a a → b ≡ get_or ss (at r).b b → both_ends a b ≡ ends_of at ss r
ends_there at ss r a b low_a low_b is_a is_b =
    let first : a ≡ get_or ss (at r).a nobody = is_a ∙ sym (known_in ss (at r).a nobody a low_a) in
    let second : b ≡ get_or ss (at r).b nobody = is_b ∙ sym (known_in ss (at r).b nobody b low_b) in
    ap (λ (s : BodyState). both_ends s b) first ∙ ap (both_ends (get_or ss (at r).a nobody)) second

pub visited_by : {R : Type 0} (at : R → Slots) (is : R → Type 0) (f : R → Ends → RowAfter R) (ss : List BodyState) (r row : R) (after : Ends) (given : Vec2) → IsRowOn at is (length ss) r → AreAllStates ss
    → visit_of at f ss r ≡ record { row = row; ends = after } → is row → at row ≡ at r → AreStates after → AreSameBodies (ends_of at ss r) after → IsMomentumKept (ends_of at ss r) after → given ≡ got (ends_of at ss r) after
    → IsVisited at is f ss r (with_ends at ss r after) row given
visited_by {R} at is f ss r row after given below all value here slots states same kept got_is =
    let long : length (with_ends at ss r after) ≡ length ss = length-set (set ss (at r).a after.a) (at r).b after.b ∙ length-set ss (at r).a after.a in
    let ends_are : after ≡ (visit_of at f ss r).ends = sym (ap (λ (t : RowAfter R). t.ends) value) in
    record {
      states = ap (with_ends at ss r) ends_are;
      row_is = sym (ap (λ (t : RowAfter R). t.row) value);
      got_is = got_is ∙ ap (got (ends_of at ss r)) ends_are;
      all_states = all_after at ss r after all states;
      below = row_kept at is (length ss) _ r row long below here slots;
      long = long;
      same = same_after at is ss r after below same;
      momentum = total_after at is ss r after below same kept ∙ ap (plus (total ss)) (sym got_is);
    }
