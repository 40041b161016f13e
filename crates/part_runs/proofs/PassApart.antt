-- Visits of rows, as each part sees them, are the visits of the part's rows.
use Rattle.std.proofs.Common.{◌≡◌, ℕ, zero, suc, ◌<◌, Bool, true, false, cond, List, [], ◌∷◌, length, get_or, set, refl, sym, ap, ap₂, ◌∙◌}
use Rattle.std.specs.Prelude.{nat_eq, All}
use Rattle.std.proofs.lemmas.List.{length-set, set-get_or}
use Rattle.std.proofs.lemmas.List.Elements.{All-head, All-tail}
use Rattle.fixed_geom.specs.Vectors.{plus, zero_vector}
use Rattle.fixed_geom.specs.declared.vectors.Vec2.{Vec2}
use Rattle.momenta.specs.declared.state.BodyState.{BodyState}
use Rattle.momenta.specs.declared.state.Ends.{Ends}
use Rattle.momenta.specs.ImpulseBounds.{AreSameBodies}
use Rattle.colour_solver_base.specs.RowsAfter.{RowAfter}
use Rattle.colour_solver.specs.declared.constraint_row.ConstraintRow.{ConstraintRow}
use Rattle.colour_solver.specs.declared.row_visits.Slots.{Slots}
use Rattle.colour_solver.specs.Colour.{is_mover}
use Rattle.colour_solver.specs.ConstraintVisits.{constraint_slots}
use Rattle.colour_solver.specs.States.{nobody}
use Rattle.colour_solver.specs.RowVisits.{after, ends_of, got, passed, rows_passed, share, visit_of, with_ends}
use Rattle.colour_solver.proofs.VectorLaws.{zero_plus}
use Rattle.part_runs.specs.Hidden.{AreAt, ArePartsBelow, IsAt, SameMovers, hidden, owned, part_of, seen, sum_below}
use Rattle.part_runs.specs.Passes.{AreVisited, IsFairVisit}
use Rattle.part_runs.proofs.HiddenLaws.{get-hidden, hidden-set, seen_other, seen_own}
use Rattle.part_runs.proofs.SumLaws.{added_apart, one_of, sum_alike, sum_none, sum_one}

set_moves : (ss : List BodyState) (i j : ℕ) (s : BodyState) → s.movable ≡ is_mover ss i → is_mover (set ss i s) j ≡ is_mover ss j
set_moves [] i j s e = refl
set_moves (a ∷ ss) zero zero s e = e
set_moves (a ∷ ss) zero (suc j) s e = refl
set_moves (a ∷ ss) (suc i) zero s e = refl
set_moves (a ∷ ss) (suc i) (suc j) s e = set_moves ss i j s e

-- ---- the part of a row

below_if : (x : Bool) (i j n : ℕ) → i < n → j < n → cond x i j < n
below_if true i j n h k = h
below_if false i j n h k = k

pub part_below : {R : Type 0} (at : R → Slots) (g : ℕ → ℕ) (n : ℕ) (first : List BodyState) (r : R) → ArePartsBelow g n → part_of at g first r < n
part_below at g n first r below = below_if (is_mover first (at r).a) (g (at r).a) (g (at r).b) n (below (at r).a) (below (at r).b)

-- whether the movers of a row are with the part k
record AreOf (g : ℕ → ℕ) (k : ℕ) (now : List BodyState) (slots : Slots) (t : Bool) : Type 0 where
  a : is_mover now slots.a ≡ true → nat_eq (g slots.a) k ≡ t
  b : is_mover now slots.b ≡ true → nat_eq (g slots.b) k ≡ t

module _ (f : ConstraintRow → Ends → RowAfter ConstraintRow) (fair : IsFairVisit f) where
  -- ---- what visits leave

  after_moves : (ss : List BodyState) (r : ConstraintRow) → SameMovers ss (after constraint_slots f ss r)
  after_moves ss r slot =
      let s : Slots = constraint_slots r in
      let e : Ends = ends_of constraint_slots ss r in
      let t : Ends = (f r e).ends in
      let same : AreSameBodies e t = (fair.ends r e).same in
      set_moves (set ss s.a t.a) s.b slot t.b (same.b.movable ∙ sym (set_moves ss s.a s.b t.a same.a.movable)) ∙ set_moves ss s.a slot t.a same.a.movable

  after_long : (ss : List BodyState) (r : ConstraintRow) → length (after constraint_slots f ss r) ≡ length ss
  after_long ss r =
      let s : Slots = constraint_slots r in
      let t : Ends = (f r (ends_of constraint_slots ss r)).ends in
      length-set (set ss s.a t.a) s.b t.b ∙ length-set ss s.a t.a

  pub passed_moves : (rs : List ConstraintRow) (ss : List BodyState) → SameMovers ss (passed constraint_slots f ss rs)
  passed_moves [] ss slot = refl
  passed_moves (r ∷ rs) ss slot = passed_moves rs (after constraint_slots f ss r) slot ∙ after_moves ss r slot

  pub passed_long : (rs : List ConstraintRow) (ss : List BodyState) → length (passed constraint_slots f ss rs) ≡ length ss
  passed_long [] ss = refl
  passed_long (r ∷ rs) ss = passed_long rs (after constraint_slots f ss r) ∙ after_long ss r

module _ (f : ConstraintRow → Ends → RowAfter ConstraintRow) (fair : IsFairVisit f) (g : ℕ → ℕ) (to : ConstraintRow → ℕ) (stays : (r : ConstraintRow) (e : Ends) → to (f r e).row ≡ to r) (first : List BodyState) where
  are_of : (k : ℕ) (now : List BodyState) (r : ConstraintRow) (t : Bool) → SameMovers first now → IsAt constraint_slots g to first r → nat_eq (to r) k ≡ t → AreOf g k now (constraint_slots r) t
  are_of k now r t same at is =
      let s : Slots = constraint_slots r in
      record {
        a = λ m. ap (λ (q : ℕ). nat_eq q k) (at.a (sym (same s.a) ∙ m)) ∙ is;
        b = λ m. ap (λ (q : ℕ). nat_eq q k) (at.b (sym (same s.b) ∙ m)) ∙ is;
      }

  -- ---- one visit

  own_ends : (k : ℕ) (ss : List BodyState) (r : ConstraintRow) → AreOf g k ss (constraint_slots r) true → ends_of constraint_slots (hidden g k ss) r ≡ ends_of constraint_slots ss r
  own_ends k ss r own =
      let s : Slots = constraint_slots r in
      let at_a : get_or (hidden g k ss) s.a nobody ≡ get_or ss s.a nobody = get-hidden g k ss s.a ∙ seen_own g k s.a (get_or ss s.a nobody) own.a in
      let at_b : get_or (hidden g k ss) s.b nobody ≡ get_or ss s.b nobody = get-hidden g k ss s.b ∙ seen_own g k s.b (get_or ss s.b nobody) own.b in
      λ i. record { a = at_a i; b = at_b i }

  own_visit : (k : ℕ) (ss : List BodyState) (r : ConstraintRow) → AreOf g k ss (constraint_slots r) true → visit_of constraint_slots f (hidden g k ss) r ≡ visit_of constraint_slots f ss r
  own_visit k ss r own = ap (f r) (own_ends k ss r own)

  -- a part sees the visit of its own row
  own_after : (k : ℕ) (ss : List BodyState) (r : ConstraintRow) → AreOf g k ss (constraint_slots r) true → hidden g k (after constraint_slots f ss r) ≡ after constraint_slots f (hidden g k ss) r
  own_after k ss r own =
      let s : Slots = constraint_slots r in
      let e : Ends = ends_of constraint_slots ss r in
      let t : Ends = (f r e).ends in
      let same : AreSameBodies e t = (fair.ends r e).same in
      let seen_a : seen g k s.a t.a ≡ t.a = seen_own g k s.a t.a (λ m. own.a (sym same.a.movable ∙ m)) in
      let seen_b : seen g k s.b t.b ≡ t.b = seen_own g k s.b t.b (λ m. own.b (sym same.b.movable ∙ m)) in
      let set_a : hidden g k (set ss s.a t.a) ≡ set (hidden g k ss) s.a t.a = hidden-set g k ss s.a t.a ∙ ap (set (hidden g k ss) s.a) seen_a in
      let set_b : hidden g k (set (set ss s.a t.a) s.b t.b) ≡ set (set (hidden g k ss) s.a t.a) s.b t.b = hidden-set g k (set ss s.a t.a) s.b t.b ∙ (λ i. set (set_a i) s.b (seen_b i)) in
      set_b ∙ ap (λ (x : RowAfter ConstraintRow). with_ends constraint_slots (hidden g k ss) r x.ends) (sym (own_visit k ss r own))

  -- and nothing of the visit of another row
  other_after : (k : ℕ) (ss : List BodyState) (r : ConstraintRow) → AreOf g k ss (constraint_slots r) false → hidden g k (after constraint_slots f ss r) ≡ hidden g k ss
  other_after k ss r other =
      let s : Slots = constraint_slots r in
      let e : Ends = ends_of constraint_slots ss r in
      let t : Ends = (f r e).ends in
      let same : AreSameBodies e t = (fair.ends r e).same in
      let all : List BodyState = hidden g k ss in
      let seen_a : seen g k s.a t.a ≡ get_or all s.a nobody = seen_other g k s.a e.a t.a same.a other.a ∙ sym (get-hidden g k ss s.a) in
      let seen_b : seen g k s.b t.b ≡ get_or all s.b nobody = seen_other g k s.b e.b t.b same.b other.b ∙ sym (get-hidden g k ss s.b) in
      let set_a : hidden g k (set ss s.a t.a) ≡ all = hidden-set g k ss s.a t.a ∙ (ap (set all s.a) seen_a ∙ set-get_or all s.a nobody) in
      let set_b : hidden g k (set (set ss s.a t.a) s.b t.b) ≡ set all s.b (get_or all s.b nobody) = hidden-set g k (set ss s.a t.a) s.b t.b ∙ (λ i. set (set_a i) s.b (seen_b i)) in
      set_b ∙ set-get_or all s.b nobody

  -- ---- all visits

  passed_step : (k : ℕ) (ss : List BodyState) (r : ConstraintRow) (rs : List ConstraintRow) (t : Bool) → AreOf g k ss (constraint_slots r) t
      → passed constraint_slots f (hidden g k ss) (cond t (r ∷ rs) rs) ≡ passed constraint_slots f (hidden g k (after constraint_slots f ss r)) rs
  passed_step k ss r rs true of = ap (λ (l : List BodyState). passed constraint_slots f l rs) (sym (own_after k ss r of))
  passed_step k ss r rs false of = ap (λ (l : List BodyState). passed constraint_slots f l rs) (sym (other_after k ss r of))

  pub passed_apart : (k : ℕ) (rs : List ConstraintRow) (ss : List BodyState) → SameMovers first ss → AreAt constraint_slots g to first rs
      → hidden g k (passed constraint_slots f ss rs) ≡ passed constraint_slots f (hidden g k ss) (owned to k rs)
  passed_apart k [] ss same together = refl
  passed_apart k (r ∷ rs) ss same together =
      let is : IsAt constraint_slots g to first r = All-head (IsAt constraint_slots g to first) r rs together in
      let rest : AreAt constraint_slots g to first rs = All-tail (IsAt constraint_slots g to first) r rs together in
      let t : Bool = nat_eq (to r) k in
      passed_apart k rs (after constraint_slots f ss r) (λ slot. after_moves f fair ss r slot ∙ same slot) rest
      ∙ sym (passed_step k ss r (owned to k rs) t (are_of k ss r t same is refl))

  rows_step : (k : ℕ) (ss : List BodyState) (r : ConstraintRow) (rs visited : List ConstraintRow) (t : Bool) → AreOf g k ss (constraint_slots r) t
      → visited ≡ rows_passed constraint_slots f (hidden g k (after constraint_slots f ss r)) rs
      → cond t ((visit_of constraint_slots f ss r).row ∷ visited) visited ≡ rows_passed constraint_slots f (hidden g k ss) (cond t (r ∷ rs) rs)
  rows_step k ss r rs visited true of e =
      let here = own_visit k ss r of in
      let rest : visited ≡ rows_passed constraint_slots f (after constraint_slots f (hidden g k ss) r) rs = e ∙ ap (λ (l : List BodyState). rows_passed constraint_slots f l rs) (own_after k ss r of) in
      ap₂ (λ (x : RowAfter ConstraintRow) (l : List ConstraintRow). x.row ∷ l) (sym here) rest
  rows_step k ss r rs visited false of e = e ∙ ap (λ (l : List BodyState). rows_passed constraint_slots f l rs) (other_after k ss r of)

  pub rows_apart : (k : ℕ) (rs : List ConstraintRow) (ss : List BodyState) → SameMovers first ss → AreAt constraint_slots g to first rs
      → owned to k (rows_passed constraint_slots f ss rs) ≡ rows_passed constraint_slots f (hidden g k ss) (owned to k rs)
  rows_apart k [] ss same together = refl
  rows_apart k (r ∷ rs) ss same together =
      let is : IsAt constraint_slots g to first r = All-head (IsAt constraint_slots g to first) r rs together in
      let rest : AreAt constraint_slots g to first rs = All-tail (IsAt constraint_slots g to first) r rs together in
      let t : Bool = nat_eq (to r) k in
      let row : ConstraintRow = (visit_of constraint_slots f ss r).row in
      let visited : List ConstraintRow = owned to k (rows_passed constraint_slots f (after constraint_slots f ss r) rs) in
      let more = rows_apart k rs (after constraint_slots f ss r) (λ slot. after_moves f fair ss r slot ∙ same slot) rest in
      ap (λ (q : ℕ). cond (nat_eq q k) (row ∷ visited) visited) (stays r (ends_of constraint_slots ss r)) ∙ rows_step k ss r (owned to k rs) visited t (are_of k ss r t same is refl) more

  share_step : (k : ℕ) (ss : List BodyState) (r : ConstraintRow) (rs : List ConstraintRow) (t : Bool) → AreOf g k ss (constraint_slots r) t
      → plus (cond t (got (ends_of constraint_slots ss r) (visit_of constraint_slots f ss r).ends) zero_vector) (share constraint_slots f (hidden g k (after constraint_slots f ss r)) rs) ≡ share constraint_slots f (hidden g k ss) (cond t (r ∷ rs) rs)
  share_step k ss r rs true of =
      let ends = own_ends k ss r of in
      let rest = own_after k ss r of in
      λ i. plus (got (sym ends i) (f r (sym ends i)).ends) (share constraint_slots f (rest i) rs)
  share_step k ss r rs false of = zero_plus _ ∙ ap (λ (l : List BodyState). share constraint_slots f l rs) (other_after k ss r of)

  pub share_apart : (n : ℕ) (rs : List ConstraintRow) (ss : List BodyState) → All (λ r. to r < n) rs → SameMovers first ss → AreAt constraint_slots g to first rs
      → share constraint_slots f ss rs ≡ sum_below n (λ k. share constraint_slots f (hidden g k ss) (owned to k rs))
  share_apart n [] ss below same together = sym (sum_none n)
  share_apart n (r ∷ rs) ss below same together =
      let is : IsAt constraint_slots g to first r = All-head (IsAt constraint_slots g to first) r rs together in
      let rest : AreAt constraint_slots g to first rs = All-tail (IsAt constraint_slots g to first) r rs together in
      let q : ℕ = to r in
      let v : Vec2 = got (ends_of constraint_slots ss r) (visit_of constraint_slots f ss r).ends in
      let behind : ℕ → Vec2 = λ k. share constraint_slots f (hidden g k (after constraint_slots f ss r)) (owned to k rs) in
      let more = share_apart n rs (after constraint_slots f ss r) (All-tail (λ x. to x < n) r rs below) (λ slot. after_moves f fair ss r slot ∙ same slot) rest in
      let each : (k : ℕ) → plus (one_of q v k) (behind k) ≡ share constraint_slots f (hidden g k ss) (owned to k (r ∷ rs)) = λ k.
      share_step k ss r (owned to k rs) (nat_eq q k) (are_of k ss r (nat_eq q k) same is refl) in
      added_apart n v (share constraint_slots f (after constraint_slots f ss r) rs) (one_of q v) behind (sym (sum_one n q v (All-head (λ x. to x < n) r rs below))) more
      ∙ sum_alike n (λ k. plus (one_of q v k) (behind k)) (λ k. share constraint_slots f (hidden g k ss) (owned to k (r ∷ rs))) (λ k lt. each k)

  pub visits_apart : (n : ℕ) (rs : List ConstraintRow) (ss : List BodyState) → All (λ r. to r < n) rs → SameMovers first ss → AreAt constraint_slots g to first rs → AreVisited n f g to ss rs
  visits_apart n rs ss below same together = record {
    bodies = λ k. passed_apart k rs ss same together;
    rows_are = λ k. rows_apart k rs ss same together;
    given = share_apart n rs ss below same together;
  }
