-- Stages one after another are all rows in one list.
use Rattle.std.proofs.Common.{◌≡◌, ℕ, zero, suc, ◌<◌, List, [], ◌∷◌, ◌++◌, length, take, drop, arith, refl, sym, ap, ◌∙◌}
use Rattle.std.specs.List.{flat_map}
use Rattle.std.proofs.lemmas.List.{append-nil, length-drop}
use Rattle.std.proofs.lemmas.List.Concat.{flat_map-append}
use Rattle.fixed_geom.specs.Vectors.{plus, zero_vector}
use Rattle.fixed_geom.specs.declared.vectors.Vec2.{Vec2}
use Rattle.momenta.specs.declared.state.BodyState.{BodyState}
use Rattle.momenta.specs.declared.state.Ends.{Ends}
use Rattle.colour_solver_base.specs.RowsAfter.{RowAfter}
use Rattle.colour_solver.specs.declared.constraint_row.ConstraintRow.{ConstraintRow}
use Rattle.colour_solver.specs.ColourRows.{ColourRows, all_rows}
use Rattle.colour_solver.specs.ConstraintVisits.{constraint_slots}
use Rattle.colour_solver.specs.RowVisits.{after, ends_of, got, passed, rows_passed, share, visit_of}
use Rattle.colour_solver.proofs.VectorLaws.{plus_assoc, zero_plus}
use Rattle.part_runs.specs.Hidden.{hidden, part_at, sum_below}
use Rattle.part_runs.specs.Walks.{Walk}
use Rattle.part_runs.specs.Passes.{given_to, rows_after, states_after}
use Rattle.part_runs.specs.Runs.{stage_rows}
use Rattle.part_runs.specs.Stages.{rows_at, walk_at}
use Rattle.part_runs.proofs.AfterLaws.{given_none}
use Rattle.part_runs.proofs.SumLaws.{added_apart, sum_alike, sum_none}

-- all rows of some stages
abbrev pub flat : List (List ConstraintRow) → List ConstraintRow
flat rows = flat_map (λ rs. rs) rows

pub all_flat_rows : (r : ColourRows ConstraintRow) → flat (stage_rows r) ≡ all_rows r
all_flat_rows r = flat_map-append (λ (rs : List ConstraintRow). rs) r.colours (r.left ∷ []) ∙ ap (λ (l : List ConstraintRow). flat r.colours ++ l) (append-nil r.left)

second_at : (rows : List (List ConstraintRow)) (i : ℕ) → rows_at rows (suc i) ≡ rows_at (drop 1 rows) i
second_at [] i = refl
second_at (rs ∷ rows) i = refl

module _ (f : ConstraintRow → Ends → RowAfter ConstraintRow) where
  passed_on : (xs ys : List ConstraintRow) (ss : List BodyState) → passed constraint_slots f ss (xs ++ ys) ≡ passed constraint_slots f (passed constraint_slots f ss xs) ys
  passed_on [] ys ss = refl
  passed_on (x ∷ xs) ys ss = passed_on xs ys (after constraint_slots f ss x)

  rows_on : (xs ys : List ConstraintRow) (ss : List BodyState) → rows_passed constraint_slots f ss (xs ++ ys) ≡ rows_passed constraint_slots f ss xs ++ rows_passed constraint_slots f (passed constraint_slots f ss xs) ys
  rows_on [] ys ss = refl
  rows_on (x ∷ xs) ys ss = ap (λ (l : List ConstraintRow). (visit_of constraint_slots f ss x).row ∷ l) (rows_on xs ys (after constraint_slots f ss x))

  share_on : (xs ys : List ConstraintRow) (ss : List BodyState) → share constraint_slots f ss (xs ++ ys) ≡ plus (share constraint_slots f ss xs) (share constraint_slots f (passed constraint_slots f ss xs) ys)
  share_on [] ys ss = sym (zero_plus (share constraint_slots f ss ys))
  share_on (x ∷ xs) ys ss =
      let v : Vec2 = got (ends_of constraint_slots ss x) (visit_of constraint_slots f ss x).ends in
      let now : List BodyState = after constraint_slots f ss x in
      ap (plus v) (share_on xs ys now) ∙ plus_assoc v (share constraint_slots f now xs) (share constraint_slots f (passed constraint_slots f now xs) ys)

  pub states_flat : (rows : List (List ConstraintRow)) (ss : List BodyState) → passed constraint_slots f ss (flat rows) ≡ states_after f ss rows
  states_flat [] ss = refl
  states_flat (rs ∷ rows) ss = passed_on rs (flat rows) ss ∙ states_flat rows (passed constraint_slots f ss rs)

  pub rows_flat : (rows : List (List ConstraintRow)) (ss : List BodyState) → rows_passed constraint_slots f ss (flat rows) ≡ flat (rows_after f ss rows)
  rows_flat [] ss = refl
  rows_flat (rs ∷ rows) ss = rows_on rs (flat rows) ss ∙ ap (λ (l : List ConstraintRow). rows_passed constraint_slots f ss rs ++ l) (rows_flat rows (passed constraint_slots f ss rs))

  -- ---- what a pass gives, part by part

  given_first : (k m : ℕ) (w : Walk) (walks : List Walk) (ss : List BodyState) (rs : List ConstraintRow) (rows own : List (List ConstraintRow)) → length own ≡ suc m
      → given_to f k (w ∷ walks) ss (rs ∷ rows) own ≡ plus (share constraint_slots f (hidden (part_at w.at) k ss) (rows_at own 0)) (given_to f k walks (passed constraint_slots f ss rs) rows (drop 1 own))
  given_first k m w walks ss rs rows [] long = absurd (omega (arith, long))
  given_first k m w walks ss rs rows (o ∷ own) long = refl

  -- what the stage i gives is what it gives to the parts below n
  abbrev pub AreGiven : ℕ → List Walk → List BodyState → List (List ConstraintRow) → (ℕ → List (List ConstraintRow)) → Type 0
  AreGiven n walks ss rows own = (i : ℕ) → i < length rows → share constraint_slots f (states_after f ss (take i rows)) (rows_at rows i)
      ≡ sum_below n (λ k. share constraint_slots f (hidden (part_at (walk_at walks i).at) k (states_after f ss (take i rows))) (rows_at (own k) i))

  pub given_apart : (n : ℕ) (walks : List Walk) (ss : List BodyState) (rows : List (List ConstraintRow)) (own : ℕ → List (List ConstraintRow)) → length rows < length walks → ((k : ℕ) → length (own k) ≡ length rows) → AreGiven n walks ss rows own
      → share constraint_slots f ss (flat rows) ≡ sum_below n (λ k. given_to f k walks ss rows (own k))
  given_apart n walks ss [] own more long each = sym (sum_alike n (λ k. given_to f k walks ss [] (own k)) (λ k. zero_vector) (λ k lt. given_none f k walks ss (own k)) ∙ sum_none n)
  given_apart n [] ss (rs ∷ rows) own more long each = absurd (omega (arith, more))
  given_apart n (w ∷ walks) ss (rs ∷ rows) own more long each =
      let now : List BodyState = passed constraint_slots f ss rs in
      let rest : ℕ → List (List ConstraintRow) = λ k. drop 1 (own k) in
      let here : ℕ → Vec2 = λ k. share constraint_slots f (hidden (part_at w.at) k ss) (rows_at (own k) 0) in
      let behind : ℕ → Vec2 = λ k. given_to f k walks now rows (rest k) in
      let long_rest : (k : ℕ) → length (rest k) ≡ length rows = λ k. let l = long k in let d = length-drop 1 (own k) in omega (arith, l, d) in
      let each_rest : AreGiven n walks now rows rest = λ i lt. each (suc i) (omega (arith, lt))
      ∙ sum_alike n (λ k. share constraint_slots f (hidden (part_at (walk_at walks i).at) k (states_after f now (take i rows))) (rows_at (own k) (suc i))) (λ k. share constraint_slots f (hidden (part_at (walk_at walks i).at) k (states_after f now (take i rows))) (rows_at (rest k) i))
      (λ k less. ap (share constraint_slots f (hidden (part_at (walk_at walks i).at) k (states_after f now (take i rows)))) (second_at (own k) i)) in
      share_on rs (flat rows) ss
      ∙ added_apart n (share constraint_slots f ss rs) (share constraint_slots f now (flat rows)) here behind (each zero (omega arith)) (given_apart n walks now rows rest (omega (arith, more)) long_rest each_rest)
      ∙ sum_alike n (λ k. plus (here k) (behind k)) (λ k. given_to f k (w ∷ walks) ss (rs ∷ rows) (own k)) (λ k lt. sym (given_first k (length rows) w walks ss rs rows (own k) (long k)))
