-- The walks of a pass by their numbers, and the rows of a part.
use Rattle.std.proofs.Common.{◌≡◌, ℕ, zero, suc, ◌+◌, ◌<◌, List, [], ◌∷◌, ◌++◌, length, map, add-one, arith, refl, ap, sym, subst}
use Rattle.momenta.specs.declared.state.BodyState.{BodyState}
use Rattle.colour_solver.specs.declared.constraint_row.ConstraintRow.{ConstraintRow}
use Rattle.colour_solver.specs.ConstraintVisits.{constraint_slots}
use Rattle.colour_solver.specs.States.{movers_of}
use Rattle.part_runs.specs.Hidden.{part_at, rows_of}
use Rattle.part_runs.specs.Walks.{Walk, first_part, home_of, own_left, setting_out, stages_from, walk_home, walk_rows}
use Rattle.part_runs.specs.Runs.{own_stages, walks_of}
use Rattle.part_runs.specs.Stages.{rows_at, stood, walk_at}
use Rattle.part_runs.specs.Laws.{WalksAreMade}
use Rattle.part_runs.proofs.AfterLaws.{stood_on}

module _ (home awake : List ℕ) (first : List BodyState) (left : List ConstraintRow) where
  abbrev walks_from : List (List ConstraintRow) → List ℕ → List Walk
  walks_from colours at = stages_from home awake first colours left at

  abbrev after_colour : List ConstraintRow → List ℕ → List ℕ
  after_colour rows at = (walk_rows first (home_of home first) rows (setting_out at)).at

  coloured_at : (colours : List (List ConstraintRow)) (at : List ℕ) (i : ℕ) → i < length colours
      → walk_at (walks_from colours at) i ≡ walk_rows first (home_of home first) (rows_at colours i) (setting_out (stood at (walks_from colours at) i))
  coloured_at [] at i lt = absurd (omega (arith, lt))
  coloured_at (rows ∷ colours) at zero lt = refl
  coloured_at (rows ∷ colours) at (suc i) lt = coloured_at colours (after_colour rows at) i (omega (arith, lt))

  left_at : (colours : List (List ConstraintRow)) (at : List ℕ) → walk_at (walks_from colours at) (length colours) ≡ walk_rows first first_part left (setting_out (stood at (walks_from colours at) (length colours)))
  left_at [] at = refl
  left_at (rows ∷ colours) at = left_at colours (after_colour rows at)

  home_at : (colours : List (List ConstraintRow)) (at : List ℕ) → walk_at (walks_from colours at) (suc (length colours)) ≡ walk_home home awake (setting_out (stood at (walks_from colours at) (suc (length colours))))
  home_at [] at = refl
  home_at (rows ∷ colours) at = home_at colours (after_colour rows at)

  count_at : (colours : List (List ConstraintRow)) (at : List ℕ) → length (walks_from colours at) ≡ length colours + 2
  count_at [] at = refl
  count_at (rows ∷ colours) at = let more = count_at colours (after_colour rows at) in omega (arith, more)

own_made : (home : List ℕ) (k : ℕ) (first : List BodyState) (colours : List (List ConstraintRow)) (left : List ConstraintRow)
    → own_stages home k first (colours ++ left ∷ []) ≡ map (rows_of constraint_slots (part_at home) k first) colours ++ own_left k left ∷ []
own_made home k first [] left = refl
own_made home k first (rs ∷ []) left = refl
own_made home k first (rs ∷ next ∷ colours) left = ap (λ (l : List (List ConstraintRow)). rows_of constraint_slots (part_at home) k first rs ∷ l) (own_made home k first (next ∷ colours) left)

pub walks_made : WalksAreMade
walks_made t =
    let n : ℕ = length t.rows.colours in
    record {
      count = count_at t.home (movers_of t.states) t.states t.rows.left t.rows.colours t.home;
      coloured = λ i lt. coloured_at t.home (movers_of t.states) t.states t.rows.left t.rows.colours t.home i lt;
      left = left_at t.home (movers_of t.states) t.states t.rows.left t.rows.colours t.home;
      home = subst (λ (i : ℕ). walk_at (walks_of t) i ≡ walk_home t.home (movers_of t.states) (setting_out (stood t.home (walks_of t) i))) (sym (add-one n)) (home_at t.home (movers_of t.states) t.states t.rows.left t.rows.colours t.home);
      onward = λ i lt. stood_on t.home (walks_of t) i lt;
      own = λ k. own_made t.home k t.states t.rows.colours t.rows.left;
    }
