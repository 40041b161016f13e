-- Trusted: A colour: rows no two of which share a mover. Their visits may be made at once, each with the bodies as they
-- are before all of them.
use Rattle.std.specs.Prelude.{◌≡◌, ◌≢◌, ◌<◌, ℕ, Bool, true, List, [], ◌∷◌, Some, map, All, slice_get, slice_index_or}
use Rattle.fixed_geom.specs.Vectors.{plus, zero_vector}
use Rattle.fixed_geom.specs.declared.vectors.Vec2.{Vec2}
use Rattle.momenta.specs.declared.state.BodyState.{BodyState}
use Rattle.momenta.specs.declared.state.Ends.{Ends}
use Rattle.momenta.specs.ImpulseBounds.{AreSameBodies}
use Rattle.colour_solver_base.specs.RowsAfter.{RowAfter}
use Rattle.colour_solver.specs.declared.row_visits.Slots.{Slots}
use Rattle.colour_solver.specs.declared.constraint_row.ConstraintRow.{ConstraintRow}
use Rattle.colour_solver.specs.ColourRows.{ColourRows}
use Rattle.colour_solver.specs.ConstraintVisits.{constraint_slots}
use Rattle.colour_solver.specs.States.{nobody}
use Rattle.colour_solver.specs.RowVisits.{after, ends_of, got, passed, rows_passed, share, visit_of, with_ends}

abbrev pub is_mover : List BodyState → ℕ → Bool
is_mover states slot = (slice_index_or states slot nobody).movable

-- no mover of the row r is a body of the row e
pub record ShareNone {R : Type 0} (at : R → Slots) (states : List BodyState) (r e : R) : Type 0 where
  pub a_a : is_mover states (at r).a ≡ true → (at r).a ≢ (at e).a
  pub a_b : is_mover states (at r).a ≡ true → (at r).a ≢ (at e).b
  pub b_a : is_mover states (at r).b ≡ true → (at r).b ≢ (at e).a
  pub b_b : is_mover states (at r).b ≡ true → (at r).b ≢ (at e).b

abbrev pub IsColour : {R : Type 0} → (R → Slots) → List BodyState → List R → Type 0
IsColour {R} at states rows = (i j : ℕ) (r e : R) → i < j → slice_get rows i ≡ Some r → slice_get rows j ≡ Some e → ShareNone at states r e

-- the rows of each colour are one; those that have no colour may share movers
abbrev pub AreColours : List BodyState → ColourRows ConstraintRow → Type 0
AreColours states r = All (λ rs. IsColour constraint_slots states rs) r.colours

-- ---- the visits one by one, and at once

-- the visits of a pass, in order, each with the bodies as those before it left them
abbrev pub results : {R : Type 0} → (R → Slots) → (R → Ends → RowAfter R) → List BodyState → List R → List (RowAfter R)
results at f states [] = []
results at f states (r ∷ rs) = visit_of at f states r ∷ results at f (after at f states r) rs

-- visits that are there already, written back
abbrev pub scatter : {R : Type 0} → (R → Slots) → List BodyState → List R → List (RowAfter R) → List BodyState
scatter at states [] visits = states
scatter at states (r ∷ rs) [] = states
scatter at states (r ∷ rs) (t ∷ visits) = scatter at (with_ends at states r t.ends) rs visits

-- what the movers got where the other body is immovable, all bodies standing so
abbrev pub share_at_once : {R : Type 0} → (R → Slots) → (R → Ends → RowAfter R) → List BodyState → List R → Vec2
share_at_once at f states [] = zero_vector
share_at_once at f states (r ∷ rs) = plus (got (ends_of at states r) (visit_of at f states r).ends) (share_at_once at f states rs)

-- each visit leaves alone what an impulse does: an immovable body above all
abbrev pub AreVisitsFair : {R : Type 0} → (R → Slots) → (R → Ends → RowAfter R) → List BodyState → List R → Type 0
AreVisitsFair at f states rows = All (λ r. AreSameBodies (ends_of at states r) (visit_of at f states r).ends) rows

-- the visits made at once are those made one by one, and so is all that comes of them
pub record IsAtOnce {R : Type 0} (at : R → Slots) (f : R → Ends → RowAfter R) (states : List BodyState) (rows : List R) : Type 0 where
  pub visits : results at f states rows ≡ map (visit_of at f states) rows
  pub bodies : scatter at states rows (map (visit_of at f states) rows) ≡ passed at f states rows
  pub visited : map (λ (t : RowAfter R). t.row) (map (visit_of at f states) rows) ≡ rows_passed at f states rows
  pub given : share_at_once at f states rows ≡ share at f states rows

abbrev pub ColoursAreAtOnce : {R : Type 0} → (R → Slots) → Type 0
ColoursAreAtOnce {R} at = (f : R → Ends → RowAfter R) (states : List BodyState) (rows : List R) → IsColour at states rows → AreVisitsFair at f states rows → IsAtOnce at f states rows
