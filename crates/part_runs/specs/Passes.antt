-- Trusted: A pass over the constraints by stages: what all bodies and rows become, and of it what a part has, sends and
-- is sent.
use Rattle.std.specs.Prelude.{◌≡◌, ℕ, List, [], ◌∷◌, ◌++◌}
use Rattle.fixed_geom.specs.Vectors.{plus, zero_vector}
use Rattle.fixed_geom.specs.declared.vectors.Vec2.{Vec2}
use Rattle.momenta.specs.declared.state.BodyState.{BodyState}
use Rattle.momenta.specs.declared.state.Ends.{Ends}
use Rattle.colour_solver_base.specs.RowsAfter.{RowAfter}
use Rattle.colour_solver.specs.declared.constraint_row.ConstraintRow.{ConstraintRow}
use Rattle.momenta.specs.ImpulseBounds.{AreSameBodies, IsMomentumKept}
use Rattle.colour_solver.specs.ConstraintVisits.{constraint_slots, row_name}
use Rattle.colour_solver.specs.RowVisits.{passed, rows_passed, share}
use Rattle.part_runs.specs.Hidden.{hidden, owned, part_at, sum_below}
use Rattle.part_runs.specs.Walks.{Walk}
use Rattle.part_runs.specs.Handing.{letter}

-- ---- visits

-- two bodies are left alone but for their momenta, and those of two movers keep their sum
pub record AreFair (before after : Ends) : Type 0 where
  pub same : AreSameBodies before after
  pub kept : IsMomentumKept before after

-- a visit is fair to its two bodies, and leaves where they stand, and which constraint the row is of
pub record IsFairVisit (f : ConstraintRow → Ends → RowAfter ConstraintRow) : Type 0 where
  pub ends : (r : ConstraintRow) (e : Ends) → AreFair e (f r e).ends
  pub slots : (r : ConstraintRow) (e : Ends) → constraint_slots (f r e).row ≡ constraint_slots r
  pub name : (r : ConstraintRow) (e : Ends) → row_name (f r e).row ≡ row_name r

-- the visits of some rows, each of the part `to`, are those of the parts below n, the bodies being with the parts as g
-- says
pub record AreVisited (n : ℕ) (f : ConstraintRow → Ends → RowAfter ConstraintRow) (g : ℕ → ℕ) (to : ConstraintRow → ℕ) (states : List BodyState) (rows : List ConstraintRow) : Type 0 where
  pub bodies : (k : ℕ) → hidden g k (passed constraint_slots f states rows) ≡ passed constraint_slots f (hidden g k states) (owned to k rows)
  pub rows_are : (k : ℕ) → owned to k (rows_passed constraint_slots f states rows) ≡ rows_passed constraint_slots f (hidden g k states) (owned to k rows)
  pub given : share constraint_slots f states rows ≡ sum_below n (λ k. share constraint_slots f (hidden g k states) (owned to k rows))

-- ---- stages

-- the bodies after a pass over the rows of some stages, one stage after another
abbrev pub states_after : (ConstraintRow → Ends → RowAfter ConstraintRow) → List BodyState → List (List ConstraintRow) → List BodyState
states_after f states [] = states
states_after f states (rows ∷ more) = states_after f (passed constraint_slots f states rows) more

-- the rows of each stage after it
abbrev pub rows_after : (ConstraintRow → Ends → RowAfter ConstraintRow) → List BodyState → List (List ConstraintRow) → List (List ConstraintRow)
rows_after f states [] = []
rows_after f states (rows ∷ more) = rows_passed constraint_slots f states rows ∷ rows_after f (passed constraint_slots f states rows) more

-- what immovable bodies give to the movers of the part k, whose rows of each stage are `own`
abbrev pub given_to : (ConstraintRow → Ends → RowAfter ConstraintRow) → ℕ → List Walk → List BodyState → List (List ConstraintRow) → List (List ConstraintRow) → Vec2
given_to f k [] states rows own = zero_vector
given_to f k (w ∷ walks) states [] own = zero_vector
given_to f k (w ∷ walks) states (rows ∷ more) [] = zero_vector
given_to f k (w ∷ walks) states (rows ∷ more) (o ∷ own) = plus (share constraint_slots f (hidden (part_at w.at) k states) o) (given_to f k walks (passed constraint_slots f states rows) more own)

-- what the part u sends to the part v in a pass: before each stage that has rows, and on the way home
abbrev pub letters : ℕ → ℕ → (ConstraintRow → Ends → RowAfter ConstraintRow) → List Walk → List BodyState → List (List ConstraintRow) → List BodyState
letters u v f [] states rows = []
letters u v f (w ∷ walks) states [] = letter u v w states
letters u v f (w ∷ walks) states (rows ∷ more) = letter u v w states ++ letters u v f walks (passed constraint_slots f states rows) more
