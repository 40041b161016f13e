-- Rows of which no two share a mover: none, and one.
use Rattle.std.proofs.Common.{◌≡◌, ◌<◌, ℕ, zero, suc, List, [], ◌∷◌, Some, length, arith, sym, ap, subst}
use Rattle.std.specs.Prelude.{All}
use Rattle.momenta.specs.declared.state.BodyState.{BodyState}
use Rattle.colour_solver.specs.declared.constraint_row.ConstraintRow.{ConstraintRow}
use Rattle.colour_solver.specs.ConstraintVisits.{constraint_slots}
use Rattle.colour_solver.specs.Colour.{IsColour}

alone : (states : List BodyState) (r : ConstraintRow) → IsColour constraint_slots states (r ∷ [])
alone states r i zero a b lt at_i at_j = absurd (omega (arith, lt))
alone states r i (suc j) a b lt at_i at_j = absurd (cc at_j)

pub no_colours : (states : List BodyState) (cs : List (List ConstraintRow)) → cs ≡ [] → All (λ (rs : List ConstraintRow). IsColour constraint_slots states rs) cs
no_colours states cs none k d lt = absurd (omega (arith, lt, ap length none))

first_alone : (states : List BodyState) (r : ConstraintRow) → All (λ (rs : List ConstraintRow). IsColour constraint_slots states rs) ((r ∷ []) ∷ [])
first_alone states r zero d lt = alone states r
first_alone states r (suc k) d lt = absurd (omega (arith, lt))

pub one_colour : (states : List BodyState) (cs : List (List ConstraintRow)) (r : ConstraintRow) → cs ≡ (r ∷ []) ∷ [] → All (λ (rs : List ConstraintRow). IsColour constraint_slots states rs) cs
one_colour states cs r is = subst (λ (l : List (List ConstraintRow)). All (λ (rs : List ConstraintRow). IsColour constraint_slots states rs) l) (sym is) (first_alone states r)
