-- Trusted: Bodies by parts: each slot is of one part, and a part has the movers of its slots. What no impulse moves is
-- in each part. No slot gets another number: where a mover of another part is, a part sees nobody.
use Rattle.std.specs.Prelude.{◌≡◌, ◌≢◌, ℕ, zero, suc, ◌<◌, true, cond, nat_eq, List, [], ◌∷◌, All, filter, slice_index_or}
use Rattle.fixed_geom.specs.Vectors.{plus, zero_vector}
use Rattle.fixed_geom.specs.declared.vectors.Vec2.{Vec2}
use Rattle.momenta.specs.declared.state.BodyState.{BodyState}
use Rattle.colour_solver.specs.declared.constraint_row.ConstraintRow.{ConstraintRow}
use Rattle.colour_solver.specs.declared.row_visits.Slots.{Slots}
use Rattle.colour_solver.specs.Colour.{is_mover}
use Rattle.colour_solver.specs.ConstraintVisits.{constraint_slots}
use Rattle.colour_solver.specs.States.{nobody}

-- the part of a slot, as a list says it
abbrev pub part_at : List ℕ → ℕ → ℕ
part_at parts slot = slice_index_or parts slot 0

-- each slot is of one of the parts below n
abbrev pub ArePartsBelow : (ℕ → ℕ) → ℕ → Type 0
ArePartsBelow g n = (slot : ℕ) → g slot < n

-- ---- bodies

-- the body s in the slot n as the part k sees it
abbrev pub seen : (ℕ → ℕ) → ℕ → ℕ → BodyState → BodyState
seen g k n s = cond s.movable (cond (nat_eq (g n) k) s nobody) s

-- the bodies as the part k sees them, the first of them in the slot n
abbrev pub hidden_from : (ℕ → ℕ) → ℕ → ℕ → List BodyState → List BodyState
hidden_from g k n [] = []
hidden_from g k n (s ∷ states) = seen g k n s ∷ hidden_from g k (suc n) states

-- all of them
abbrev pub hidden : (ℕ → ℕ) → ℕ → List BodyState → List BodyState
hidden g k states = hidden_from g k 0 states

-- the same slots have movers
abbrev pub SameMovers : List BodyState → List BodyState → Type 0
SameMovers first now = (slot : ℕ) → is_mover now slot ≡ is_mover first slot

-- ---- rows

-- two slots below n, which are two
pub record IsPlaced (n : ℕ) (s : Slots) : Type 0 where
  pub a : s.a < n
  pub b : s.b < n
  pub apart : s.a ≢ s.b

-- the bodies of a row stand in such slots
abbrev pub IsPlacedRow : ℕ → ConstraintRow → Type 0
IsPlacedRow n r = IsPlaced n (constraint_slots r)

abbrev pub ArePlaced : ℕ → List ConstraintRow → Type 0
ArePlaced n rows = All (IsPlacedRow n) rows

-- the part of a row: that of its first body if this is a mover, else that of its second
abbrev pub part_of : {R : Type 0} → (R → Slots) → (ℕ → ℕ) → List BodyState → R → ℕ
part_of at g states r = cond (is_mover states (at r).a) (g (at r).a) (g (at r).b)

-- the rows of the part k, in their order, where `to` says of which part each is
abbrev pub owned : {R : Type 0} → (R → ℕ) → ℕ → List R → List R
owned to k rows = filter (λ r. nat_eq (to r) k) rows

abbrev pub rows_of : {R : Type 0} → (R → Slots) → (ℕ → ℕ) → ℕ → List BodyState → List R → List R
rows_of at g k states rows = owned (part_of at g states) k rows

-- each mover of a row is where the row is
pub record IsAt {R : Type 0} (at : R → Slots) (g : ℕ → ℕ) (to : R → ℕ) (states : List BodyState) (r : R) : Type 0 where
  pub a : is_mover states (at r).a ≡ true → g (at r).a ≡ to r
  pub b : is_mover states (at r).b ≡ true → g (at r).b ≡ to r

abbrev pub AreAt : {R : Type 0} → (R → Slots) → (ℕ → ℕ) → (R → ℕ) → List BodyState → List R → Type 0
AreAt at g to states rows = All (IsAt at g to states) rows

-- ---- sums

-- the sum over the parts below n
abbrev pub sum_below : ℕ → (ℕ → Vec2) → Vec2
sum_below zero f = zero_vector
sum_below (suc n) f = plus (sum_below n f) (f n)
