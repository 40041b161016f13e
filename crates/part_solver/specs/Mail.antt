-- What goes through a ring: the head of a step, and then letters with the bodies that one part sends to another in this
-- step, in order.
use Rattle.std.specs.Prelude.{◌≡◌, ◌<◌, ℕ, true, false, List, [], ◌∷◌, ◌++◌, length, slice_index_or}
use Rattle.momenta.specs.declared.state.BodyState.{BodyState}
use Rattle.colour_solver.specs.States.{AreAllStates}
use Rattle.part_runs.specs.Runs.{Step, mail}
use Rattle.part_runs.specs.Laws.{AreFirst}
use Rattle.part_solver.specs.declared.mail.Item.{Item}
use Rattle.part_solver.specs.declared.mail.Item.TheVariants.{Begin, Letter}

-- the bodies in letters
abbrev pub bodies_of : List Item → List BodyState
bodies_of [] = []
bodies_of (Begin h ∷ items) = bodies_of items
bodies_of (Letter l ∷ items) = l.items ++ bodies_of items

-- behind the head the next bodies may be sent
abbrev pub MaySend : List Item → List BodyState → Type 0
MaySend [] bodies = false ≡ true
MaySend (Letter l ∷ before) bodies = false ≡ true
MaySend (Begin h ∷ before) bodies = AreFirst (bodies_of before ++ bodies) (mail h.step.value h.from h.to) × AreAllStates bodies

-- the head comes first, and behind it each letter has the next bodies
abbrev pub follows : Item → List Item → Type 0
follows (Letter l) before = MaySend before l.items
follows (Begin h) [] = Unit {0}
follows (Begin h) (item ∷ before) = false ≡ true

abbrev pub MayFollow : List Item → Item → Type 0
MayFollow before item = follows item before

-- through a ring the head of the step t from the part u to the part v has gone, and letters with these bodies
abbrev pub IsPosted : Step → ℕ → ℕ → List BodyState → List Item → Type 0
IsPosted t u v bodies [] = false ≡ true
IsPosted t u v bodies (Letter l ∷ items) = false ≡ true
IsPosted t u v bodies (Begin h ∷ items) = (h.step.value ≡ t) × (h.from ≡ u) × (h.to ≡ v) × (bodies_of items ≡ bodies)

-- what a part has sent to each part, and what has come from it
pub record Posts : Type 0 where
  pub outs : List (List Item)
  pub ins : List (List Item)

-- the rings of the part k among n parts, through which these bodies have gone from each part to each
pub record ArePosted (t : Step) (n k : ℕ) (sent : ℕ → ℕ → List BodyState) (p : Posts) : Type 0 where
  pub outs_count : length p.outs ≡ n
  pub ins_count : length p.ins ≡ n
  pub outs : (v : ℕ) → v < n → IsPosted t k v (sent k v) (slice_index_or p.outs v [])
  pub ins : (u : ℕ) → u < n → IsPosted t u k (sent u k) (slice_index_or p.ins u [])
