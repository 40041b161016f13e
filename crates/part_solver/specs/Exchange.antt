-- What a part does with its moves before a stage: the bodies that it lets go are written into letters, those that come
-- are put into their slots.
use Rattle.std.specs.Prelude.{◌≡◌, ◌≢◌, ◌<◌, ◌≤◌, ℕ, zero, suc, List, [], ◌∷◌, ◌++◌, drop, length, map, slice_index_or, slice_set}
use Rattle.momenta.specs.declared.state.BodyState.{BodyState}
use Rattle.colour_solver.specs.States.{AreAllStates, nobody}
use Rattle.part_runs.specs.Walks.{Walk, slots_between}
use Rattle.part_runs.specs.Handing.{left_for, let_go}
use Rattle.part_runs.specs.Runs.{Step, mail}
use Rattle.part_runs.specs.Laws.{AreFirst}
use Rattle.part_solver.specs.declared.moves.BodyMove.{BodyMove}
use Rattle.part_solver.specs.Mail.{IsPosted, MaySend, Posts}

-- the moves of a stage that a part keeps, as a walk of their own
abbrev pub own_walk : List BodyMove → Walk
own_walk moves = record { at = []; moves = map (λ (m : BodyMove). record { slot = m.slot; from = m.from; to = m.to }) moves }

-- bodies are put into some slots
abbrev pub put_in : List ℕ → List BodyState → List BodyState → List BodyState
put_in [] bodies states = states
put_in (slot ∷ slots) bodies states = put_in slots (drop 1 bodies) (slice_set states slot (slice_index_or bodies 0 nobody))

-- the bodies that the part k lets go for the part v, having let those for the parts before it go
abbrev pub let_go_for : ℕ → ℕ → Walk → List BodyState → List BodyState
let_go_for v k w states = let_go (slots_between k v w) (left_for v k w states)

-- and those that come from each of the parts below n are put into their slots
abbrev pub put_from : ℕ → ℕ → Walk → (ℕ → List BodyState) → List BodyState → List BodyState
put_from zero k w more states = states
put_from (suc u) k w more states = put_in (slots_between u k w) (more u) (put_from u k w more states)

-- ---- to one part, and from one

-- the bodies `more` have gone to the part v behind those before, and none to the others
pub record IsSentTo (k v : ℕ) (more : List BodyState) (old new : Posts) : Type 0 where
  pub posted : (t : Step) (before : List BodyState) → IsPosted t k v before (slice_index_or old.outs v []) → IsPosted t k v (before ++ more) (slice_index_or new.outs v [])
  pub others : (u : ℕ) → u ≢ v → slice_index_or new.outs u [] ≡ slice_index_or old.outs u []
  pub count : length new.outs ≡ length old.outs
  pub ins : new.ins ≡ old.ins

-- the bodies `more` have come from the part u behind those before, and are in their slots
pub record HasCome (t : Step) (u k : ℕ) (slots : List ℕ) (before more states now : List BodyState) (p : Posts) : Type 0 where
  pub bodies : now ≡ put_in slots more states
  pub posted : IsPosted t u k (before ++ more) (slice_index_or p.ins u [])
  pub all_states : AreAllStates states → AreAllStates now

-- what is next for these slots has come from the part u, and nothing from the others
pub record IsTakenFrom (u k : ℕ) (slots : List ℕ) (states now : List BodyState) (old new : Posts) : Type 0 where
  pub came : (t : Step) (before more : List BodyState) → IsPosted t u k before (slice_index_or old.ins u []) → AreFirst (before ++ more) (mail t u k) → length more ≡ length slots → HasCome t u k slots before more states now new
  pub others : (v : ℕ) → v ≢ u → slice_index_or new.ins v [] ≡ slice_index_or old.ins v []
  pub count : length new.ins ≡ length old.ins
  pub outs : new.outs ≡ old.outs

-- ---- to all parts, and from all

-- the part k may send to each of the parts below n what moves there
abbrev pub MaySendAll : ℕ → ℕ → Walk → List BodyState → Posts → Type 0
MaySendAll n k w states p = (v : ℕ) → v < n → MaySend (slice_index_or p.outs v []) (let_go_for v k w states)

-- it has sent to those below i, and not yet to the others
pub record AreSentBelow (i k : ℕ) (w : Walk) (states : List BodyState) (old new : Posts) : Type 0 where
  pub posted : (t : Step) (v : ℕ) (before : List BodyState) → v < i → IsPosted t k v before (slice_index_or old.outs v []) → IsPosted t k v (before ++ let_go_for v k w states) (slice_index_or new.outs v [])
  pub others : (v : ℕ) → i ≤ v → slice_index_or new.outs v [] ≡ slice_index_or old.outs v []
  pub count : length new.outs ≡ length old.outs
  pub ins : new.ins ≡ old.ins

-- behind what has come the bodies `more` come from each of the parts below n
pub record AreComing (t : Step) (n k : ℕ) (w : Walk) (before more : ℕ → List BodyState) (p : Posts) : Type 0 where
  pub posted : (u : ℕ) → u < n → IsPosted t u k (before u) (slice_index_or p.ins u [])
  pub first : (u : ℕ) → u < n → AreFirst (before u ++ more u) (mail t u k)
  pub long : (u : ℕ) → u < n → length (more u) ≡ length (slots_between u k w)

-- they have come from those below i
pub record HaveCome (t : Step) (i k : ℕ) (w : Walk) (before more : ℕ → List BodyState) (states now : List BodyState) (p : Posts) : Type 0 where
  pub bodies : now ≡ put_from i k w more states
  pub posted : (u : ℕ) → u < i → IsPosted t u k (before u ++ more u) (slice_index_or p.ins u [])
  pub all_states : AreAllStates states → AreAllStates now

-- of the parts below n what is next has come from those below i, and nothing from the others
pub record AreTakenBelow (n i k : ℕ) (w : Walk) (states now : List BodyState) (old new : Posts) : Type 0 where
  pub came : (t : Step) (before more : ℕ → List BodyState) → AreComing t n k w before more old → HaveCome t i k w before more states now new
  pub others : (u : ℕ) → i ≤ u → slice_index_or new.ins u [] ≡ slice_index_or old.ins u []
  pub count : length new.ins ≡ length old.ins
  pub outs : new.outs ≡ old.outs

-- the part k has sent to each of the parts below n what moves there, and has taken in what comes from them
pub record IsExchanged (n k : ℕ) (w : Walk) (states now : List BodyState) (old new : Posts) : Type 0 where
  pub sent : (t : Step) (v : ℕ) (before : List BodyState) → v < n → IsPosted t k v before (slice_index_or old.outs v []) → IsPosted t k v (before ++ let_go_for v k w states) (slice_index_or new.outs v [])
  pub came : (t : Step) (before more : ℕ → List BodyState) → AreComing t n k w before more old → HaveCome t n k w before more (left_for n k w states) now new
  pub outs_count : length new.outs ≡ length old.outs
  pub ins_count : length new.ins ≡ length old.ins
