-- Bodies that are taken out of their slots, and put into others, are all within their limits.
use Rattle.std.proofs.Common.{◌≡◌, ℕ, zero, suc, List, [], ◌∷◌, drop, get_or, set, refl, subst}
use Rattle.momenta.specs.declared.state.BodyState.{BodyState}
use Rattle.momenta.specs.ImpulseBounds.{IsState}
use Rattle.colour_solver.specs.States.{AreAllStates, nobody}
use Rattle.part_runs.specs.Handing.{left_by, left_for, let_go}
use Rattle.part_runs.specs.Walks.{Walk, slots_between}
use Rattle.part_runs.proofs.PartLaws.{is_nobody}
use Rattle.part_solver.specs.Exchange.{put_in}

pub state_at : (ss : List BodyState) (i : ℕ) → AreAllStates ss → IsState (get_or ss i nobody)
state_at [] i all = is_nobody
state_at (s ∷ ss) zero all = all zero s refl
state_at (s ∷ ss) (suc i) all = state_at ss i (λ k x e. all (suc k) x e)

no_states : AreAllStates []
no_states slot s at = absurd (cc at)

with_state : (s : BodyState) (ss : List BodyState) → IsState s → AreAllStates ss → AreAllStates (s ∷ ss)
with_state s ss is all zero x at = let same : s ≡ x = cc at in subst IsState same is
with_state s ss is all (suc k) x at = all k x at

pub set_states : (ss : List BodyState) (i : ℕ) (s : BodyState) → AreAllStates ss → IsState s → AreAllStates (set ss i s)
set_states [] i s all is = all
set_states (a ∷ ss) zero s all is = with_state s ss is (λ k x e. all (suc k) x e)
set_states (a ∷ ss) (suc i) s all is = with_state a (set ss i s) (all zero a refl) (set_states ss i s (λ k x e. all (suc k) x e) is)

pub left_states : (slots : List ℕ) (ss : List BodyState) → AreAllStates ss → AreAllStates (left_by slots ss)
left_states [] ss all = all
left_states (slot ∷ slots) ss all = left_states slots (set ss slot nobody) (set_states ss slot nobody all is_nobody)

pub left_for_states : (n k : ℕ) (w : Walk) (ss : List BodyState) → AreAllStates ss → AreAllStates (left_for n k w ss)
left_for_states zero k w ss all = all
left_for_states (suc v) k w ss all = left_states (slots_between k v w) (left_for v k w ss) (left_for_states v k w ss all)

pub gone_states : (slots : List ℕ) (ss : List BodyState) → AreAllStates ss → AreAllStates (let_go slots ss)
gone_states [] ss all = no_states
gone_states (slot ∷ slots) ss all = with_state (get_or ss slot nobody) (let_go slots (set ss slot nobody)) (state_at ss slot all) (gone_states slots (set ss slot nobody) (set_states ss slot nobody all is_nobody))

first_dropped : (bodies : List BodyState) → AreAllStates bodies → AreAllStates (drop 1 bodies)
first_dropped [] all = all
first_dropped (b ∷ bodies) all = λ k x e. all (suc k) x e

pub put_states : (slots : List ℕ) (bodies ss : List BodyState) → AreAllStates bodies → AreAllStates ss → AreAllStates (put_in slots bodies ss)
put_states [] bodies ss those all = all
put_states (slot ∷ slots) bodies ss those all = put_states slots (drop 1 bodies) (set ss slot (get_or bodies 0 nobody)) (first_dropped bodies those) (set_states ss slot (get_or bodies 0 nobody) all (state_at bodies 0 those))
