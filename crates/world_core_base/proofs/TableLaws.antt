-- What a table keeps beside its bodies, when one body comes, goes or changes.
use Rattle.std.proofs.Common.{◌≡◌, ℕ, zero, suc, ◌<◌, ◌≤◌, Bool, true, false, cond, List, [], ◌∷◌, ◌++◌, length, get_or, slice_set, nat_lt, Option, Some, None, arith, refl, sym, ap, ◌∙◌, inl, inr, ◌+◌, ◌^◌}
use Rattle.std.proofs.lemmas.Bool.{cases_lt}
use Rattle.std.proofs.lemmas.List.{length-append, length-set}
use Rattle.std.proofs.lemmas.Bool.Decides.{nat_tests}
use Rattle.momenta.specs.declared.state.BodyState.{BodyState}
use Rattle.colour_solver.specs.States as step
use Rattle.colour_solver.specs.States.{carried_of, moves, movers_of, places_from}
use Rattle.plain_world.specs.declared.body.Body.{Body}
use Rattle.world_core_base.specs.Awake.{with_state}
use Rattle.world_core_base.specs.Gather.{state_of, states_of}
use Rattle.plain_world.specs.Changes.{is_awake_in}
use Rattle.plain_world.specs.InSlots.{is_carried_in}
use Rattle.plain_world.specs.Slots.{body_at, with_body}
use Rattle.world_core_base.proofs.GatherLaws.{carried_state, length-states}
use Rattle.world_core_base.proofs.SlotsRising.{places-set_same}

pub states-set : (bodies : List (Option Body)) (slot : ℕ) (o : Option Body) → slice_set (states_of bodies) slot (state_of o) ≡ states_of (slice_set bodies slot o)
states-set [] slot o = refl
states-set (a ∷ os) zero o = refl
states-set (a ∷ os) (suc slot) o = ap (λ (l : List BodyState). state_of a ∷ l) (states-set os slot o)

states-append : (bodies : List (Option Body)) (o : Option Body) → (states_of bodies ++ state_of o ∷ []) ≡ states_of (bodies ++ o ∷ [])
states-append [] o = refl
states-append (a ∷ os) o = ap (λ (l : List BodyState). state_of a ∷ l) (states-append os o)

is_below : (a b : ℕ) → a < b → nat_lt a b ≡ true
is_below a b h = grind (arith, nat_tests)

not_below : (a b : ℕ) → b ≤ a → nat_lt a b ≡ false
not_below a b h = grind (arith, nat_tests)

-- ---- a body that comes

put_states_if : (t : Bool) (bodies : List (Option Body)) (slot : ℕ) (b : Body) → cond t (slice_set (states_of bodies) slot (state_of (Some b))) (states_of bodies ++ state_of (Some b) ∷ []) ≡ states_of (cond t (slice_set bodies slot (Some b)) (bodies ++ Some b ∷ []))
put_states_if true bodies slot b = states-set bodies slot (Some b)
put_states_if false bodies slot b = states-append bodies (Some b)

pub put_states : (bodies : List (Option Body)) (states : List BodyState) (slot : ℕ) (b : Body) → states ≡ states_of bodies → with_state states slot (state_of (Some b)) ≡ states_of (with_body bodies slot b)
put_states bodies states slot b e = rw (e, length-states bodies) (put_states_if (nat_lt slot (length bodies)) bodies slot b)

-- ---- a body that is changed

body_at-put : (bodies : List (Option Body)) (slot : ℕ) (o : Option Body) → slot < length bodies → body_at (slice_set bodies slot o) slot ≡ o
body_at-put [] slot o h = absurd (omega (arith, h))
body_at-put (y ∷ bodies) zero o h = refl
body_at-put (y ∷ bodies) (suc slot) o h = body_at-put bodies slot o (omega (arith, h))

-- the state of one body, taken anew from it
pub renewed_states : (bodies : List (Option Body)) (states : List BodyState) (slot : ℕ) (o : Option Body) → states ≡ states_of bodies → slot < length bodies → slice_set states slot (state_of (body_at (slice_set bodies slot o) slot)) ≡ states_of (slice_set bodies slot o)
renewed_states bodies states slot o e h = rw (e, body_at-put bodies slot o h) (states-set bodies slot o)

moves_as : (o : Option Body) → (state_of o).movable ≡ is_awake_in o
moves_as None = refl
moves_as (Some b) = refl

state_there : (bodies : List (Option Body)) (slot : ℕ) (d : BodyState) → slot < length bodies → get_or (states_of bodies) slot d ≡ state_of (body_at bodies slot)
state_there [] slot d h = absurd (omega (arith, h))
state_there (None ∷ os) zero d h = refl
state_there (Some b ∷ os) zero d h = refl
state_there (o ∷ os) (suc slot) d h = state_there os slot d (omega (arith, h))

carried_as : (o : Option Body) → step.is_carried (state_of o) ≡ is_carried_in o
carried_as None = refl
carried_as (Some b) = carried_state b

changed_slots : (is : BodyState → Bool) (is_in : Option Body → Bool) → ((o : Option Body) → is (state_of o) ≡ is_in o) → (bodies : List (Option Body)) (slot : ℕ) (o : Option Body) → slot < length bodies → is_in (body_at (slice_set bodies slot o) slot) ≡ is_in (body_at bodies slot)
    → places_from is 0 (states_of bodies) ≡ places_from is 0 (states_of (slice_set bodies slot o))
changed_slots is is_in agree bodies slot o h same =
    let now : is_in o ≡ is_in (body_at bodies slot) = ap is_in (sym (body_at-put bodies slot o h)) ∙ same in
    let alike : is (state_of o) ≡ is (get_or (states_of bodies) slot (state_of o)) = agree o ∙ now ∙ sym (agree (body_at bodies slot)) ∙ ap is (sym (state_there bodies slot (state_of o) h)) in
    sym (ap (places_from is 0) (sym (states-set bodies slot o)) ∙ places-set_same is (states_of bodies) 0 slot (state_of o) alike)

-- a change that leaves an awake mover one leaves the movers' slots
pub changed_movers : (bodies : List (Option Body)) (slot : ℕ) (o : Option Body) → slot < length bodies → is_awake_in (body_at (slice_set bodies slot o) slot) ≡ is_awake_in (body_at bodies slot)
    → movers_of (states_of bodies) ≡ movers_of (states_of (slice_set bodies slot o))
changed_movers bodies slot o h awake = changed_slots moves is_awake_in moves_as bodies slot o h awake

-- and one that leaves a body carried along leaves the slots of these
pub changed_carried : (bodies : List (Option Body)) (slot : ℕ) (o : Option Body) → slot < length bodies → is_carried_in (body_at (slice_set bodies slot o) slot) ≡ is_carried_in (body_at bodies slot)
    → carried_of (states_of bodies) ≡ carried_of (states_of (slice_set bodies slot o))
changed_carried bodies slot o h carried = changed_slots step.is_carried is_carried_in carried_as bodies slot o h carried

-- ---- how many bodies there are

pub length-with_body : (bodies : List (Option Body)) (slot : ℕ) (b : Body) → slot ≤ length bodies → length (with_body bodies slot b) ≤ length bodies + 1
length-with_body bodies slot b h = by (nat_lt slot (length bodies))
  where
    by : (t : Bool) → length (cond t (slice_set bodies slot (Some b)) (bodies ++ Some b ∷ [])) ≤ length bodies + 1
    by true = let e = length-set bodies slot (Some b) in omega (arith, e)
    by false = let e = length-append bodies (Some b ∷ []) in omega (arith, e)

-- a body comes into a slot of 32 bits, so that no slot is beyond these
pub few-with_body : (bodies : List (Option Body)) (slot : ℕ) (b : Body) → slot < 2 ^ 32 → length bodies ≤ 2 ^ 32 → length (with_body bodies slot b) ≤ 2 ^ 32
few-with_body bodies slot b h few = elim (cases_lt slot (length bodies)) [
  | inl less ↦ rw (is_below slot (length bodies) less) (let e = length-set bodies slot (Some b) in omega (arith, e, few))
  | inr more ↦ rw (not_below slot (length bodies) more) (let e = length-append bodies (Some b ∷ []) in omega (arith, e, more, h))
]
