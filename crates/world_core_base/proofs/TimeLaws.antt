-- Timers that grow, and the walk over the slots of those that pass a test, which changes nothing else.
use Rattle.std.proofs.Common.{◌≡◌, ℕ, zero, suc, ◌+◌, ◌^◌, ◌<◌, ◌≤◌, Bool, true, false, cond, List, [], ◌∷◌, ◌++◌, length, get_or, slice_set, take, drop, map, Option, Some, None, arith, refl, sym, ap, ◌∙◌, subst, add-one}
use Rattle.std.specs.Prelude.{option_map, slice_get}
use Rattle.std.specs.Option.{ForSome}
use Rattle.std.proofs.lemmas.List.{get_or_default}
use Rattle.std.proofs.lemmas.Option.{slice_get-get_or}
use Rattle.colour_solver.specs.States as step
use Rattle.colour_solver.specs.States.{carried_of, moves, movers_of, places_from}
use Rattle.colour_solver.proofs.PlaceLaws.{IsNext, IsReached, map_still, reached, reached_at_first, reached_first, reached_last, reached_more, reached_next, reached_there}
use Rattle.plain_world.specs.declared.body.Body.{Body}
use Rattle.plain_world.specs.Bodies.{AreBodies, IsBody, is_awake}
use Rattle.plain_world.specs.Changes.{is_awake_in}
use Rattle.plain_world.specs.InSlots.{is_carried_in, AreTimersWithin}
use Rattle.plain_world.specs.Sleep.{is_slow, timed, timed_bodies}
use Rattle.world_core_base.specs.Gather.{state_of, states_of}
use Rattle.world_core_base.specs.Timing.{CanTime}
use Rattle.world_core_base.proofs.GatherLaws.{carried_state}

-- ---- a walk over the places of those that pass a test, in which each is changed

pub record HasMapped {X : Type 0} (is : X → Bool) (f : X → X) (all : List X) (places : List ℕ) (k : ℕ) (now : List X) : Type 0 where
  pub walk : IsReached is all places k
  pub items : now ≡ map f (take (reached places k all) all) ++ drop (reached places k all) all

-- what doesn't pass the test isn't changed
abbrev pub LeavesOthers : {X : Type 0} → (X → Bool) → (X → X) → Type 0
LeavesOthers {X} is f = (x : X) → is x ≡ false → f x ≡ x

pub mapped_first : {X : Type 0} (is : X → Bool) (f : X → X) (all : List X) (places : List ℕ) → LeavesOthers is f → places ≡ places_from is 0 all → HasMapped is f all places 0 all
mapped_first is f all places leaves e =
    let m = reached places 0 all in
    let first : IsNext is all 0 m 0 m = reached_first is all places e in
    record { walk = reached_at_first is all places e; items = sym (map_still f all 0 m first.from (λ j x lo hi g. leaves x (first.others j x lo hi g))) }

still_there : {X : Type 0} (f : X → X) (all : List X) (m : ℕ) (d : X) → m < length all → get_or (map f (take m all) ++ drop m all) m d ≡ get_or all m d
still_there f [] m d h = absurd (omega (arith, h))
still_there f (x ∷ xs) zero d h = refl
still_there f (x ∷ xs) (suc m) d h = still_there f xs m d (omega (arith, h))

length-part : {X : Type 0} (f : X → X) (all : List X) (m : ℕ) → length (map f (take m all) ++ drop m all) ≡ length all
length-part f [] zero = refl
length-part f [] (suc m) = refl
length-part f (x ∷ xs) zero = refl
length-part f (x ∷ xs) (suc m) = ap suc (length-part f xs m)

next_mapped : {X : Type 0} (f : X → X) (all : List X) (m : ℕ) (d : X) → m < length all → slice_set (map f (take m all) ++ drop m all) m (f (get_or all m d)) ≡ map f (take (suc m) all) ++ drop (suc m) all
next_mapped f [] m d h = absurd (omega (arith, h))
next_mapped f (x ∷ xs) zero d h = refl
next_mapped {X} f (x ∷ xs) (suc m) d h = ap (λ (l : List X). f x ∷ l) (next_mapped f xs m d (omega (arith, h)))

whole_mapped : {X : Type 0} (f : X → X) (all : List X) (m : ℕ) → length all ≤ m → (map f (take m all) ++ drop m all) ≡ map f all
whole_mapped f [] zero h = refl
whole_mapped f [] (suc m) h = refl
whole_mapped f (x ∷ xs) zero h = absurd (omega (arith, h))
whole_mapped {X} f (x ∷ xs) (suc m) h = ap (λ (l : List X). f x ∷ l) (whole_mapped f xs m (omega (arith, h)))

-- the next of them is there, as it was
pub record IsThere {X : Type 0} (all now : List X) (slot : ℕ) (d : X) : Type 0 where
  pub all_long : slot < length all
  pub now_long : slot < length now
  pub same : get_or now slot d ≡ get_or all slot d

pub mapped_there : {X : Type 0} (is : X → Bool) (f : X → X) (all : List X) (places : List ℕ) (k slot : ℕ) (now : List X) (d : X) → HasMapped is f all places k now → k < length places → slot ≡ get_or places k 0 → IsThere all now slot d
mapped_there {X} is f all places k slot now d known h at =
    let m = reached places k all in
    let e : slot ≡ m = at ∙ get_or_default places k 0 (length all) h in
    let below : m < length all = reached_there is all places k h known.walk in
    let long : length now ≡ length all = ap length known.items ∙ length-part f all m in
    subst (λ (n : ℕ). IsThere all now n d) (sym e) (record {
      all_long = below;
      now_long = omega (arith, below, long);
      same = ap (λ (l : List X). get_or l m d) known.items ∙ still_there f all m d below;
    })

pub mapped_more : {X : Type 0} (is : X → Bool) (f : X → X) (all : List X) (places : List ℕ) (k slot : ℕ) (now after : List X) (d : X) → LeavesOthers is f → HasMapped is f all places k now → k < length places → slot ≡ get_or places k 0
    → after ≡ slice_set now slot (f (get_or now slot d)) → HasMapped is f all places (k + 1) after
mapped_more {X} is f all places k slot now after d leaves known h at e =
    let m = reached places k all in
    let n = reached places (suc k) all in
    let here : slot ≡ m = at ∙ get_or_default places k 0 (length all) h in
    let there : IsThere all now m d = subst (λ (j : ℕ). IsThere all now j d) here (mapped_there is f all places k slot now d known h at) in
    let more : IsNext is all (suc m) n (suc m) n = reached_next is all places k h known.walk in
    let set : slice_set now m (f (get_or now m d)) ≡ map f (take (suc m) all) ++ drop (suc m) all = (λ j. slice_set (known.items j) m (f (there.same j))) ∙ next_mapped f all m d there.all_long in
    rw add-one (record {
      walk = reached_more is all places k h known.walk;
      items = e ∙ (λ j. slice_set now (here j) (f (get_or now (here j) d))) ∙ set ∙ sym (map_still f all (suc m) n more.from (λ j x lo hi g. leaves x (more.others j x lo hi g)));
    })

pub mapped_last : {X : Type 0} (is : X → Bool) (f : X → X) (all : List X) (places : List ℕ) (k : ℕ) (now : List X) → HasMapped is f all places k now → length places ≤ k → now ≡ map f all
mapped_last is f all places k now known h =
    let ended = reached_last all places k h in
    known.items ∙ whole_mapped f all (reached places k all) (omega (arith, ended))

-- ---- timers

-- what isn't an awake mover has no timer that grows
pub timed_others : (ticks : ℕ) → LeavesOthers is_awake_in (option_map (timed ticks))
timed_others ticks None e = refl
timed_others ticks (Some b) e = rw e refl

-- the body whose timer is next
pub can_time : (all now : List (Option Body)) (slot : ℕ) → AreBodies all → AreTimersWithin (2 ^ 44) all → IsThere all now slot None → ForSome (get_or now slot None) CanTime
can_time all now slot bodies timers there b e =
    let is : slice_get all slot ≡ Some (Some b) = slice_get-get_or all slot None there.all_long ∙ ap Some (sym there.same ∙ e) in
    record { body = bodies slot b is; timer = timers slot b is }

-- a body with another timer is the same to the solver, and a body
abbrev with_timer : ℕ → Body → Body
with_timer t b = record b { timer = t }

state_timed : (ticks : ℕ) (o : Option Body) → state_of (option_map (timed ticks) o) ≡ state_of o
state_timed ticks None = refl
state_timed ticks (Some b) = by (is_awake b)
  where
    by : (t : Bool) → state_of (Some (cond t (with_timer (cond (is_slow b.mass b.motion) (b.timer + ticks) 0) b) b)) ≡ state_of (Some b)
    by true = refl
    by false = refl

pub states_timed : (ticks : ℕ) (bodies : List (Option Body)) → states_of (timed_bodies ticks bodies) ≡ states_of bodies
states_timed ticks [] = refl
states_timed ticks (o ∷ os) = λ j. state_timed ticks o j ∷ states_timed ticks os j

timed_body : (ticks : ℕ) (b : Body) → IsBody b → IsBody (timed ticks b)
timed_body ticks b is = by (is_awake b) (cond (is_slow b.mass b.motion) (b.timer + ticks) 0)
  where
    by : (t : Bool) (n : ℕ) → IsBody (cond t (with_timer n b) b)
    by true n = record { mass = is.mass; motion = is.motion; rest = is.rest; asleep = is.asleep; course = is.course; halted = is.halted; shapes = is.shapes; forms = is.forms; fats = is.fats }
    by false n = is

timed_entry : (ticks : ℕ) (o : Option Body) (b : Body) → ((a : Body) → o ≡ Some a → IsBody a) → option_map (timed ticks) o ≡ Some b → IsBody b
timed_entry ticks None b is e = cc
timed_entry ticks (Some a) b is e = let same : timed ticks a ≡ b = cc in subst IsBody same (timed_body ticks a (is a refl))

pub timed_are_bodies : (ticks : ℕ) (bodies : List (Option Body)) → AreBodies bodies → AreBodies (timed_bodies ticks bodies)
timed_are_bodies ticks [] all slot b e = cc
timed_are_bodies ticks (o ∷ os) all zero b e = timed_entry ticks o b (λ a f. all zero a (ap Some f)) (cc)
timed_are_bodies ticks (o ∷ os) all (suc slot) b e = timed_are_bodies ticks os (λ k c f. all (suc k) c f) slot b e

pub length-timed : (ticks : ℕ) (bodies : List (Option Body)) → length (timed_bodies ticks bodies) ≡ length bodies
length-timed ticks [] = refl
length-timed ticks (o ∷ os) = ap suc (length-timed ticks os)

-- the awake movers among the bodies are those among the states
moves_as : (o : Option Body) → (state_of o).movable ≡ is_awake_in o
moves_as None = refl
moves_as (Some b) = refl

places_as : (bodies : List (Option Body)) (n : ℕ) → places_from moves n (states_of bodies) ≡ places_from is_awake_in n bodies
places_as [] n = refl
places_as (o ∷ os) n = λ j. cond (moves_as o j) (n ∷ places_as os (suc n) j) (places_as os (suc n) j)

pub awake_places : (bodies : List (Option Body)) → movers_of (states_of bodies) ≡ places_from is_awake_in 0 bodies
awake_places bodies = places_as bodies 0

-- and so are those that are carried along
carries_as : (o : Option Body) → step.is_carried (state_of o) ≡ is_carried_in o
carries_as None = refl
carries_as (Some b) = carried_state b

carries_from : (bodies : List (Option Body)) (n : ℕ) → places_from step.is_carried n (states_of bodies) ≡ places_from is_carried_in n bodies
carries_from [] n = refl
carries_from (o ∷ os) n = λ j. cond (carries_as o j) (n ∷ carries_from os (suc n) j) (carries_from os (suc n) j)

pub carried_places : (bodies : List (Option Body)) → carried_of (states_of bodies) ≡ places_from is_carried_in 0 bodies
carried_places bodies = carries_from bodies 0
