-- Motions given back and fat boxes made anew, from one slot to the next: first the movers', and then those of the
-- bodies that are carried along.
use Rattle.std.proofs.Common.{◌≡◌, ℕ, zero, suc, ◌+◌, ◌<◌, ◌≤◌, Bool, true, false, cond, not, List, [], ◌∷◌, ◌++◌, length, get_or, take, drop, Option, Some, None, pos, int_eq, arith, refl, sym, ap, ◌∙◌, subst, inl, inr, slice_set}
use Rattle.std.specs.Option.{ForSome}
use Rattle.std.proofs.lemmas.Bool.{cases_Bool}
use Rattle.std.proofs.lemmas.List.{get_or_default}
use Rattle.std.proofs.lemmas.Option.{slice_get-get_or}
use Rattle.momenta.specs.Reciprocals.{reciprocals_of}
use Rattle.momenta.specs.declared.mass.MassData.{MassData}
use Rattle.momenta.specs.declared.motion.Motion.{Motion}
use Rattle.momenta.specs.declared.reciprocals.Reciprocals.{Reciprocals}
use Rattle.momenta.specs.declared.state.BodyState.{BodyState}
use Rattle.colour_solver.specs.States as step
use Rattle.colour_solver.specs.States.{AreAllStates, AreSameBeside, HaveCourses, carried_of, moves, movers_of, nobody, places_from}
use Rattle.colour_solver.specs.Masses.{carrier}
use Rattle.colour_solver.proofs.CourseLaws.{course_at}
use Rattle.colour_solver.proofs.PlaceLaws.{IsNext, IsReached, map_still, places_low, reached, reached_at_first, reached_first, reached_last, reached_more, reached_next, reached_there}
use Rattle.plain_world.specs.declared.body.Body.{Body}
use Rattle.plain_world.specs.Bodies.{AreBodies, IsBody, is_awake, is_carried}
use Rattle.plain_world.specs.Fats.{renewed_boxes}
use Rattle.plain_world.proofs.KindLaws.{carried_enabled}
use Rattle.world_core_base.specs.Carried.{carried_to, solver_mass}
use Rattle.world_core_base.specs.Gather.{begun, state_of, states_of}
use Rattle.world_core_base.specs.Moved.{FitsState, moved_entry}
use Rattle.world_core_base.proofs.GatherLaws.{IsLike, carried_like, carried_state, fits_state, like_first, mass_carried, state_at, tail_same, carried_no_mover}
use Rattle.world_core_base.proofs.MovingLaws.{begun_where, begun_where_one, bodies_still, length-moved_so_far, moved_bodies, moved_where, moved_where_one, moved_whole, next_moved, still_there}

-- ---- one body

abbrev state_with : Bool → MassData → Motion → Reciprocals → BodyState
state_with m w t r = record { movable = m; mass = w; motion = t; start = t.x; reciprocals = r }

whole_state : (s : BodyState) (m : Bool) (w : MassData) (r : Reciprocals) → s.movable ≡ m → s.mass ≡ w → s.reciprocals ≡ r → state_with m w s.motion r ≡ begun s
whole_state s m w r e f g = rw (e, f, g) refl

-- the mass that an awake mover shows is its own
mass_on : (b : Body) → is_awake b ≡ true → solver_mass b ≡ b.mass
mass_on b on1 = rw on1 refl

state_on : (b : Body) → is_awake b ≡ true → state_of (Some b) ≡ state_with true b.mass b.motion (reciprocals_of b.mass)
state_on b on1 = rw on1 refl

-- an awake mover with the motion that its state has
abbrev with_state_of : BodyState → Body → Body
with_state_of s b = record b { motion = s.motion; fats = renewed_boxes (record { x = s.motion.x; rot = s.motion.rot }) b.shapes b.fats }

moved_on : (b : Body) (s : BodyState) → is_awake b ≡ true → moved_entry s (Some b) ≡ Some (with_state_of s b)
moved_on b s on1 = rw (on1, on1) refl

-- a body that is carried along, with the motion that its state has
abbrev carried_with : BodyState → Body → Body
carried_with s b = record (carried_to s.motion b) { fats = renewed_boxes (record { x = s.motion.x; rot = s.motion.rot }) b.shapes b.fats }

moved_along : (b : Body) (s : BodyState) → is_carried b ≡ true → moved_entry s (Some b) ≡ Some (carried_with s b)
moved_along b s on1 =
    let rests : is_awake b ≡ false = carried_no_mover b on1 in
    let enabled : b.enabled ≡ true = carried_enabled b.enabled b.kind on1 in
    rw (rests, on1, enabled) refl

state_along : (b : Body) (s : BodyState) → is_carried b ≡ true → state_of (Some (carried_with s b)) ≡ state_with false carrier s.motion (reciprocals_of carrier)
state_along b s on1 =
    let enabled : b.enabled ≡ true = carried_enabled b.enabled b.kind on1 in
    rw enabled refl

-- ---- one slot

-- what moves by its state moves
awake_like : (b : Body) (s : BodyState) → IsLike (state_of (Some b)) s → s.movable ≡ is_awake b
awake_like b s like = like.movable

entry_other : (o : Option Body) (s : BodyState) → IsLike (state_of o) s → s.movable ≡ false → step.is_carried s ≡ false → moved_entry s o ≡ o
entry_other None s like off1 still = refl
entry_other (Some b) s like off1 still =
    let rests : is_awake b ≡ false = sym (awake_like b s like) ∙ off1 in
    let stands : is_carried b ≡ false = sym (carried_like (state_of (Some b)) s like ∙ carried_state b) ∙ still in
    rw (rests, stands, rests, stands) refl

entry_both : (o : Option Body) (s : BodyState) → IsLike (state_of o) s → moved_where_one step.is_carried (begun_where_one moves s) (moved_where_one moves s o) ≡ moved_entry s o
entry_both o s like = elim (cases_Bool s.movable) [
  | inl on1 ↦ rw on1 refl
  | inr off1 ↦
      let first : moved_where_one moves s o ≡ o = rw off1 refl in
      let begins : begun_where_one moves s ≡ s = rw off1 refl in
      (λ j. moved_where_one step.is_carried (begins j) (first j)) ∙ along off1
]
  where
    along : s.movable ≡ false → moved_where_one step.is_carried s o ≡ moved_entry s o
    along off1 = elim (cases_Bool (step.is_carried s)) [
      | inl c ↦ (λ j. cond (c j) (moved_entry s o) o)
      | inr n ↦ (λ j. cond (n j) (moved_entry s o) o) ∙ sym (entry_other o s like off1 n)
    ]

-- the state that is begun is that of the body
state_moved : (o : Option Body) (s : BodyState) → IsLike (state_of o) s → s.movable ≡ true → begun s ≡ state_of (moved_entry s o)
state_moved None s like on1 = absurd (let both : true ≡ false = sym on1 ∙ like.movable in cc both)
state_moved (Some b) s like on1 =
    let awake : is_awake b ≡ true = sym (awake_like b s like) ∙ on1 in
    sym (ap state_of (moved_on b s awake) ∙ state_on (with_state_of s b) awake ∙ whole_state s true b.mass (reciprocals_of b.mass) on1 (like.mass ∙ mass_on b awake) (like.reciprocals ∙ ap reciprocals_of (mass_on b awake)))

state_carried : (o : Option Body) (s : BodyState) → IsLike (state_of o) s → s.movable ≡ false → step.is_carried s ≡ true → begun s ≡ state_of (moved_entry s o)
state_carried None s like off1 on1 = absurd (let both : true ≡ false = sym on1 ∙ carried_like nobody s like in cc both)
state_carried (Some b) s like off1 on1 =
    let carried : is_carried b ≡ true = sym (carried_like (state_of (Some b)) s like ∙ carried_state b) ∙ on1 in
    sym (ap state_of (moved_along b s carried) ∙ state_along b s carried ∙ whole_state s false carrier (reciprocals_of carrier) off1 (like.mass ∙ mass_carried b carried) (like.reciprocals ∙ ap reciprocals_of (mass_carried b carried)))

begun_both : (o : Option Body) (s : BodyState) → IsLike (state_of o) s → begun_where_one step.is_carried (begun_where_one moves s) ≡ state_of (moved_entry s o)
begun_both o s like = elim (cases_Bool s.movable) [
  | inl on1 ↦ (let first : begun_where_one step.is_carried (begun_where_one moves s) ≡ begun s = rw on1 refl in first ∙ state_moved o s like on1)
  | inr off1 ↦
      let begins : begun_where_one moves s ≡ s = rw off1 refl in
      ap (begun_where_one step.is_carried) begins ∙ along off1
]
  where
    along : s.movable ≡ false → begun_where_one step.is_carried s ≡ state_of (moved_entry s o)
    along off1 = elim (cases_Bool (step.is_carried s)) [
      | inl c ↦ (λ j. cond (c j) (begun s) s) ∙ state_carried o s like off1 c
      | inr n ↦ (λ j. cond (n j) (begun s) s) ∙ like.standing (sym like.movable ∙ off1) (sym (carried_like (state_of o) s like) ∙ n) ∙ sym (ap state_of (entry_other o s like off1 n))
    ]

-- ---- all slots

both_moved : (bodies : List (Option Body)) (states : List BodyState) → AreSameBeside (states_of bodies) states → moved_where step.is_carried (moved_where moves bodies states) (begun_where moves states) ≡ moved_bodies bodies states
both_moved [] states same = refl
both_moved (o ∷ os) [] same = absurd (let long = same.long in omega (arith, long))
both_moved (o ∷ os) (s ∷ ss) same = λ j. entry_both o s (like_first o os s ss same) j ∷ both_moved os ss (tail_same o os s ss same) j

both_begun : (bodies : List (Option Body)) (states : List BodyState) → AreSameBeside (states_of bodies) states → begun_where step.is_carried (begun_where moves states) ≡ states_of (moved_bodies bodies states)
both_begun [] [] same = refl
both_begun [] (s ∷ ss) same = absurd (let long = same.long in omega (arith, long))
both_begun (o ∷ os) [] same = absurd (let long = same.long in omega (arith, long))
both_begun (o ∷ os) (s ∷ ss) same = λ j. begun_both o s (like_first o os s ss same) j ∷ both_begun os ss (tail_same o os s ss same) j

-- ---- the walk

first_on : (is : BodyState → Bool) (ys : List BodyState) (m : ℕ) (rest : List ℕ) (d : BodyState) → places_from is m ys ≡ m ∷ rest → is (get_or ys 0 d) ≡ true
first_on is [] m rest d e = absurd (cc e)
first_on is (y ∷ ys) m rest d e = elim (cases_Bool (is y)) [
  | inl on1 ↦ on1
  | inr off1 ↦
      (let all : places_from is (suc m) ys ≡ m ∷ rest = rw off1 at e in
      let low = places_low is ys (suc m) (suc m + length ys) refl in
      let head : get_or (places_from is (suc m) ys) 0 (suc m + length ys) ≡ m = ap (λ l. get_or l 0 (suc m + length ys)) all in
      absurd (omega (arith, low, head)))
]

drop_head : (l : List ℕ) (k d : ℕ) → k < length l → drop k l ≡ get_or l k d ∷ drop (suc k) l
drop_head [] k d h = absurd (omega (arith, h))
drop_head (x ∷ l) zero d h = refl
drop_head (x ∷ l) (suc k) d h = drop_head l k d (omega (arith, h))

first_left : (xs : List BodyState) (m : ℕ) (d : BodyState) → get_or (drop m xs) 0 d ≡ get_or xs m d
first_left xs zero d = refl
first_left [] (suc m) d = refl
first_left (x ∷ xs) (suc m) d = first_left xs m d

-- the place that the walk stands at passes the test
place_on : (is : BodyState → Bool) (xs : List BodyState) (places : List ℕ) (k : ℕ) (d : BodyState) → k < length places → IsReached is xs places k → is (get_or xs (reached places k xs) d) ≡ true
place_on is xs places k d h known =
    let m = reached places k xs in
    ap is (sym (first_left xs m d)) ∙ first_on is (drop m xs) m (drop (suc k) places) d (known.rest ∙ drop_head places k (length xs) h)

-- once k of the slots were seen: what two loops over all slots below the next one's have made
pub record HasMoved (is : BodyState → Bool) (all : List (Option Body)) (before : List BodyState) (places : List ℕ) (k : ℕ) (os : List (Option Body)) (ss : List BodyState) : Type 0 where
  pub walk : IsReached is before places k
  pub bodies : os ≡ moved_where is (take (reached places k before) all) (take (reached places k before) before) ++ drop (reached places k before) all
  pub states : ss ≡ begun_where is (take (reached places k before) before) ++ drop (reached places k before) before

still_begun : (is : BodyState → Bool) (s : BodyState) → is s ≡ false → begun_where_one is s ≡ s
still_begun is s h = rw h refl

pub moved_first : (is : BodyState → Bool) (all : List (Option Body)) (before : List BodyState) (places : List ℕ) → length before ≡ length all → places ≡ places_from is 0 before → HasMoved is all before places 0 all before
moved_first is all before places long e =
    let m = reached places 0 before in
    let first : IsNext is before 0 m 0 m = reached_first is before places e in
    record {
      walk = reached_at_first is before places e;
      bodies = sym (bodies_still is all before 0 m first.from long first.others);
      states = sym (map_still (begun_where_one is) before 0 m first.from (λ j s lo hi f. still_begun is s (first.others j s lo hi f)));
    }

get_or-later : (is : BodyState → Bool) (states : List BodyState) (a : ℕ) (d : BodyState) → get_or (begun_where is (take a states) ++ drop a states) a d ≡ get_or states a d
get_or-later is [] zero d = refl
get_or-later is [] (suc a) d = refl
get_or-later is (s ∷ ss) zero d = refl
get_or-later is (s ∷ ss) (suc a) d = get_or-later is ss a d

length-begun : (is : BodyState → Bool) (states : List BodyState) (a : ℕ) → length (begun_where is (take a states) ++ drop a states) ≡ length states
length-begun is [] zero = refl
length-begun is [] (suc a) = refl
length-begun is (s ∷ ss) zero = refl
length-begun is (s ∷ ss) (suc a) = ap suc (length-begun is ss a)

-- the slot with the number k is there, its state passes the test, and body and state in it are as they were
pub record IsThere (is : BodyState → Bool) (was : List (Option Body)) (old : List BodyState) (os : List (Option Body)) (ss : List BodyState) (slot : ℕ) : Type 0 where
  pub all : slot < length was
  pub before : slot < length old
  pub bodies : slot < length os
  pub states : slot < length ss
  pub passes : is (get_or old slot nobody) ≡ true
  pub body : get_or os slot None ≡ get_or was slot None
  pub state : get_or ss slot nobody ≡ get_or old slot nobody

pub there_at : (is : BodyState → Bool) (all : List (Option Body)) (before : List BodyState) (places : List ℕ) (k slot : ℕ) (os : List (Option Body)) (ss : List BodyState)
    → length before ≡ length all → HasMoved is all before places k os ss → k < length places → slot ≡ get_or places k 0 → IsThere is all before os ss slot
there_at is all before places k slot os ss long known h at =
    let m = reached places k before in
    let e : slot ≡ m = at ∙ get_or_default places k 0 (length before) h in
    let below = reached_there is before places k h known.walk in
    let here : m < length all = omega (arith, below, long) in
    let bodies_long : length os ≡ length all = ap length known.bodies ∙ length-moved_so_far is all before m long in
    let states_long : length ss ≡ length before = ap length known.states ∙ length-begun is before m in
    subst (λ (n : ℕ). IsThere is all before os ss n) (sym e) (record {
      all = here;
      before = below;
      bodies = omega (arith, here, bodies_long);
      states = omega (arith, below, states_long);
      passes = place_on is before places k nobody h known.walk;
      body = ap (λ (l : List (Option Body)). get_or l m None) known.bodies ∙ still_there is all before m None here long;
      state = ap (λ (l : List BodyState). get_or l m nobody) known.states ∙ get_or-later is before m nobody;
    })

pub walked_more : (is : BodyState → Bool) (all : List (Option Body)) (before : List BodyState) (places : List ℕ) (k slot : ℕ) (os os_after : List (Option Body)) (ss ss_after : List BodyState)
    → length before ≡ length all → HasMoved is all before places k os ss → k < length places → slot ≡ get_or places k 0
    → os_after ≡ slice_set os slot (moved_entry (get_or ss slot nobody) (get_or os slot None)) → ss_after ≡ slice_set ss slot (begun (get_or ss slot nobody)) → HasMoved is all before places (suc k) os_after ss_after
walked_more is all before places k slot os os_after ss ss_after long known h at puts begins =
    let m = reached places k before in
    let n = reached places (suc k) before in
    let e : slot ≡ m = at ∙ get_or_default places k 0 (length before) h in
    let here : IsThere is all before os ss m = subst (λ (j : ℕ). IsThere is all before os ss j) e (there_at is all before places k slot os ss long known h at) in
    let more : IsNext is before (suc m) n (suc m) n = reached_next is before places k h known.walk in
    let s : BodyState = get_or before m nobody in
    let o : Option Body = get_or all m None in
    let entry : moved_entry (get_or ss m nobody) (get_or os m None) ≡ moved_where_one is s o = (λ j. moved_entry (here.state j) (here.body j)) ∙ (λ j. cond (sym here.passes j) (moved_entry s o) o) in
    let state : begun (get_or ss m nobody) ≡ begun_where_one is s = ap begun here.state ∙ (λ j. cond (sym here.passes j) (begun s) s) in
    let bodies_more : slice_set os m (moved_entry (get_or ss m nobody) (get_or os m None)) ≡ moved_where is (take (suc m) all) (take (suc m) before) ++ drop (suc m) all =
    (λ j. slice_set (known.bodies j) m (entry j)) ∙ next_moved is all before m None nobody here.all long in
    let states_more : slice_set ss m (begun (get_or ss m nobody)) ≡ begun_where is (take (suc m) before) ++ drop (suc m) before =
    (λ j. slice_set (known.states j) m (state j)) ∙ next_begun is before m nobody here.before in
    record {
      walk = reached_more is before places k h known.walk;
      bodies = puts ∙ (λ j. slice_set os (e j) (moved_entry (get_or ss (e j) nobody) (get_or os (e j) None))) ∙ bodies_more ∙ sym (bodies_still is all before (suc m) n more.from long more.others);
      states = begins ∙ (λ j. slice_set ss (e j) (begun (get_or ss (e j) nobody))) ∙ states_more ∙ sym (map_still (begun_where_one is) before (suc m) n more.from (λ j x lo hi f. still_begun is x (more.others j x lo hi f)));
    }
  where
    next_begun : (p : BodyState → Bool) (xs : List BodyState) (i : ℕ) (d : BodyState) → i < length xs → slice_set (begun_where p (take i xs) ++ drop i xs) i (begun_where_one p (get_or xs i d)) ≡ begun_where p (take (suc i) xs) ++ drop (suc i) xs
    next_begun p [] i d lt = absurd (omega (arith, lt))
    next_begun p (x ∷ xs) zero d lt = refl
    next_begun p (x ∷ xs) (suc i) d lt = ap (λ (l : List BodyState). begun_where_one p x ∷ l) (next_begun p xs i d (omega (arith, lt)))

begun_whole : (is : BodyState → Bool) (states : List BodyState) (i : ℕ) → length states ≤ i → (begun_where is (take i states) ++ drop i states) ≡ begun_where is states
begun_whole is [] zero h = refl
begun_whole is [] (suc i) h = refl
begun_whole is (s ∷ ss) zero h = absurd (omega arith)
begun_whole is (s ∷ ss) (suc i) h = ap (λ (l : List BodyState). begun_where_one is s ∷ l) (begun_whole is ss i (omega (arith, h)))

pub record IsWalked (is : BodyState → Bool) (all : List (Option Body)) (before : List BodyState) (os : List (Option Body)) (ss : List BodyState) : Type 0 where
  pub bodies : os ≡ moved_where is all before
  pub states : ss ≡ begun_where is before

pub walked_last : (is : BodyState → Bool) (all : List (Option Body)) (before : List BodyState) (places : List ℕ) (k : ℕ) (os : List (Option Body)) (ss : List BodyState)
    → length before ≡ length all → HasMoved is all before places k os ss → length places ≤ k → IsWalked is all before os ss
walked_last is all before places k os ss long known h =
    let ended = reached_last before places k h in
    record {
      bodies = known.bodies ∙ moved_whole is all before (reached places k before) (omega (arith, ended, long)) long;
      states = known.states ∙ begun_whole is before (reached places k before) (omega (arith, ended));
    }

-- ---- what the second walk begins with

length-where : (is : BodyState → Bool) (all : List (Option Body)) (before : List BodyState) → length (moved_where is all before) ≡ length all
length-where is [] before = refl
length-where is (o ∷ os) [] = refl
length-where is (o ∷ os) (s ∷ ss) = ap suc (length-where is os ss)

length-begun_all : (is : BodyState → Bool) (before : List BodyState) → length (begun_where is before) ≡ length before
length-begun_all is [] = refl
length-begun_all is (s ∷ ss) = ap suc (length-begun_all is ss)

pub second_long : (all : List (Option Body)) (before : List BodyState) → length before ≡ length all → length (begun_where moves before) ≡ length (moved_where moves all before)
second_long all before long = length-begun_all moves before ∙ long ∙ sym (length-where moves all before)

carried_begun : (is : BodyState → Bool) (s : BodyState) → step.is_carried (begun_where_one is s) ≡ step.is_carried s
carried_begun is s = by (is s)
  where
    by : (t : Bool) → step.is_carried (cond t (begun s) s) ≡ step.is_carried s
    by true = refl
    by false = refl

places_begun : (is : BodyState → Bool) (states : List BodyState) (n : ℕ) → places_from step.is_carried n (begun_where is states) ≡ places_from step.is_carried n states
places_begun is [] n = refl
places_begun is (s ∷ ss) n = λ j. cond (carried_begun is s j) (n ∷ places_begun is ss (suc n) j) (places_begun is ss (suc n) j)

pub second_places : (before : List BodyState) (places : List ℕ) → places ≡ carried_of before → places ≡ places_from step.is_carried 0 (begun_where moves before)
second_places before places e = e ∙ sym (places_begun moves before 0)

-- a slot that the first walk has passed by
body_passed : (all : List (Option Body)) (before : List BodyState) (slot : ℕ) → moves (get_or before slot nobody) ≡ false → get_or (moved_where moves all before) slot None ≡ get_or all slot None
body_passed [] before slot off1 = refl
body_passed (o ∷ os) [] slot off1 = refl
body_passed (o ∷ os) (s ∷ ss) zero off1 = λ j. cond (off1 j) (moved_entry s o) o
body_passed (o ∷ os) (s ∷ ss) (suc slot) off1 = body_passed os ss slot off1

state_passed : (before : List BodyState) (slot : ℕ) → moves (get_or before slot nobody) ≡ false → get_or (begun_where moves before) slot nobody ≡ get_or before slot nobody
state_passed [] slot off1 = refl
state_passed (s ∷ ss) zero off1 = λ j. cond (off1 j) (begun s) s
state_passed (s ∷ ss) (suc slot) off1 = state_passed ss slot off1

-- ---- a body fits the state in its slot

like_at : (all : List (Option Body)) (before : List BodyState) (slot : ℕ) → AreSameBeside (states_of all) before → slot < length all → IsLike (state_of (get_or all slot None)) (get_or before slot nobody)
like_at [] before slot same h = absurd (omega (arith, h))
like_at (o ∷ os) [] slot same h = absurd (let long = same.long in omega (arith, long))
like_at (o ∷ os) (s ∷ ss) zero same h = like_first o os s ss same
like_at (o ∷ os) (s ∷ ss) (suc slot) same h = like_at os ss slot (tail_same o os s ss same) (omega (arith, h))

pub fits_at : (all : List (Option Body)) (before : List BodyState) (slot : ℕ) → AreBodies all → AreAllStates before → HaveCourses before → AreSameBeside (states_of all) before → slot < length all → slot < length before
    → ForSome (get_or all slot None) (FitsState (get_or before slot nobody))
fits_at all before slot bodies states courses same h k = λ b e.
    let is : IsBody b = bodies slot b (slice_get-get_or all slot None h ∙ ap Some e) in
    let like : IsLike (state_of (Some b)) (get_or before slot nobody) = subst (λ (o : Option Body). IsLike (state_of o) (get_or before slot nobody)) e (like_at all before slot same h) in
    fits_state b (get_or before slot nobody) is (state_at before slot nobody states k) (course_at before slot (get_or before slot nobody) nobody courses k refl) like

pub fits_first : (all : List (Option Body)) (before : List BodyState) (os : List (Option Body)) (ss : List BodyState) (slot : ℕ) → AreBodies all → AreAllStates before → HaveCourses before → AreSameBeside (states_of all) before
    → IsThere moves all before os ss slot → ForSome (get_or os slot None) (FitsState (get_or ss slot nobody))
fits_first all before os ss slot bodies states courses same there =
    let known : ForSome (get_or all slot None) (FitsState (get_or before slot nobody)) = fits_at all before slot bodies states courses same there.all there.before in
    λ b e. subst (λ (s : BodyState). FitsState s b) (sym there.state) (known b (sym there.body ∙ e))

fixed_if : (t u : Bool) → cond t false u ≡ true → t ≡ false
fixed_if true u h = absurd (cc h)
fixed_if false u h = refl

pub fits_second : (all : List (Option Body)) (before : List BodyState) (os : List (Option Body)) (ss : List BodyState) (slot : ℕ) → AreBodies all → AreAllStates before → HaveCourses before → AreSameBeside (states_of all) before
    → IsThere step.is_carried (moved_where moves all before) (begun_where moves before) os ss slot → ForSome (get_or os slot None) (FitsState (get_or ss slot nobody))
fits_second all before os ss slot bodies states courses same there =
    let long : slot < length all = let h = there.all in let l = length-where moves all before in omega (arith, h, l) in
    let below : slot < length before = let h = there.before in let l = length-begun_all moves before in omega (arith, h, l) in
    let carried : step.is_carried (get_or before slot nobody) ≡ true = sym (passed_on before slot) ∙ there.passes in
    let rests : moves (get_or before slot nobody) ≡ false = fixed_if (get_or before slot nobody).movable (not (int_eq (get_or before slot nobody).mass.inertia (pos 0))) carried in
    let known : ForSome (get_or all slot None) (FitsState (get_or before slot nobody)) = fits_at all before slot bodies states courses same long below in
    λ b e. subst (λ (s : BodyState). FitsState s b) (sym (there.state ∙ state_passed before slot rests)) (known b (sym (there.body ∙ body_passed all before slot rests) ∙ e))
  where
    passed_on : (xs : List BodyState) (i : ℕ) → step.is_carried (get_or (begun_where moves xs) i nobody) ≡ step.is_carried (get_or xs i nobody)
    passed_on [] i = refl
    passed_on (x ∷ xs) zero = carried_begun moves x
    passed_on (x ∷ xs) (suc i) = passed_on xs i

-- ---- both walks

pub record IsMoved (all : List (Option Body)) (before : List BodyState) (os : List (Option Body)) (ss : List BodyState) : Type 0 where
  pub bodies : os ≡ moved_bodies all before
  pub states : ss ≡ states_of os

pub both_walked : (all : List (Option Body)) (before : List BodyState) (os : List (Option Body)) (ss : List BodyState) → AreSameBeside (states_of all) before → IsWalked step.is_carried (moved_where moves all before) (begun_where moves before) os ss
    → IsMoved all before os ss
both_walked all before os ss same walked =
    let is_bodies : os ≡ moved_bodies all before = walked.bodies ∙ both_moved all before same in
    record { bodies = is_bodies; states = walked.states ∙ both_begun all before same ∙ ap states_of (sym is_bodies) }

-- the same bodies move as before, and are carried along
movable_begun : (is : BodyState → Bool) (s : BodyState) → moves (begun_where_one is s) ≡ moves s
movable_begun is s = by (is s)
  where
    by : (t : Bool) → moves (cond t (begun s) s) ≡ moves s
    by true = refl
    by false = refl

movers_begun : (is : BodyState → Bool) (states : List BodyState) (n : ℕ) → places_from moves n (begun_where is states) ≡ places_from moves n states
movers_begun is [] n = refl
movers_begun is (s ∷ ss) n = λ j. cond (movable_begun is s j) (n ∷ movers_begun is ss (suc n) j) (movers_begun is ss (suc n) j)

pub movers_both : (before ss : List BodyState) → ss ≡ begun_where step.is_carried (begun_where moves before) → movers_of ss ≡ movers_of before
movers_both before ss e = ap movers_of e ∙ movers_begun step.is_carried (begun_where moves before) 0 ∙ movers_begun moves before 0

pub carried_both : (before ss : List BodyState) → ss ≡ begun_where step.is_carried (begun_where moves before) → carried_of ss ≡ carried_of before
carried_both before ss e = ap carried_of e ∙ places_begun step.is_carried (begun_where moves before) 0 ∙ places_begun moves before 0
