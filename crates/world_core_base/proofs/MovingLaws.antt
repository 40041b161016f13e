-- Motions given back and fat boxes made anew, of those bodies whose states pass a test.
use Rattle.std.proofs.Common.{◌≡◌, ℕ, zero, suc, ◌<◌, ◌≤◌, Bool, cond, false, List, [], ◌∷◌, ◌++◌, length, get_or, take, drop, map, Option, arith, refl, ap, ◌∙◌, slice_set}
use Rattle.momenta.specs.declared.state.BodyState.{BodyState}
use Rattle.colour_solver.specs.States.{AreAllStates, AreSameBeside, HaveCourses, total}
use Rattle.colour_solver.proofs.PlaceLaws.{AreOthers}
use Rattle.plain_world.specs.declared.body.Body.{Body}
use Rattle.plain_world.specs.Bodies.{AreBodies}
use Rattle.plain_world.specs.Momentum.{momentum}
use Rattle.plain_world.specs.InSlots.{HaveSameSlots}
use Rattle.world_core_base.specs.Gather.{begun, states_of, with_motions}
use Rattle.world_core_base.specs.Moved.{moved_entry}
use Rattle.world_core_base.specs.Renewal.{renewed_bodies}
use Rattle.world_core_base.proofs.GatherLaws.{bodies-moved, momentum-moved, slots-moved}
use Rattle.world_core_base.proofs.RenewalLaws.{bodies-renewed, momentum-renewed, slots-renewed}

-- each body with the motion of its state, and its fat boxes made anew there
abbrev pub moved_bodies : List (Option Body) → List BodyState → List (Option Body)
moved_bodies bodies states = renewed_bodies (with_motions bodies states)

-- ---- those whose states pass a test

abbrev pub moved_where_one : (BodyState → Bool) → BodyState → Option Body → Option Body
moved_where_one is s o = cond (is s) (moved_entry s o) o

abbrev pub moved_where : (BodyState → Bool) → List (Option Body) → List BodyState → List (Option Body)
moved_where is [] states = []
moved_where is (o ∷ bodies) [] = o ∷ bodies
moved_where is (o ∷ bodies) (s ∷ states) = moved_where_one is s o ∷ moved_where is bodies states

abbrev pub begun_where_one : (BodyState → Bool) → BodyState → BodyState
begun_where_one is s = cond (is s) (begun s) s

abbrev pub begun_where : (BodyState → Bool) → List BodyState → List BodyState
begun_where is states = map (begun_where_one is) states

-- ---- the loop over the slots

pub next_moved : (is : BodyState → Bool) (all : List (Option Body)) (states : List BodyState) (i : ℕ) (d : Option Body) (e : BodyState) → i < length all → length states ≡ length all
    → slice_set (moved_where is (take i all) (take i states) ++ drop i all) i (moved_where_one is (get_or states i e) (get_or all i d)) ≡ moved_where is (take (suc i) all) (take (suc i) states) ++ drop (suc i) all
next_moved is [] states i d e h k = absurd (omega arith)
next_moved is (o ∷ os) [] i d e h k = absurd (omega arith)
next_moved is (o ∷ os) (s ∷ ss) zero d e h k = refl
next_moved is (o ∷ os) (s ∷ ss) (suc i) d e h k = ap (λ (l : List (Option Body)). moved_where_one is s o ∷ l) (next_moved is os ss i d e (omega arith) (omega arith))

pub still_there : (is : BodyState → Bool) (all : List (Option Body)) (states : List BodyState) (i : ℕ) (d : Option Body) → i < length all → length states ≡ length all
    → get_or (moved_where is (take i all) (take i states) ++ drop i all) i d ≡ get_or all i d
still_there is [] states i d h k = absurd (omega arith)
still_there is (o ∷ os) [] i d h k = absurd (omega arith)
still_there is (o ∷ os) (s ∷ ss) zero d h k = refl
still_there is (o ∷ os) (s ∷ ss) (suc i) d h k = still_there is os ss i d (omega arith) (omega arith)

pub length-moved_so_far : (is : BodyState → Bool) (all : List (Option Body)) (states : List BodyState) (a : ℕ) → length states ≡ length all → length (moved_where is (take a all) (take a states) ++ drop a all) ≡ length all
length-moved_so_far is [] states zero long = refl
length-moved_so_far is [] states (suc a) long = refl
length-moved_so_far is (o ∷ os) [] a long = absurd (omega (arith, long))
length-moved_so_far is (o ∷ os) (s ∷ ss) zero long = refl
length-moved_so_far is (o ∷ os) (s ∷ ss) (suc a) long = ap suc (length-moved_so_far is os ss a (omega (arith, long)))

-- once all slots were seen
pub moved_whole : (is : BodyState → Bool) (all : List (Option Body)) (states : List BodyState) (i : ℕ) → length all ≤ i → length states ≡ length all → moved_where is (take i all) (take i states) ++ drop i all ≡ moved_where is all states
moved_whole is [] states zero h k = refl
moved_whole is [] states (suc i) h k = refl
moved_whole is (o ∷ os) states zero h k = absurd (omega arith)
moved_whole is (o ∷ os) [] (suc i) h k = absurd (omega arith)
moved_whole is (o ∷ os) (s ∷ ss) (suc i) h k = ap (λ (l : List (Option Body)). moved_where_one is s o ∷ l) (moved_whole is os ss i (omega arith) (omega arith))

-- from the slot a on to the slot m
pub bodies_still : (is : BodyState → Bool) (bodies : List (Option Body)) (states : List BodyState) (a m : ℕ) → a ≤ m → length states ≡ length bodies → AreOthers is states a m
    → (moved_where is (take m bodies) (take m states) ++ drop m bodies) ≡ moved_where is (take a bodies) (take a states) ++ drop a bodies
bodies_still is [] states zero zero h long others = refl
bodies_still is [] states zero (suc m) h long others = refl
bodies_still is [] states (suc a) zero h long others = absurd (omega (arith, h))
bodies_still is [] states (suc a) (suc m) h long others = refl
bodies_still is (o ∷ os) [] a m h long others = absurd (omega (arith, long))
bodies_still is (o ∷ os) (s ∷ ss) zero zero h long others = refl
bodies_still is (o ∷ os) (s ∷ ss) zero (suc m) h long others =
    let off1 : is s ≡ false = others zero s (omega arith) (omega arith) refl in
    let first : moved_where_one is s o ≡ o = rw off1 refl in
    let rest = bodies_still is os ss zero m (omega arith) (omega (arith, long)) (λ j x lo hi e. others (suc j) x (omega arith) (omega (arith, hi)) e) in
    ap (λ (l : List (Option Body)). moved_where_one is s o ∷ l) rest ∙ ap (λ (p : Option Body). p ∷ os) first
bodies_still is (o ∷ os) (s ∷ ss) (suc a) zero h long others = absurd (omega (arith, h))
bodies_still is (o ∷ os) (s ∷ ss) (suc a) (suc m) h long others =
    ap (λ (l : List (Option Body)). moved_where_one is s o ∷ l) (bodies_still is os ss a m (omega (arith, h)) (omega (arith, long)) (λ j x lo hi e. others (suc j) x (omega (arith, lo)) (omega (arith, hi)) e))

-- ---- what both leave

pub bodies-both : (bodies : List (Option Body)) (states : List BodyState) → AreBodies bodies → AreAllStates states → HaveCourses states → AreSameBeside (states_of bodies) states → AreBodies (moved_bodies bodies states)
bodies-both bodies states all given has same = bodies-renewed (with_motions bodies states) (bodies-moved bodies states all given has same)

pub slots-both : (bodies : List (Option Body)) (states : List BodyState) → HaveSameSlots bodies (moved_bodies bodies states)
slots-both bodies states =
    let first : HaveSameSlots bodies (with_motions bodies states) = slots-moved bodies states in
    let second : HaveSameSlots (with_motions bodies states) (moved_bodies bodies states) = slots-renewed (with_motions bodies states) in
    record { slots = second.slots ∙ first.slots; taken = λ slot. second.taken slot ∙ first.taken slot; shapes = λ slot. second.shapes slot ∙ first.shapes slot }

pub momentum-both : (bodies : List (Option Body)) (states : List BodyState) → AreBodies bodies → AreSameBeside (states_of bodies) states → momentum (moved_bodies bodies states) ≡ total states
momentum-both bodies states all same = momentum-renewed (with_motions bodies states) ∙ momentum-moved bodies states all same
