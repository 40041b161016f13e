-- Passes that walk over the movers' slots alone: from one mover to the next nothing changes, and nothing is gained.
use Rattle.std.proofs.Common.{◌≡◌, ℕ, zero, suc, ◌<◌, ◌≤◌, false, List, [], ◌∷◌, ◌++◌, length, get_or, take, drop, map, Some, arith, refl, sym, ap, ◌∙◌, subst, inl, inr, slice_set, add-one}
use Rattle.std.specs.List.{slice_get}
use Rattle.std.proofs.lemmas.Bool.{cases_lt}
use Rattle.body_handles.specs.declared.slot_table.TheConstants.{MAX_SLOTS}
use Rattle.fixed_geom.specs.Vectors.{plus, zero_vector}
use Rattle.fixed_geom.specs.declared.vectors.Vec2.{Vec2}
use Rattle.momenta.specs.declared.mass.MassData.{MassData}
use Rattle.momenta.specs.declared.motion.Motion.{Motion}
use Rattle.momenta.specs.declared.state.BodyState.{BodyState}
use Rattle.colour_solver.specs.States.{AreSameStates, moves, movers_of, nobody, places_from}
use Rattle.colour_solver.specs.Passes.{OnMover, OnMovers, changed, pass, one_gain, gain}
use Rattle.colour_solver.proofs.TickLaws.{changed_other}
use Rattle.std.proofs.lemmas.Option.{slice_get_within}
use Rattle.colour_solver.proofs.PassLaws.{both, pass_both, next_is, length_is, items_more, made_more, slice_get-get, gain_more, gain_more_after}
use Rattle.colour_solver.proofs.SameLaws.{passes_whole, same_at_last}
use Rattle.colour_solver.proofs.PlaceLaws.{AreOthers, IsNext, IsReached, length-places, map_still, reached, reached_at_first, reached_first, reached_last, reached_more, reached_next, reached_there, sum_still}
use Rattle.colour_solver.proofs.VectorLaws.{plus_zero, zero_plus}

both_other : (f g : MassData → Motion → Motion) (s : BodyState) → s.movable ≡ false → both f g s ≡ s
both_other f g s h = ap (changed g) (changed_other f s h) ∙ changed_other g s h

none : (f : MassData → Motion → Motion) (s : BodyState) → s.movable ≡ false → one_gain f s ≡ zero_vector
none f s h = rw h refl

-- ---- from the slot a on to the slot m

pub items_still : (f g : MassData → Motion → Motion) (all : List BodyState) (a m : ℕ) → a ≤ m → AreOthers moves all a m → (pass g (pass f (take m all)) ++ drop m all) ≡ pass g (pass f (take a all)) ++ drop a all
items_still f g all a m h others =
    let later : (pass g (pass f (take m all)) ++ drop m all) ≡ map (both f g) (take m all) ++ drop m all = ap (λ (l : List BodyState). l ++ drop m all) (pass_both f g (take m all)) in
    let before : (map (both f g) (take a all) ++ drop a all) ≡ pass g (pass f (take a all)) ++ drop a all = ap (λ (l : List BodyState). l ++ drop a all) (sym (pass_both f g (take a all))) in
    later ∙ map_still (both f g) all a m h (λ j s lo hi e. both_other f g s (others j s lo hi e)) ∙ before

pub gain-still : (f : MassData → Motion → Motion) (all : List BodyState) (a m : ℕ) → a ≤ m → AreOthers moves all a m → gain f (drop m all) ≡ gain f (drop a all)
gain-still f all a m h others = sum_still (gain f) (one_gain f) all a m h (λ s ss. refl) (λ j s lo hi e. none f s (others j s lo hi e))

pub gain-still_after : (f g : MassData → Motion → Motion) (all : List BodyState) (a m : ℕ) → a ≤ m → AreOthers moves all a m → gain g (pass f (drop m all)) ≡ gain g (pass f (drop a all))
gain-still_after f g all a m h others =
    sum_still (λ l. gain g (pass f l)) (λ s. one_gain g (changed f s)) all a m h (λ s ss. refl) (λ j s lo hi e. let o = others j s lo hi e in ap (one_gain g) (changed_other f s o) ∙ none g s o)

slice_get-later : (f : BodyState → BodyState) (all : List BodyState) (a j : ℕ) → a ≤ j → slice_get (map f (take a all) ++ drop a all) j ≡ slice_get all j
slice_get-later f [] zero j h = refl
slice_get-later f [] (suc a) j h = refl
slice_get-later f (s ∷ all) zero j h = refl
slice_get-later f (s ∷ all) (suc a) zero h = absurd (omega (arith, h))
slice_get-later f (s ∷ all) (suc a) (suc j) h = slice_get-later f all a j (omega (arith, h))

-- what holds of the movers below a holds of those below m
pub made_still : (P : MassData → Motion → Type 0) (f g : MassData → Motion → Motion) (all now : List BodyState) (a m : ℕ) → AreOthers moves all a m → now ≡ pass g (pass f (take a all)) ++ drop a all
    → ((k : ℕ) (b : BodyState) → k < a → slice_get now k ≡ Some b → OnMover P b) → (k : ℕ) (b : BodyState) → k < m → slice_get now k ≡ Some b → OnMover P b
made_still P f g all now a m others is below k b lt e = elim (cases_lt k a) [
  | inl less ↦ below k b less e
  | inr more ↦
      let whole : now ≡ map (both f g) (take a all) ++ drop a all = is ∙ ap (λ (l : List BodyState). l ++ drop a all) (pass_both f g (take a all)) in
      let there : slice_get all k ≡ Some b = sym (slice_get-later (both f g) all a k more) ∙ ap (λ (l : List BodyState). slice_get l k) (sym whole) ∙ e in
      let rests : b.movable ≡ false = others k b more lt there in
      λ on1. absurd (cc (sym rests ∙ on1))
]

-- ---- the same bodies move after a step

pub movers_same_from : (old new : List BodyState) (n : ℕ) → length new ≡ length old → ((slot : ℕ) → (get_or new slot nobody).movable ≡ (get_or old slot nobody).movable) → places_from moves n new ≡ places_from moves n old
movers_same_from [] [] n long same = refl
movers_same_from [] (b ∷ new) n long same = absurd (cc long)
movers_same_from (a ∷ old) [] n long same = absurd (cc long)
movers_same_from (a ∷ old) (b ∷ new) n long same =
    let rest = movers_same_from old new (suc n) (omega (arith, long)) (λ slot. same (suc slot)) in
    rw (same zero, rest) refl

pub movers_same : (old new : List BodyState) → AreSameStates old new → movers_of new ≡ movers_of old
movers_same old new same = movers_same_from old new 0 same.long same.movable

-- ---- the walk

-- the state of the walk once k of the slots were seen: two passes over all slots below the next mover's, with their
-- gains
pub record HasWalked (f g : MassData → Motion → Motion) (P : MassData → Motion → Type 0) (all : List BodyState) (places : List ℕ) (k : ℕ) (now : List BodyState) (first second : Vec2) : Type 0 where
  pub walk : IsReached moves all places k
  pub items : now ≡ pass g (pass f (take (reached places k all) all)) ++ drop (reached places k all) all
  pub gained : plus first (gain f (drop (reached places k all) all)) ≡ gain f all
  pub after : plus second (gain g (pass f (drop (reached places k all) all))) ≡ gain g (pass f all)
  pub made : (j : ℕ) (b : BodyState) → j < reached places k all → slice_get now j ≡ Some b → OnMover P b

pub few_movers : (all : List BodyState) (places : List ℕ) → places ≡ movers_of all → length all ≤ MAX_SLOTS → length places ≤ MAX_SLOTS
few_movers all places e few = let least : length places ≤ length all = rw e (length-places moves all 0) in omega (arith, least, few)

from_none : (a b : Vec2) → b ≡ a → plus zero_vector b ≡ a
from_none a b e = zero_plus b ∙ e

pub walked_first : (f g : MassData → Motion → Motion) (P : MassData → Motion → Type 0) (all : List BodyState) (places : List ℕ) → places ≡ movers_of all → HasWalked f g P all places 0 all zero_vector zero_vector
walked_first f g P all places e =
    let m = reached places 0 all in
    let first : IsNext moves all 0 m 0 m = reached_first moves all places e in
    record {
      walk = reached_at_first moves all places e;
      items = sym (items_still f g all 0 m first.from first.others);
      gained = from_none (gain f all) (gain f (drop m all)) (gain-still f all 0 m first.from first.others);
      after = from_none (gain g (pass f all)) (gain g (pass f (drop m all))) (gain-still_after f g all 0 m first.from first.others);
      made = made_still P f g all all 0 m first.others refl (λ j b lt e2. absurd (omega (arith, lt)));
    }

get_or-any : {X : Type 0} (l : List X) (k : ℕ) (d e : X) → k < length l → get_or l k d ≡ get_or l k e
get_or-any [] k d e h = absurd (omega (arith, h))
get_or-any (x ∷ l) zero d e h = refl
get_or-any (x ∷ l) (suc k) d e h = get_or-any l k d e (omega (arith, h))

-- the slot with the number k is the mover that comes next, and is as it was
pub record IsHere (all items : List BodyState) (m : ℕ) (o : BodyState) : Type 0 where
  pub below : m < length all
  pub within : m < length items
  pub same : o ≡ get_or all m o
  pub there : slice_get all m ≡ Some o
  pub now : o ≡ get_or items m o

pub here_at : (f g : MassData → Motion → Motion) (P : MassData → Motion → Type 0) (all : List BodyState) (places : List ℕ) (k slot : ℕ) (items : List BodyState) (a b : Vec2) (o : BodyState)
    → HasWalked f g P all places k items a b → k < length places → slot ≡ get_or places k 0 → o ≡ get_or items slot o → IsHere all items slot o
here_at f g P all places k slot items a b o known h at is =
    let m = reached places k all in
    let e : slot ≡ m = at ∙ get_or-any places k 0 (length all) h in
    let here : m < length all = reached_there moves all places k h known.walk in
    let now : o ≡ get_or items m o = is ∙ ap (λ (n : ℕ). get_or items n o) e in
    let same : o ≡ get_or all m o = next_is f g all items m o here known.items now in
    let long = length_is f g all items m known.items in
    subst (λ (n : ℕ). IsHere all items n o) (sym e) (record { below = here; within = omega (arith, here, long); same = same; there = slice_get-get all m o o here same; now = now })

rest_of : (a b rest all : Vec2) → plus a rest ≡ all → b ≡ rest → plus a b ≡ all
rest_of a b rest all e h = ap (plus a) h ∙ e

pub walked_more : (f g : MassData → Motion → Motion) (P : MassData → Motion → Type 0) (all : List BodyState) (places : List ℕ) (k slot : ℕ) (items : List BodyState) (a b more_a more_b : Vec2) (o new : BodyState)
    → HasWalked f g P all places k items a b → k < length places → slot ≡ get_or places k 0 → o ≡ get_or items slot o → new ≡ both f g o → OnMover P new
    → more_a ≡ one_gain f o → more_b ≡ one_gain g (changed f o)
    → HasWalked f g P all places (suc k) (slice_set items slot new) (plus a more_a) (plus b more_b)
walked_more f g P all places k slot items a b more_a more_b o new known h at is makes gives first second =
    let m = reached places k all in
    let n = reached places (suc k) all in
    let e : slot ≡ m = at ∙ get_or-any places k 0 (length all) h in
    let here : IsHere all items m o = subst (λ (j : ℕ). IsHere all items j o) e (here_at f g P all places k slot items a b o known h at is) in
    let more : IsNext moves all (suc m) n (suc m) n = reached_next moves all places k h known.walk in
    let whole : slice_set items slot new ≡ pass g (pass f (take (suc m) all)) ++ drop (suc m) all =
    rw (e, makes) (rw add-one at (items_more f g all items m o here.below known.items here.now)) in
    let below : (j : ℕ) (x : BodyState) → j < suc m → slice_get (slice_set items m new) j ≡ Some x → OnMover P x = rw add-one at (made_more (OnMover P) items m new here.within known.made gives) in
    record {
      walk = reached_more moves all places k h known.walk;
      items = whole ∙ sym (items_still f g all (suc m) n more.from more.others);
      gained = rest_of (plus a more_a) (gain f (drop n all)) (gain f (drop (suc m) all)) (gain f all) (gain_more f all m o a more_a here.below here.same known.gained first) (gain-still f all (suc m) n more.from more.others);
      after =
          rest_of (plus b more_b) (gain g (pass f (drop n all))) (gain g (pass f (drop (suc m) all))) (gain g (pass f all)) (gain_more_after f g all m o b more_b here.below here.same known.after second)
          (gain-still_after f g all (suc m) n more.from more.others);
      made = made_still P f g all (slice_set items slot new) (suc m) n more.others whole (λ j x lt got. below j x lt (ap (λ (i : ℕ). slice_get (slice_set items i new) j) (sym e) ∙ got));
    }

-- what the walk has made once all were seen
pub record IsWhole (f g : MassData → Motion → Motion) (P : MassData → Motion → Type 0) (all now : List BodyState) (a b : Vec2) : Type 0 where
  pub items : now ≡ pass g (pass f all)
  pub gained : a ≡ gain f all
  pub after : b ≡ gain g (pass f all)
  pub made : OnMovers P now
  pub same : AreSameStates all now
  pub movers : movers_of now ≡ movers_of all

drop_whole : {X : Type 0} (l : List X) → drop (length l) l ≡ []
drop_whole [] = refl
drop_whole (x ∷ l) = drop_whole l

none_left : (a rest all : Vec2) → plus a rest ≡ all → rest ≡ zero_vector → a ≡ all
none_left a rest all e h = sym (plus_zero a) ∙ (ap (plus a) (sym h) ∙ e)

pub walked_last : (f g : MassData → Motion → Motion) (P : MassData → Motion → Type 0) (all : List BodyState) (places : List ℕ) (k : ℕ) (items : List BodyState) (a b : Vec2)
    → HasWalked f g P all places k items a b → length places ≤ k → IsWhole f g P all items a b
walked_last f g P all places k items a b known h =
    let m = reached places k all in
    let e : m ≡ length all = reached_last all places k h in
    let ended : length all ≤ m = omega (arith, e) in
    let left : drop m all ≡ [] = ap (λ (n : ℕ). drop n all) e ∙ drop_whole all in
    let whole : items ≡ pass g (pass f all) = known.items ∙ passes_whole f g all m ended in
    let same : AreSameStates all items = same_at_last f g all items m ended known.items in
    let long = length_is f g all items m known.items in
    record {
      items = whole;
      gained = none_left a (gain f (drop m all)) (gain f all) known.gained (ap (gain f) left);
      after = none_left b (gain g (pass f (drop m all))) (gain g (pass f all)) known.after (ap (λ (l : List BodyState). gain g (pass f l)) left);
      made = λ j x got. known.made j x (let within = slice_get_within items j x got in omega (arith, within, long, e)) got;
      same = same;
      movers = movers_same all items same;
    }
