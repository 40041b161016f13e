-- The notes of the ids, once one was put in or taken out.
use Rattle.std.proofs.Common.{◌≡◌, ◌≢◌, ℕ, zero, suc, ◌+◌, ◌<◌, ◌≤◌, List, [], ◌∷◌, ◌++◌, length, slice_set, replicate, take, refl, ap, sym, subst, ◌∙◌, arith, inl, inr, Option, Some, None}
use Rattle.std.specs.Prelude.{slice_get}
use Rattle.std.specs.List.{Contains}
use Rattle.std.proofs.lemmas.Bool.{cases_eq}
use Rattle.std.proofs.lemmas.List.{length-set, get_or-set_same, get_or-set_other}
use Rattle.std.proofs.lemmas.Option.{slice_get_within}
use Rattle.packed_sets.specs.declared.spots.Spot.{Spot}
use Rattle.packed_sets.specs.Packs.{list_at}
use Rattle.packed_sets.specs.Notes.{spot_at, spot_of, renoted, IsPacked, IsOut, AreRenoted}
use Rattle.packed_sets.proofs.ListLaws.{none_not_some, same_inside, member_at}
use Rattle.packed_sets.proofs.PackLaws.{HasCome, HasGone, one_spot, last_stood}

-- an id with a spot is among those that are noted
pub noted_within : (notes : List (Option Spot)) (x : ℕ) (at : Spot) → spot_of notes x ≡ Some at → x < length notes
noted_within [] x at e = absurd (none_not_some at e)
noted_within (o ∷ notes) zero at e = omega arith
noted_within (o ∷ notes) (suc x) at e = let lt : x < length notes = noted_within notes x at e in omega (arith, lt)

-- the other ids keep their spots
notes_keep : (notes : List (Option Spot)) (x y : ℕ) (o : Option Spot) → y ≢ x → spot_of (slice_set notes x o) y ≡ spot_of notes y
notes_keep notes x y o d = get_or-set_other notes x y o None d

-- ---- an id was put in

pub come_spots : (sets : List (List ℕ)) (notes : List (Option Spot)) (s x : ℕ) → spot_of notes x ≡ None → x < length notes → s < length sets
    → HasCome sets (slice_set sets s (list_at sets s ++ x ∷ [])) (spot_of notes) (spot_of (slice_set notes x (Some (spot_at s (length (list_at sets s)))))) s x
come_spots sets notes s x free within lt =
    let at : Option Spot = Some (spot_at s (length (list_at sets s))) in
    record {
      list = get_or-set_same sets s (list_at sets s ++ x ∷ []) [] lt;
      others = λ t d. get_or-set_other sets s t (list_at sets s ++ x ∷ []) [] d;
      was = free;
      noted = get_or-set_same notes x at None within;
      stays = λ y d. notes_keep notes x y at d;
    }

-- ---- an id was taken out

pub none_set : (notes : List (Option Spot)) (x : ℕ) → spot_of (slice_set notes x None) x ≡ None
none_set [] x = refl
none_set (o ∷ notes) zero = refl
none_set (o ∷ notes) (suc x) = none_set notes x

renoted_keeps : (o : Option ℕ) (at : Spot) (notes : List (Option Spot)) (y : ℕ) → ((m : ℕ) → o ≡ Some m → y ≢ m) → spot_of (renoted o at notes) y ≡ spot_of notes y
renoted_keeps None at notes y h = refl
renoted_keeps (Some m) at notes y h = notes_keep notes m y (Some at) (h m refl)

pub gone_spots : (sets new : List (List ℕ)) (notes : List (Option Spot)) (s p x : ℕ) → IsPacked sets (spot_of notes) → IsOut sets new (spot_at s p) x
    → HasGone (list_at new s) (spot_of notes) (spot_of (slice_set (renoted (slice_get (list_at new s) p) (spot_at s p) notes) x None)) (spot_at s p) x
gone_spots sets new notes s p x is w =
    let at : Spot = spot_at s p in
    let rest : List ℕ = list_at new s in
    let later : List (Option Spot) = renoted (slice_get rest p) at notes in
    record {
      gone = none_set later x;
      moved = λ m k.
          let last : slice_get (list_at sets s) (length rest) ≡ Some m = last_stood (list_at sets s) rest p x m w.swapped k in
          let within : m < length notes = noted_within notes m (spot_at s (length rest)) (is.known m s (length rest) last) in
          let less : p < length rest = slice_get_within rest p m k in
          let other : m ≢ x = λ same.
          let place : length rest ≡ p = (one_spot sets (spot_of notes) is s s (length rest) p x (subst (λ (z : ℕ). slice_get (list_at sets s) (length rest) ≡ Some z) same last) w.swapped.there).1 in
          omega (arith, place, less) in
          let put : spot_of later m ≡ Some at = ap (λ (o : Option ℕ). spot_of (renoted o at notes) m) k ∙ get_or-set_same notes m (Some at) None within in
          notes_keep later x m None other ∙ put;
      stays = λ y d h. notes_keep later x y None d ∙ renoted_keeps (slice_get rest p) at notes y h;
    }

-- a note at a number and a place that are known otherwise
pub note_is : (notes : List (Option Spot)) (n m s p q : ℕ) → n ≡ m → p ≡ q → slice_set notes n (Some (spot_at s p)) ≡ slice_set notes m (Some (spot_at s q))
note_is notes n m s p q same at = ap (λ (k : ℕ). slice_set notes k (Some (spot_at s p))) same ∙ ap (λ (k : ℕ). slice_set notes m (Some (spot_at s k))) at

-- ---- more notes

none_beyond : (n k : ℕ) → spot_of (replicate n None) k ≡ None
none_beyond zero k = refl
none_beyond (suc n) zero = refl
none_beyond (suc n) (suc k) = none_beyond n k

pub resized : (notes : List (Option Spot)) (n j k : ℕ) → length notes ≤ n → spot_of (take n notes ++ replicate j None) k ≡ spot_of notes k
resized [] zero j k le = none_beyond j k
resized [] (suc n) j k le = none_beyond j k
resized (o ∷ notes) zero j k le = absurd (omega (arith, le))
resized (o ∷ notes) (suc n) j zero le = refl
resized (o ∷ notes) (suc n) j (suc k) le = resized notes n j k (omega (arith, le))

-- ---- all ids of a list are noted, one after the other

-- those before a place are
pub record AreNotedTo (ids : List ℕ) (set place : ℕ) (old now : List (Option Spot)) : Type 0 where
  pub own : (id p : ℕ) → p < place → slice_get ids p ≡ Some id → spot_of now id ≡ Some (spot_at set p)
  pub others : (id : ℕ) → (Contains ids id → ⊥) → spot_of now id ≡ spot_of old id
  pub long : length now ≡ length old

pub noted_none : (ids : List ℕ) (set : ℕ) (old : List (Option Spot)) → AreNotedTo ids set 0 old old
noted_none ids set old = record { own = λ id p lt k. absurd (omega (arith, lt)); others = λ id absent. refl; long = refl }

pub noted_next : (ids : List ℕ) (set place : ℕ) (old now : List (Option Spot)) (x : ℕ) → AreNotedTo ids set place old now → slice_get ids place ≡ Some x → x < length old → ((p q id : ℕ) → slice_get ids p ≡ Some id → slice_get ids q ≡ Some id → p ≡ q) → AreNotedTo ids set (place + 1) old (slice_set now x (Some (spot_at set place)))
noted_next ids set place old now x is here lt once =
    let at : Option Spot = Some (spot_at set place) in
    let later : List (Option Spot) = slice_set now x at in
    record {
      own = λ id p less k. elim (cases_eq p place) [
        | inl q ↦
            let there : slice_get ids place ≡ Some id = subst (λ (r : ℕ). slice_get ids r ≡ Some id) q k in
            let same : x ≡ id = same_inside x id (sym here ∙ there) in
            let put : spot_of later x ≡ at = get_or-set_same now x at None (omega (arith, lt, is.long)) in
            subst (λ (r : ℕ). spot_of later id ≡ Some (spot_at set r)) (sym q) (subst (λ (y : ℕ). spot_of later y ≡ at) same put)
        | inr off ↦
            let other : id ≢ x = λ same. off (once p place x (subst (λ (y : ℕ). slice_get ids p ≡ Some y) same k) here) in
            notes_keep now x id at other ∙ is.own id p (omega (arith, less, off)) k
      ];
      others = λ id absent.
          let other : id ≢ x = λ same. absent (subst (λ (y : ℕ). Contains ids y) (sym same) (member_at ids place x here)) in
          notes_keep now x id at other ∙ is.others id absent;
      long = length-set now x at ∙ is.long;
    }

pub noted_all : (ids : List ℕ) (set place : ℕ) (old now : List (Option Spot)) → length ids ≤ place → AreNotedTo ids set place old now → AreRenoted ids set old now
noted_all ids set place old now le is = record {
  own = λ id p k. let within : p < length ids = slice_get_within ids p id k in is.own id p (omega (arith, within, le)) k;
  others = is.others;
  long = is.long;
}
