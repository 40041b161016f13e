-- Ids and their numbers.
use Rattle.std.proofs.Common.{◌≡◌, ℕ, zero, suc, ◌<◌, ◌≤◌, List, [], ◌∷◌, ◌++◌, length, get_or, map, slice_set, refl, ap, sym, subst, ◌∙◌, arith, Option, Some, None}
use Rattle.std.specs.Prelude.{slice_get}
use Rattle.std.specs.Option.{option_map}
use Rattle.std.specs.List.{Contains}
use Rattle.std.proofs.lemmas.List.{length-map, map-set, map-append}
use Rattle.std.proofs.lemmas.Option.{slice_get-get_or}
use Rattle.std.proofs.lemmas.List.Sorted.{IsPermutation-map}
use Rattle.packed_sets.specs.declared.spots.Spot.{Spot}
use Rattle.packed_sets.specs.Packs.{list_at, IsAbsent, EachOnce}
use Rattle.packed_sets.specs.Notes.{numbers_of, IsSwappedOut, IsOut}
use Rattle.packed_sets.proofs.ListLaws.{none_not_some, same_inside, place_of, member_at}

pub numbers_at : {X : Type 0} (number : X → ℕ) (sets : List (List X)) (s : ℕ) → list_at (numbers_of number sets) s ≡ map number (list_at sets s)
numbers_at number [] s = refl
numbers_at number (l ∷ sets) zero = refl
numbers_at number (l ∷ sets) (suc s) = numbers_at number sets s

pub numbers_count : {X : Type 0} (number : X → ℕ) (sets : List (List X)) → length (numbers_of number sets) ≡ length sets
numbers_count number sets = length-map sets (map number)

pub numbers_long : {X : Type 0} (number : X → ℕ) (sets : List (List X)) (s : ℕ) → length (list_at (numbers_of number sets) s) ≡ length (list_at sets s)
numbers_long number sets s = ap (λ (l : List ℕ). length l) (numbers_at number sets s) ∙ length-map (list_at sets s) number

pub numbers_same : {X : Type 0} (number : X → ℕ) (sets new : List (List X)) → ((s : ℕ) → list_at new s ≡ list_at sets s) → (s : ℕ) → list_at (numbers_of number new) s ≡ list_at (numbers_of number sets) s
numbers_same {X} number sets new same s = numbers_at number new s ∙ ap (λ (l : List X). map number l) (same s) ∙ sym (numbers_at number sets s)

-- ---- what stands at a place

pub got_number : {X : Type 0} (number : X → ℕ) (xs : List X) (k : ℕ) → slice_get (map number xs) k ≡ option_map number (slice_get xs k)
got_number number [] k = refl
got_number number (x ∷ xs) zero = refl
got_number number (x ∷ xs) (suc k) = got_number number xs k

pub number_got : {X : Type 0} (number : X → ℕ) (xs : List X) (k : ℕ) (x : X) → slice_get xs k ≡ Some x → slice_get (map number xs) k ≡ Some (number x)
number_got {X} number xs k x e = got_number number xs k ∙ ap (λ (o : Option X). option_map number o) e

pub got_past : {X : Type 0} (xs : List X) (k : ℕ) → length xs ≤ k → slice_get xs k ≡ None
got_past [] k le = refl
got_past (x ∷ xs) zero le = absurd (omega (arith, le))
got_past (x ∷ xs) (suc k) le = got_past xs k (omega (arith, le))

-- the id at a place, and none beyond
pub number_there : {X : Type 0} (number : X → ℕ) (xs : List X) (k : ℕ) (x : X) → k < length xs → x ≡ get_or xs k x → slice_get (map number xs) k ≡ Some (number x)
number_there {X} number xs k x lt is = number_got number xs k x (slice_get-get_or xs k x lt ∙ ap (λ (z : X). Some z) (sym is))

pub number_past : {X : Type 0} (number : X → ℕ) (xs : List X) (k : ℕ) → length xs ≤ k → slice_get (map number xs) k ≡ None
number_past number xs k le = got_past (map number xs) k (omega (arith, le, length-map xs number))

-- the id behind a number
pub id_got : {X : Type 0} (number : X → ℕ) (xs : List X) (k n : ℕ) → slice_get (map number xs) k ≡ Some n → (x : X) × (slice_get xs k ≡ Some x) × (number x ≡ n)
id_got number [] k n e = absurd (none_not_some n e)
id_got number (x ∷ xs) zero n e = (x, refl, same_inside (number x) n e)
id_got number (x ∷ xs) (suc k) n e = id_got number xs k n e

pub has_number : {X : Type 0} (number : X → ℕ) (xs : List X) (x : X) → Contains xs x → Contains (map number xs) (number x)
has_number {X} number xs x h =
    let place : (k : ℕ) × (slice_get xs k ≡ Some x) = place_of xs x h in
    member_at (map number xs) place.0 (number x) (number_got number xs place.0 x place.1)

-- ids are known by their numbers
pub has_id : {X : Type 0} (number : X → ℕ) → ((a b : X) → number a ≡ number b → a ≡ b) → (xs : List X) (x : X) → Contains (map number xs) (number x) → Contains xs x
has_id {X} number known xs x h =
    let place : (k : ℕ) × (slice_get (map number xs) k ≡ Some (number x)) = place_of (map number xs) (number x) h in
    let there : (y : X) × (slice_get xs place.0 ≡ Some y) × (number y ≡ number x) = id_got number xs place.0 (number x) place.1 in
    member_at xs place.0 x (there.1 ∙ ap (λ (z : X). Some z) (known there.0 x there.2))

-- ---- in which set

pub number_in : {X : Type 0} (number : X → ℕ) (sets : List (List X)) (s : ℕ) (x : X) → Contains (list_at sets s) x → Contains (list_at (numbers_of number sets) s) (number x)
number_in number sets s x h = subst (λ (l : List ℕ). Contains l (number x)) (sym (numbers_at number sets s)) (has_number number (list_at sets s) x h)

pub id_in : {X : Type 0} (number : X → ℕ) → ((a b : X) → number a ≡ number b → a ≡ b) → (sets : List (List X)) (s : ℕ) (x : X) → Contains (list_at (numbers_of number sets) s) (number x) → Contains (list_at sets s) x
id_in number known sets s x h = has_id number known (list_at sets s) x (subst (λ (l : List ℕ). Contains l (number x)) (numbers_at number sets s) h)

pub number_absent : {X : Type 0} (number : X → ℕ) → ((a b : X) → number a ≡ number b → a ≡ b) → (sets : List (List X)) (x : X) → IsAbsent sets x → IsAbsent (numbers_of number sets) (number x)
number_absent number known sets x absent = λ s h. absent s (id_in number known sets s x h)

pub id_absent : {X : Type 0} (number : X → ℕ) (sets : List (List X)) (x : X) → IsAbsent (numbers_of number sets) (number x) → IsAbsent sets x
id_absent number sets x absent = λ s h. absent s (number_in number sets s x h)

pub ids_once : {X : Type 0} (number : X → ℕ) (sets : List (List X)) → EachOnce (numbers_of number sets) → EachOnce sets
ids_once {X} number sets once s t p q x h k =
    let at : (u r : ℕ) → slice_get (list_at sets u) r ≡ Some x → slice_get (list_at (numbers_of number sets) u) r ≡ Some (number x) = λ u r e.
    ap (λ (l : List ℕ). slice_get l r) (numbers_at number sets u) ∙ number_got number (list_at sets u) r x e in
    once s t p q (number x) (at s p h) (at t q k)

-- ---- an id put in, and one swapped out

pub numbers_put : {X : Type 0} (number : X → ℕ) (sets : List (List X)) (s : ℕ) (x : X) → numbers_of number (slice_set sets s (list_at sets s ++ x ∷ [])) ≡ slice_set (numbers_of number sets) s (list_at (numbers_of number sets) s ++ number x ∷ [])
numbers_put {X} number sets s x =
    let all : List (List ℕ) = numbers_of number sets in
    map-set (map number) sets s (list_at sets s ++ x ∷ []) ∙ ap (λ (l : List ℕ). slice_set all s l) (map-append number (list_at sets s) (x ∷ []) ∙ ap (λ (l : List ℕ). l ++ number x ∷ []) (sym (numbers_at number sets s)))

numbers_swapped : {X : Type 0} (number : X → ℕ) (old new : List X) (p : ℕ) (x : X) → IsSwappedOut old new p x → IsSwappedOut (map number old) (map number new) p (number x)
numbers_swapped {X} number old new p x w =
    let was : length (map number old) ≡ length old = length-map old number in
    let now : length (map number new) ≡ length new = length-map new number in
    let lift : (q r : ℕ) → slice_get new q ≡ slice_get old r → slice_get (map number new) q ≡ slice_get (map number old) r = λ q r e.
    got_number number new q ∙ ap (λ (o : Option X). option_map number o) e ∙ sym (got_number number old r) in
    record {
      there = number_got number old p x w.there;
      same = IsPermutation-map number old (x ∷ new) w.same;
      short = omega (arith, was, now, w.short);
      stays = λ q off lt. lift q q (w.stays q off (omega (arith, lt, now)));
      moved = λ lt. lift p (length new) (w.moved (omega (arith, lt, now))) ∙ ap (λ (k : ℕ). slice_get (map number old) k) (sym now);
    }

pub numbers_out : {X : Type 0} (number : X → ℕ) (old new : List (List X)) (at : Spot) (x : X) → IsOut old new at x → IsOut (numbers_of number old) (numbers_of number new) at (number x)
numbers_out {X} number old new at x w = record {
  long = numbers_count number new ∙ w.long ∙ sym (numbers_count number old);
  swapped = subst (λ (l : List ℕ). IsSwappedOut l (list_at (numbers_of number new) at.set) at.place (number x)) (sym (numbers_at number old at.set))
      (subst (λ (l : List ℕ). IsSwappedOut (map number (list_at old at.set)) l at.place (number x)) (sym (numbers_at number new at.set)) (numbers_swapped number (list_at old at.set) (list_at new at.set) at.place x w.swapped));
  others = λ t d. numbers_at number new t ∙ ap (λ (l : List X). map number l) (w.others t d) ∙ sym (numbers_at number old t);
}
