-- Items by number: those that pass a test are, in some order, those with the numbers at which one that passes stands.
use Rattle.std.proofs.Common.{◌≡◌, ◌≢◌, ◌⊎◌, ℕ, zero, suc, ◌<◌, ◌++◌, Bool, true, false, cond, List, [], ◌∷◌, length, get_or, Option, Some, None, inl, inr, refl, sym, ap, ◌∙◌, subst, arith}
use Rattle.std.specs.Prelude.{filter, nat_eq}
use Rattle.std.specs.List.{IsDistinct, filter_map, cons_option}
use Rattle.std.specs.List.Sorted.{IsPermutation}
use Rattle.std.specs.Cmp.{nat_eq_equiv}
use Rattle.std.proofs.lemmas.Bool.{eqb-false, ne_eqb}
use Rattle.std.proofs.lemmas.List.Elements.{Contains-get_or}
use Rattle.std.proofs.lemmas.Map.Keys.{IsDistinct-from_apart, IsDistinct-IsPermutation, apart_from_distinct}
use Rattle.std.proofs.lemmas.Option.{none-some, same_Some}
use Rattle.std.proofs.lemmas.List.Sorted.{IsPermutation-refl, IsPermutation-sym, IsPermutation-trans, IsPermutation-cons, IsPermutation-middle}
use Rattle.contacts_base.proofs.Members.{IsIn, contains_from_in, in_append, in_from_contains, in_left, in_right}
use Rattle.packed_sets.specs.Once.{AreOnce}
use Rattle.solver_sets.proofs.ListLaws.{Rises, filter_in, in_filter, in_map, map_in, map_same}
use Rattle.world_core.specs.WorldTies.{kept}

-- ---- lists of the same items, each once

abbrev pub IsOnceEach : {X : Type 0} → List X → Type 0
IsOnceEach [] = Unit {0}
IsOnceEach (x ∷ xs) = (IsIn x xs → ⊥) × IsOnceEach xs

pub rises_once : {X : Type 0} (n : X → ℕ) (xs : List X) → Rises n xs → IsOnceEach xs
rises_once n [] r = tt
rises_once n (x ∷ xs) r = (λ h. let lt : n x < n x = r.0 x h in omega (arith, lt), rises_once n xs r.1)

pub once_each : (ids : List ℕ) → AreOnce ids → IsOnceEach ids
once_each [] h = tt
once_each (id ∷ ids) h = (λ k. h.0 (contains_from_in ids id k), once_each ids h.1)

pub once_filter : {X : Type 0} (p : X → Bool) (xs : List X) → IsOnceEach xs → IsOnceEach (filter p xs)
once_filter p [] h = tt
once_filter {X} p (x ∷ xs) h = by_test (p x) (filter p xs) (λ k. h.0 (in_filter p xs x k).0) (once_filter p xs h.1)
  where
    by_test : (t : Bool) (ys : List X) → (IsIn x ys → ⊥) → IsOnceEach ys → IsOnceEach (cond t (x ∷ ys) ys)
    by_test true ys off once = (off, once)
    by_test false ys off once = once

-- two lists that have no item in common
pub once_both : {X : Type 0} (xs ys : List X) → IsOnceEach xs → IsOnceEach ys → ((x : X) → IsIn x xs → IsIn x ys → ⊥) → IsOnceEach (xs ++ ys)
once_both [] ys a b off = b
once_both (x ∷ xs) ys a b off = (
  λ h. elim (in_append x xs ys h) [ inl k ↦ a.0 k | inr k ↦ off x (inl refl) k ],
  once_both xs ys a.1 b (λ z h k. off z (inr h) k),
)

-- a list with an item in it, split there
record IsPartedAt {X : Type 0} (x : X) (xs : List X) : Type 0 where
  front : List X
  back : List X
  is : xs ≡ front ++ x ∷ back

parted_at : {X : Type 0} (x : X) (xs : List X) → IsIn x xs → IsPartedAt x xs
parted_at x [] h = absurd h
parted_at {X} x (y ∷ ys) h = elim h [
  | inl same ↦ record { front = []; back = ys; is = ap (λ (z : X). z ∷ ys) (sym same) }
  | inr there ↦ let rest = parted_at x ys there in record { front = y ∷ rest.front; back = rest.back; is = ap (λ (l : List X). y ∷ l) rest.is }
]

record IsLeftOut {X : Type 0} (x : X) (rest : List X) : Type 0 where
  once : IsOnceEach rest
  absent : IsIn x rest → ⊥

-- an item in the rest of a list is in the list, and one in the list is in the rest or is the one that was left out
into_whole : {X : Type 0} (x : X) (front back : List X) (z : X) → IsIn z (front ++ back) → IsIn z (front ++ x ∷ back)
into_whole x front back z h = elim (in_append z front back h) [ inl k ↦ in_left z front (x ∷ back) k | inr k ↦ in_right z front (x ∷ back) (inr k) ]

from_whole : {X : Type 0} (x : X) (front back : List X) (z : X) → IsIn z (front ++ x ∷ back) → (z ≡ x) ⊎ IsIn z (front ++ back)
from_whole x front back z h = elim (in_append z front (x ∷ back) h) [
  | inl k ↦ inr (in_left z front back k)
  | inr k ↦ elim k [ inl same ↦ inl same | inr there ↦ inr (in_right z front back there) ]
]

left_out : {X : Type 0} (x : X) (front back : List X) → IsOnceEach (front ++ x ∷ back) → IsLeftOut x (front ++ back)
left_out x [] back h = record { once = h.1; absent = h.0 }
left_out x (f ∷ front) back h =
    let rest = left_out x front back h.1 in
    record {
      once = (λ k. h.0 (into_whole x front back f k), rest.once);
      absent = λ k. elim k [
        | inl same ↦ h.0 (subst (λ v. IsIn v (front ++ x ∷ back)) same (in_right x front (x ∷ back) (inl refl)))
        | inr there ↦ rest.absent there
      ];
    }

pub same_once : {X : Type 0} (xs ys : List X) → IsOnceEach xs → IsOnceEach ys → ((x : X) → IsIn x xs → IsIn x ys) → ((x : X) → IsIn x ys → IsIn x xs) → IsPermutation xs ys
same_once [] [] a b to from = IsPermutation-refl []
same_once [] (y ∷ ys) a b to from = absurd (from y (inl refl))
same_once {X} (x ∷ xs) ys a b to from =
    let part : IsPartedAt x ys = parted_at x ys (to x (inl refl)) in
    let rest : List X = part.front ++ part.back in
    let moved : IsPermutation ys (x ∷ rest) = subst (λ (l : List X). IsPermutation l (x ∷ rest)) (sym part.is) (IsPermutation-middle part.front x part.back) in
    let out : IsLeftOut x rest = left_out x part.front part.back (subst (λ (l : List X). IsOnceEach l) part.is b) in
    let same : IsPermutation xs rest = same_once xs rest a.1 out.once
    (λ z h. elim (from_whole x part.front part.back z (subst (λ (l : List X). IsIn z l) part.is (to z (inr h)))) [
      | inl e ↦ absurd (a.0 (subst (λ (v : X). IsIn v xs) e h))
      | inr there ↦ there
    ])
    (λ z h. elim (from z (subst (λ (l : List X). IsIn z l) (sym part.is) (into_whole x part.front part.back z h))) [
      | inl e ↦ absurd (out.absent (subst (λ (v : X). IsIn v rest) e h))
      | inr there ↦ there
    ]) in
    IsPermutation-trans (x ∷ xs) (x ∷ rest) ys (IsPermutation-cons x xs rest same) (IsPermutation-sym ys (x ∷ rest) moved)

-- ---- what passes a test

pub kept_is : {X : Type 0} (p : X → Bool) (o : Option X) (x : X) → kept p o ≡ Some x → (o ≡ Some x) × (p x ≡ true)
kept_is p None x h = absurd (none-some x h)
kept_is {X} p (Some y) x h = by_test (p y) refl h
  where
    by_test : (t : Bool) → p y ≡ t → cond t (Some y) None ≡ Some x → (Some y ≡ Some x) × (p x ≡ true)
    by_test true e k = (k, ap p (sym (same_Some y x k)) ∙ e)
    by_test false e k = absurd (none-some x k)

pub is_kept : {X : Type 0} (p : X → Bool) (o : Option X) (x : X) → o ≡ Some x → p x ≡ true → kept p o ≡ Some x
is_kept {X} p o x h t = ap (kept p) h ∙ ap (λ (b : Bool). cond b (Some x) None) t

-- ---- items by number

-- these are the items that stand at numbers, each at one of its own
pub record AreAll {X : Type 0} (at : ℕ → Option X) (all : List X) : Type 0 where
  pub once : IsOnceEach all
  pub has : (n : ℕ) (x : X) → at n ≡ Some x → IsIn x all
  pub named : (x : X) → IsIn x all → (n : ℕ) × (at n ≡ Some x)
  pub apart : (a b : ℕ) (x : X) → at a ≡ Some x → at b ≡ Some x → a ≡ b

picked_once : {X : Type 0} (at : ℕ → Option X) (numbers : List ℕ) → ((a b : ℕ) (x : X) → at a ≡ Some x → at b ≡ Some x → a ≡ b) → IsOnceEach numbers → IsOnceEach (filter_map at numbers)
picked_once at [] apart h = tt
picked_once {X} at (n ∷ numbers) apart h = by_item (at n) (filter_map at numbers) (λ x e k. let o = in_map at numbers x k in h.0 (subst (λ (m : ℕ). IsIn m numbers) (apart o.of n x o.gives e) o.there)) (picked_once at numbers apart h.1)
  where
    by_item : (o : Option X) (xs : List X) → ((x : X) → o ≡ Some x → IsIn x xs → ⊥) → IsOnceEach xs → IsOnceEach (cons_option o xs)
    by_item None xs off once = once
    by_item (Some x) xs off once = (off x refl, once)

-- those that pass, where all numbers of one that passes are listed, each once
pub passing_told : {X : Type 0} (at : ℕ → Option X) (all : List X) (p : X → Bool) (numbers : List ℕ) → AreAll at all → IsOnceEach numbers → ((n : ℕ) (x : X) → at n ≡ Some x → p x ≡ true → IsIn n numbers) → IsPermutation (filter p all) (filter_map (λ n. kept p (at n)) numbers)
passing_told {X} at all p numbers are once listed = same_once (filter p all) (filter_map (λ n. kept p (at n)) numbers) (once_filter p all are.once)
    (picked_once (λ n. kept p (at n)) numbers (λ a b x e f. are.apart a b x (kept_is p (at a) x e).0 (kept_is p (at b) x f).0) once)
    (λ x h.
    let o = in_filter p all x h in
    let n = are.named x o.0 in
    map_in (λ n. kept p (at n)) numbers n.0 x (listed n.0 x n.1 o.1) (is_kept p (at n.0) x n.1 o.1))
    (λ x h.
    let o = in_map (λ n. kept p (at n)) numbers x h in
    let k = kept_is p (at o.of) x o.gives in
    filter_in p all x (are.has o.of x k.0) k.1)

kept_all : {X : Type 0} (p : X → Bool) (o : Option X) → ((x : X) → o ≡ Some x → p x ≡ true) → kept p o ≡ o
kept_all p None h = refl
kept_all p (Some x) h = ap (λ (t : Bool). cond t (Some x) None) (h x refl)

-- the same where no others are listed
pub all_told : {X : Type 0} (at : ℕ → Option X) (all : List X) (p : X → Bool) (numbers : List ℕ) → AreAll at all → IsOnceEach numbers → ((n : ℕ) (x : X) → at n ≡ Some x → p x ≡ true → IsIn n numbers) → ((n : ℕ) (x : X) → IsIn n numbers → at n ≡ Some x → p x ≡ true)
    → IsPermutation (filter p all) (filter_map at numbers)
all_told {X} at all p numbers are once listed pass =
    subst (λ (l : List X). IsPermutation (filter p all) l) (map_same (λ n. kept p (at n)) at numbers (λ n k. kept_all p (at n) (λ x e. pass n x k e))) (passing_told at all p numbers are once listed)

-- ---- the same numbers in another order

once_places : (ids : List ℕ) (i j d : ℕ) → IsOnceEach ids → i < j → j < length ids → get_or ids i d ≢ get_or ids j d
once_places [] i j d once lt l = absurd (omega (arith, l))
once_places (x ∷ ids) i zero d once lt l = absurd (omega (arith, lt))
once_places (x ∷ ids) zero (suc j) d once lt l = λ e. once.0 (subst (λ (k : ℕ). IsIn k ids) (sym e) (in_from_contains ids (get_or ids j d) (Contains-get_or ids j d (omega (arith, l)))))
once_places (x ∷ ids) (suc i) (suc j) d once lt l = once_places ids i j d once.1 (omega (arith, lt)) (omega (arith, l))

places_once : (ids : List ℕ) → ((i j d : ℕ) → i < j → j < length ids → get_or ids i d ≢ get_or ids j d) → IsOnceEach ids
places_once [] h = tt
places_once (x ∷ ids) h = (
  λ k. let c = contains_from_in ids x k in let lt = c.1 in h 0 (suc c.0) x (omega arith) (omega (arith, lt)) (sym c.2),
  places_once ids (λ i j d lt l. h (suc i) (suc j) d (omega (arith, lt)) (omega (arith, l))),
)

pub once_moved : (xs ys : List ℕ) → IsPermutation xs ys → IsOnceEach xs → IsOnceEach ys
once_moved xs ys moved once =
    let apart : IsDistinct nat_eq xs = IsDistinct-from_apart nat_eq xs (λ i j d lt l. ne_eqb (get_or xs i d) (get_or xs j d) (once_places xs i j d once lt l)) in
    let still : IsDistinct nat_eq ys = IsDistinct-IsPermutation nat_eq nat_eq_equiv.symm xs ys moved apart in
    places_once ys (λ i j d lt l. eqb-false (get_or ys i d) (get_or ys j d) (apart_from_distinct nat_eq ys i j d still lt l))

pub are_once : (ids : List ℕ) → IsOnceEach ids → AreOnce ids
are_once [] h = tt
are_once (id ∷ ids) h = (λ k. h.0 (in_from_contains ids id k), are_once ids h.1)

pub once_thread : (ids thread : List ℕ) → AreOnce ids → IsPermutation ids thread → AreOnce thread
once_thread ids thread once moved = are_once thread (once_moved ids thread moved (once_each ids once))
