-- What is kept of sets and notes, through each call.
use Rattle.std.proofs.Common.{◌≡◌, ◌⊎◌, ◌^◌, ℕ, suc, ◌<◌, ◌≤◌, List, [], ◌∷◌, ◌++◌, length, get_or, slice_set, refl, ap, sym, subst, ◌∙◌, arith, inl, inr, Option, Some, None}
use Rattle.std.specs.Prelude.{slice_get}
use Rattle.std.specs.List.{Contains}
use Rattle.std.specs.List.Sorted.{IsPermutation}
use Rattle.std.proofs.lemmas.Bool.{cases_lt, cases_eq}
use Rattle.std.proofs.lemmas.List.{get_or-set_same, get_or-set_other, get_or_past}
use Rattle.std.proofs.lemmas.List.Sorted.{IsPermutation-to_front}
use Rattle.std.proofs.lemmas.Option.{slice_get_within, slice_get-get_or}
use Rattle.packed_sets.specs.declared.spots.Spot.{Spot}
use Rattle.packed_sets.specs.Packs.{list_at, IsAbsent, IsPut, IsTaken, EachOnce}
use Rattle.packed_sets.specs.Notes.{spot_at, spot_of, numbers_of, renoted, IsKept, IsOut}
use Rattle.packed_sets.proofs.ListLaws.{same_inside, none_not_some, place_of, member_at, more_cases}
use Rattle.packed_sets.proofs.PackLaws.{HasCome, HasGone, one_spot, last_stood, come_packed, gone_packed, packed_same}
use Rattle.packed_sets.proofs.SpotLaws.{noted_within, come_spots, gone_spots}
use Rattle.packed_sets.proofs.NumberLaws.{number_in, numbers_out}
use Rattle.packed_sets.proofs.RoomLaws.{no_more}

pub each_once : (sets : List (List ℕ)) (notes : List (Option Spot)) → IsKept sets notes → EachOnce sets
each_once sets notes is = one_spot sets (spot_of notes) is.packed

-- ---- where an id stands

pub noted_of : (sets : List (List ℕ)) (notes : List (Option Spot)) (set x : ℕ) → IsKept sets notes → Contains (list_at sets set) x → (p : ℕ) × (spot_of notes x ≡ Some (spot_at set p))
noted_of sets notes set x is h =
    let place : (k : ℕ) × (slice_get (list_at sets set) k ≡ Some x) = place_of (list_at sets set) x h in
    (place.0, is.packed.known x set place.0 place.1)

-- an id with a note stands there
pub stands_in : (sets : List (List ℕ)) (notes : List (Option Spot)) (x : ℕ) (at : Spot) → IsKept sets notes → spot_of notes x ≡ Some at → Contains (list_at sets at.set) x
stands_in sets notes x at is e = member_at (list_at sets at.set) at.place x (is.packed.there x at.set at.place e)

-- and in that set alone
pub one_set : (sets : List (List ℕ)) (notes : List (Option Spot)) (set x : ℕ) (at : Spot) → IsKept sets notes → spot_of notes x ≡ Some at → Contains (list_at sets set) x → at.set ≡ set
one_set sets notes set x at is e h =
    let n : (p : ℕ) × (spot_of notes x ≡ Some (spot_at set p)) = noted_of sets notes set x is h in
    ap (λ (a : Spot). a.set) (same_inside at (spot_at set n.0) (sym e ∙ n.1))

-- an id with no note is in no set
pub none_has : (sets : List (List ℕ)) (notes : List (Option Spot)) (x : ℕ) → IsKept sets notes → spot_of notes x ≡ None → IsAbsent sets x
none_has sets notes x is e set h =
    let n : (p : ℕ) × (spot_of notes x ≡ Some (spot_at set p)) = noted_of sets notes set x is h in
    none_not_some (spot_at set n.0) (sym e ∙ n.1)

-- an id that is in no set has no note
pub free_note : (sets : List (List ℕ)) (notes : List (Option Spot)) (x : ℕ) → IsKept sets notes → IsAbsent sets x → spot_of notes x ≡ None
free_note sets notes x is absent = by (spot_of notes x) refl
  where
    by : (o : Option Spot) → spot_of notes x ≡ o → spot_of notes x ≡ None
    by None e = e
    by (Some at) e = absurd (absent at.set (stands_in sets notes x at is e))

-- each id that stands in a set has a note
pub below_notes : (sets : List (List ℕ)) (notes : List (Option Spot)) (set x : ℕ) → IsKept sets notes → Contains (list_at sets set) x → x < length notes
below_notes sets notes set x is h =
    let n : (p : ℕ) × (spot_of notes x ≡ Some (spot_at set p)) = noted_of sets notes set x is h in
    noted_within notes x (spot_at set n.0) n.1

pub within_sets : (sets : List (List ℕ)) (s p x : ℕ) → slice_get (list_at sets s) p ≡ Some x → s < length sets
within_sets sets s p x h = elim (cases_lt s (length sets)) [
  | inl lt ↦ lt
  | inr ge ↦ absurd (none_not_some x (sym (ap (λ (l : List ℕ). slice_get l p) (get_or_past sets s [] ge)) ∙ h))
]

-- ---- how many ids stand in a set

pub distinct_fits : (xs : List ℕ) (x n : ℕ) → x < n → ((k y : ℕ) → slice_get xs k ≡ Some y → y < n) → ((k : ℕ) → slice_get xs k ≡ Some x → ⊥) → ((j k y : ℕ) → slice_get xs j ≡ Some y → slice_get xs k ≡ Some y → j ≡ k) → length xs < n
distinct_fits xs x n lt below absent apart =
    let there : (k : ℕ) → k < length xs → slice_get xs k ≡ Some (get_or xs k x) = λ k less. slice_get-get_or xs k x less in
    let behind : get_or xs (length xs) x ≡ x = get_or_past xs (length xs) x (omega arith) in
    let all : suc (length xs) ≤ n = no_more n (suc (length xs)) (λ k. get_or xs k x)
    (λ k less. elim (cases_lt k (length xs)) [
      | inl in_it ↦ below k (get_or xs k x) (there k in_it)
      | inr ge ↦ let is : get_or xs k x ≡ x = get_or_past xs k x ge in omega (arith, is, lt)
    ])
    (λ j k less lesser same. elim (cases_lt j (length xs)) [
      | inl a ↦ elim (cases_lt k (length xs)) [
        | inl b ↦ apart j k (get_or xs k x) (there j a ∙ ap (λ z. Some z) same) (there k b)
        | inr b ↦ absurd (absent j (there j a ∙ ap (λ z. Some z) (same ∙ get_or_past xs k x b)))
      ]
      | inr a ↦ elim (cases_lt k (length xs)) [
        | inl b ↦ absurd (absent k (there k b ∙ ap (λ z. Some z) (sym same ∙ get_or_past xs j x a)))
        | inr b ↦ omega (arith, a, b, less, lesser)
      ]
    ]) in
    omega (arith, all)

-- different numbers below a bound are no more than it
pub distinct_most : (xs : List ℕ) (n : ℕ) → ((k y : ℕ) → slice_get xs k ≡ Some y → y < n) → ((j k y : ℕ) → slice_get xs j ≡ Some y → slice_get xs k ≡ Some y → j ≡ k) → length xs ≤ n
distinct_most xs n below apart =
    let there : (k : ℕ) → k < length xs → slice_get xs k ≡ Some (get_or xs k 0) = λ k less. slice_get-get_or xs k 0 less in
    no_more n (length xs) (λ k. get_or xs k 0) (λ k less. below k (get_or xs k 0) (there k less)) (λ j k less lesser same. apart j k (get_or xs k 0) (there j less ∙ ap (λ z. Some z) same) (there k lesser))

-- a place in a set is a number of 32 bits
pub place_fits : (sets : List (List ℕ)) (notes : List (Option Spot)) (s x : ℕ) → IsKept sets notes → IsAbsent sets x → x < 2 ^ 32 → length (list_at sets s) < 2 ^ 32
place_fits sets notes s x is absent lt =
    let xs : List ℕ = list_at sets s in
    distinct_fits xs x (2 ^ 32) lt
    (λ k y h. is.small y s (member_at xs k y h))
    (λ k h. absent s (member_at xs k x h))
    (λ j k y h i. (each_once sets notes is s s j k y h i).1)

-- ---- an id is put in

come_members : (sets new : List (List ℕ)) (spots now : ℕ → Option Spot) (s x : ℕ) → HasCome sets new spots now s x → (t y : ℕ) → Contains (list_at new t) y → (y ≡ x) ⊎ Contains (list_at sets t) y
come_members sets new spots now s x h t y k = elim (cases_eq t s) [
  | inl m ↦
      let here : Contains (list_at sets s ++ x ∷ []) y = subst (λ (l : List ℕ). Contains l y) h.list (subst (λ (u : ℕ). Contains (list_at new u) y) m k) in
      let place : (q : ℕ) × (slice_get (list_at sets s ++ x ∷ []) q ≡ Some y) = place_of (list_at sets s ++ x ∷ []) y here in
      elim (more_cases (list_at sets s) x place.0 y place.1) [
        | inl a ↦ inr (subst (λ (u : ℕ). Contains (list_at sets u) y) (sym m) (member_at (list_at sets s) place.0 y a.1))
        | inr a ↦ inl a.1
      ]
  | inr m ↦ inr (subst (λ (l : List ℕ). Contains l y) (h.others t m) k)
]

pub come_kept : (sets new : List (List ℕ)) (notes later : List (Option Spot)) (s x : ℕ) → IsKept sets notes → s < length sets → x < length notes → x < 2 ^ 32 → IsAbsent sets x
    → new ≡ slice_set sets s (list_at sets s ++ x ∷ []) → later ≡ slice_set notes x (Some (spot_at s (length (list_at sets s)))) → IsKept new later
come_kept sets new notes later s x is there within lt absent list_is note_is =
    let changed : List (List ℕ) = slice_set sets s (list_at sets s ++ x ∷ []) in
    let noted : List (Option Spot) = slice_set notes x (Some (spot_at s (length (list_at sets s)))) in
    let come : HasCome sets changed (spot_of notes) (spot_of noted) s x = come_spots sets notes s x (free_note sets notes x is absent) within there in
    subst (λ (l : List (List ℕ)). IsKept l later) (sym list_is) (subst (λ (n : List (Option Spot)). IsKept changed n) (sym note_is) (record {
      packed = come_packed sets changed (spot_of notes) (spot_of noted) s x is.packed come;
      small = λ y t h. elim (come_members sets changed (spot_of notes) (spot_of noted) s x come t y h) [
        | inl same ↦ subst (λ (z : ℕ). z < 2 ^ 32) (sym same) lt
        | inr old ↦ is.small y t old
      ];
    }))

pub put_is : {X : Type 0} (sets new : List (List X)) (s : ℕ) (x : X) → s < length sets → new ≡ slice_set sets s (list_at sets s ++ x ∷ []) → IsPut sets new s x
put_is {X} sets new s x lt is =
    let list : list_at new s ≡ list_at sets s ++ x ∷ [] = ap (λ (l : List (List X)). list_at l s) is ∙ get_or-set_same sets s (list_at sets s ++ x ∷ []) [] lt in
    record {
      more = subst (λ (l : List X). IsPermutation l (x ∷ list_at sets s)) (sym list) (IsPermutation-to_front (list_at sets s) x);
      others = λ t d. ap (λ (l : List (List X)). list_at l t) is ∙ get_or-set_other sets s t (list_at sets s ++ x ∷ []) [] d;
    }

-- ---- an id is taken out

pub gone_stood : (sets new : List (List ℕ)) (at : Spot) (x : ℕ) → IsOut sets new at x → (t y : ℕ) → Contains (list_at new t) y → Contains (list_at sets t) y
gone_stood sets new at x w t y k = elim (cases_eq t at.set) [
  | inl m ↦
      let xs : List ℕ = list_at sets at.set in
      let rest : List ℕ = list_at new at.set in
      let here : Contains rest y = subst (λ (u : ℕ). Contains (list_at new u) y) m k in
      let place : (q : ℕ) × (slice_get rest q ≡ Some y) = place_of rest y here in
      let less : place.0 < length rest = slice_get_within rest place.0 y place.1 in
      subst (λ (u : ℕ). Contains (list_at sets u) y) (sym m) (elim (cases_eq place.0 at.place) [
        | inl a ↦ member_at xs (length rest) y (last_stood xs rest at.place x y w.swapped (subst (λ (r : ℕ). slice_get rest r ≡ Some y) a place.1))
        | inr a ↦ member_at xs place.0 y (sym (w.swapped.stays place.0 a less) ∙ place.1)
      ])
  | inr m ↦ subst (λ (l : List ℕ). Contains l y) (w.others t m) k
]

-- the id that stood at the spot is the one that was asked for
pub out_is : (sets new : List (List ℕ)) (notes : List (Option Spot)) (x y : ℕ) (at : Spot) → IsKept sets notes → spot_of notes x ≡ Some at → IsOut sets new at y → y ≡ x
out_is sets new notes x y at is e w = same_inside y x (sym w.swapped.there ∙ is.packed.there x at.set at.place e)

pub gone_kept : (sets new : List (List ℕ)) (notes between later : List (Option Spot)) (x y : ℕ) (at : Spot) → IsKept sets notes → spot_of notes x ≡ Some at → IsOut sets new at y
    → between ≡ renoted (slice_get (list_at new at.set) at.place) at notes → later ≡ slice_set between x None → IsKept new later
gone_kept sets new notes between later x y at is e w between_is later_is =
    let out : IsOut sets new at x = subst (λ (z : ℕ). IsOut sets new at z) (out_is sets new notes x y at is e w) w in
    let noted : List (Option Spot) = slice_set (renoted (slice_get (list_at new at.set) at.place) at notes) x None in
    let gone : HasGone (list_at new at.set) (spot_of notes) (spot_of noted) at x = gone_spots sets new notes at.set at.place x is.packed out in
    subst (λ (n : List (Option Spot)). IsKept new n) (sym (later_is ∙ ap (λ (n : List (Option Spot)). slice_set n x None) between_is)) (record {
      packed = gone_packed sets new (spot_of notes) (spot_of noted) at.set at.place x is.packed out gone;
      small = λ z t h. is.small z t (gone_stood sets new at x out t z h);
    })

pub out_taken : {X : Type 0} (number : X → ℕ) → ((a b : X) → number a ≡ number b → a ≡ b) → (sets new : List (List X)) (notes : List (Option Spot)) (set : ℕ) (x y : X) (at : Spot) → IsKept (numbers_of number sets) notes → spot_of notes (number x) ≡ Some at → IsOut sets new at y → Contains (list_at sets set) x → IsTaken sets new set x
out_taken {X} number known sets new notes set x y at is e w h =
    let same : y ≡ x = known y x (out_is (numbers_of number sets) (numbers_of number new) notes (number x) (number y) at is e (numbers_out number sets new at y w)) in
    let out : IsOut sets new at x = subst (λ (z : X). IsOut sets new at z) same w in
    let taken : IsTaken sets new at.set x = record { less = out.swapped.same; others = out.others } in
    subst (λ (s : ℕ). IsTaken sets new s x) (one_set (numbers_of number sets) notes set (number x) at is e (number_in number sets set x h)) taken

-- ---- more numbers, and no other ids

pub grown_kept : (sets new : List (List ℕ)) (notes later : List (Option Spot)) → ((s : ℕ) → list_at new s ≡ list_at sets s) → ((x : ℕ) → spot_of later x ≡ spot_of notes x) → IsKept sets notes → IsKept new later
grown_kept sets new notes later same_sets same_notes is = record {
  packed = packed_same sets new (spot_of notes) (spot_of later) same_sets same_notes is.packed;
  small = λ x s h. is.small x s (subst (λ (l : List ℕ). Contains l x) (same_sets s) h);
}
