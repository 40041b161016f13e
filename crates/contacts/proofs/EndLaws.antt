-- Which numbers are in a thread, once one is put in or taken out.
use Rattle.std.proofs.Common.{◌≡◌, ◌≢◌, ◌⊎◌, ℕ, ◌<◌, List, [], ◌∷◌, length, sym, subst, inl, inr}
use Rattle.std.specs.List.{Contains}
use Rattle.std.proofs.lemmas.Bool.{cases_eq, cases_lt}
use Rattle.std.proofs.lemmas.List.{get_or_past}
use Rattle.std.proofs.lemmas.List.Sorted.{Contains-permutation, IsPermutation-sym}
use Rattle.packed_sets.specs.Packs.{IsPut, IsTaken, list_at}
use Rattle.packed_sets.proofs.ItemLaws.{head_in, in_cases, none_in, tail_in}

-- a thread with a number in it is one of them
pub list_within : (sets : List (List ℕ)) (set id : ℕ) → Contains (list_at sets set) id → set < length sets
list_within sets set id h = elim (cases_lt set (length sets)) [
  | inl lt ↦ lt
  | inr le ↦ absurd (none_in id (subst (λ (l : List ℕ). Contains l id) (get_or_past sets set [] le) h))
]

-- of another number nothing new is there
pub put_was : (old new : List (List ℕ)) (set id s y : ℕ) → IsPut old new set id → Contains (list_at new s) y → (Contains (list_at old s) y) ⊎ ((s ≡ set) × (y ≡ id))
put_was old new set id s y is h = elim (cases_eq s set) [
  | inl same ↦
      let there : Contains (id ∷ list_at old set) y = Contains-permutation (list_at new set) (id ∷ list_at old set) y is.more (subst (λ (k : ℕ). Contains (list_at new k) y) same h) in
      elim (in_cases id (list_at old set) y there) [
        | inl own ↦ inr (same, own)
        | inr was ↦ inl (subst (λ (k : ℕ). Contains (list_at old k) y) (sym same) was)
      ]
  | inr off ↦ inl (subst (λ (l : List ℕ). Contains l y) (is.others s off) h)
]

-- what is put in is there
pub put_there : (old new : List (List ℕ)) (set id : ℕ) → IsPut old new set id → Contains (list_at new set) id
put_there old new set id is = Contains-permutation (id ∷ list_at old set) (list_at new set) id (IsPermutation-sym (list_at new set) (id ∷ list_at old set) is.more) (head_in id (list_at old set))

-- and what was there is still
pub put_keeps : (old new : List (List ℕ)) (set id s y : ℕ) → IsPut old new set id → Contains (list_at old s) y → Contains (list_at new s) y
put_keeps old new set id s y is h = elim (cases_eq s set) [
  | inl same ↦
      let there : Contains (list_at new set) y = Contains-permutation (id ∷ list_at old set) (list_at new set) y (IsPermutation-sym (list_at new set) (id ∷ list_at old set) is.more) (tail_in id (list_at old set) y (subst (λ (k : ℕ). Contains (list_at old k) y) same h)) in
      subst (λ (k : ℕ). Contains (list_at new k) y) (sym same) there
  | inr off ↦ subst (λ (l : List ℕ). Contains l y) (sym (is.others s off)) h
]

-- once one is taken out nothing new is there
pub take_was : (old new : List (List ℕ)) (set id s y : ℕ) → IsTaken old new set id → Contains (list_at new s) y → Contains (list_at old s) y
take_was old new set id s y is h = elim (cases_eq s set) [
  | inl same ↦
      let there : Contains (list_at old set) y = Contains-permutation (id ∷ list_at new set) (list_at old set) y (IsPermutation-sym (list_at old set) (id ∷ list_at new set) is.less) (tail_in id (list_at new set) y (subst (λ (k : ℕ). Contains (list_at new k) y) same h)) in
      subst (λ (k : ℕ). Contains (list_at old k) y) (sym same) there
  | inr off ↦ subst (λ (l : List ℕ). Contains l y) (is.others s off) h
]

-- and every other one that was there is still
pub take_keeps : (old new : List (List ℕ)) (set id s y : ℕ) → IsTaken old new set id → y ≢ id → Contains (list_at old s) y → Contains (list_at new s) y
take_keeps old new set id s y is other h = elim (cases_eq s set) [
  | inl same ↦
      let there : Contains (id ∷ list_at new set) y = Contains-permutation (list_at old set) (id ∷ list_at new set) y is.less (subst (λ (k : ℕ). Contains (list_at old k) y) same h) in
      elim (in_cases id (list_at new set) y there) [
        | inl own ↦ absurd (other own)
        | inr still ↦ subst (λ (k : ℕ). Contains (list_at new k) y) (sym same) still
      ]
  | inr off ↦ subst (λ (l : List ℕ). Contains l y) (sym (is.others s off)) h
]
