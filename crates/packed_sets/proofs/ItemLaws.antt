-- Lists of the same items, each once.
use Rattle.std.proofs.Common.{◌≡◌, ◌⊎◌, ℕ, zero, suc, ◌+◌, ◌==◌, true, List, [], ◌∷◌, ◌++◌, refl, ap, sym, subst, arith, inl, inr, Some}
use Rattle.std.specs.Prelude.{slice_get}
use Rattle.std.specs.List.{Contains}
use Rattle.std.specs.List.Sorted.{IsPermutation}
use Rattle.std.proofs.lemmas.Bool.{cases_eq}
use Rattle.std.proofs.lemmas.List.Sorted.{IsPermutation-refl, IsPermutation-sym, IsPermutation-trans, IsPermutation-cons, IsPermutation-middle, Contains-permutation}
use Rattle.std.proofs.lemmas.Map.Made.{Contains-tail}
use Rattle.packed_sets.specs.Once.{AreOnce}
use Rattle.packed_sets.proofs.ListLaws.{place_of, member_at}

-- ---- members

pub head_in : {X : Type 0} (x : X) (xs : List X) → Contains (x ∷ xs) x
head_in x xs = member_at (x ∷ xs) zero x refl

pub tail_in : {X : Type 0} (x : X) (xs : List X) (y : X) → Contains xs y → Contains (x ∷ xs) y
tail_in {X} x xs y h =
    let place : (k : ℕ) × (slice_get xs k ≡ Some y) = place_of xs y h in
    member_at (x ∷ xs) (suc place.0) y place.1

pub none_in : {X : Type 0} (x : X) → Contains [] x → ⊥
none_in x h = omega (arith, h.1)

pub in_cases : (x : ℕ) (xs : List ℕ) (y : ℕ) → Contains (x ∷ xs) y → (y ≡ x) ⊎ Contains xs y
in_cases x xs y h = elim (cases_eq y x) [
  | inl same ↦ inl same
  | inr other ↦ inr (Contains-tail x xs y (λ e. other (sym e)) h)
]

-- ---- the same items, each once

pub record IsLeftOut (x : ℕ) (rest : List ℕ) : Type 0 where
  pub once : AreOnce rest
  pub absent : Contains rest x → ⊥

pub left_out : (x : ℕ) (front back : List ℕ) → AreOnce (front ++ x ∷ back) → IsLeftOut x (front ++ back)
left_out x [] back h = record { once = h.1; absent = h.0 }
left_out x (f ∷ front) back h =
    let rest : IsLeftOut x (front ++ back) = left_out x front back h.1 in
    let all : IsPermutation (x ∷ (front ++ back)) (front ++ x ∷ back) = IsPermutation-sym (front ++ x ∷ back) (x ∷ (front ++ back)) (IsPermutation-middle front x back) in
    let into : (y : ℕ) → Contains (x ∷ (front ++ back)) y → Contains (front ++ x ∷ back) y = λ y k. Contains-permutation (x ∷ (front ++ back)) (front ++ x ∷ back) y all k in
    record {
      once = (λ k. h.0 (into f (tail_in x (front ++ back) f k)), rest.once);
      absent = λ k. elim (in_cases f (front ++ back) x k) [
        | inl same ↦ h.0 (subst (λ (y : ℕ). Contains (front ++ x ∷ back) y) same (into x (head_in x (front ++ back))))
        | inr there ↦ rest.absent there
      ];
    }

-- a list with an item in it, split there
pub record IsSplitAt (x : ℕ) (xs : List ℕ) : Type 0 where
  pub front : List ℕ
  pub back : List ℕ
  pub is : xs ≡ front ++ x ∷ back

pub split_at : (x : ℕ) (xs : List ℕ) → Contains xs x → IsSplitAt x xs
split_at x [] h = absurd (none_in x h)
split_at x (y ∷ ys) h = elim (cases_eq x y) [
  | inl same ↦ record { front = []; back = ys; is = ap (λ (z : ℕ). z ∷ ys) (sym same) }
  | inr other ↦
      let rest : IsSplitAt x ys = split_at x ys (Contains-tail y ys x (λ e. other (sym e)) h) in
      record { front = y ∷ rest.front; back = rest.back; is = ap (λ (l : List ℕ). y ∷ l) rest.is }
]

pub same_members : (xs ys : List ℕ) → AreOnce xs → AreOnce ys → ((z : ℕ) → Contains xs z → Contains ys z) → ((z : ℕ) → Contains ys z → Contains xs z) → IsPermutation xs ys
same_members [] [] once also to from = IsPermutation-refl []
same_members [] (y ∷ ys) once also to from = absurd (none_in y (from y (head_in y ys)))
same_members (x ∷ xs) ys once also to from =
    let split : IsSplitAt x ys = split_at x ys (to x (head_in x xs)) in
    let rest : List ℕ = split.front ++ split.back in
    let moved : IsPermutation ys (x ∷ rest) = subst (λ (l : List ℕ). IsPermutation l (x ∷ rest)) (sym split.is) (IsPermutation-middle split.front x split.back) in
    let out : IsLeftOut x rest = left_out x split.front split.back (subst (λ (l : List ℕ). AreOnce l) split.is also) in
    let same : IsPermutation xs rest = same_members xs rest once.1 out.once
    (λ z h. elim (in_cases x rest z (Contains-permutation ys (x ∷ rest) z moved (to z (tail_in x xs z h)))) [
      | inl e ↦ absurd (once.0 (subst (λ (y : ℕ). Contains xs y) e h))
      | inr there ↦ there
    ])
    (λ z h. elim (in_cases x xs z (from z (Contains-permutation (x ∷ rest) ys z (IsPermutation-sym ys (x ∷ rest) moved) (tail_in x rest z h)))) [
      | inl e ↦ absurd (out.absent (subst (λ (y : ℕ). Contains rest y) e h))
      | inr there ↦ there
    ]) in
    IsPermutation-trans (x ∷ xs) (x ∷ rest) ys (IsPermutation-cons x xs rest same) (IsPermutation-sym ys (x ∷ rest) moved)

-- no two places have one item
pub once_by_place : (xs : List ℕ) → ((p q x : ℕ) → slice_get xs p ≡ Some x → slice_get xs q ≡ Some x → p ≡ q) → AreOnce xs
once_by_place [] h = tt
once_by_place (x ∷ xs) h = (
  λ k.
      let place : (p : ℕ) × (slice_get xs p ≡ Some x) = place_of xs x k in
      let no : zero ≡ suc place.0 = h zero (suc place.0) x refl place.1 in
      omega (arith, no),
  once_by_place xs (λ p q y a b. let same : suc p ≡ suc q = h (suc p) (suc q) y a b in omega (arith, same)),
)

-- ---- numbers

pub equal_sizes : (a b : ℕ) → (a == b) ≡ true → a ≡ b
equal_sizes a b e = grind (arith, e)

pub equal_same : (a : ℕ) → (a == a) ≡ true
equal_same a = grind arith
