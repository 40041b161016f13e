-- What is in a list, by recursion on the list, and how that agrees with places.
use Rattle.std.proofs.Common.{◌≡◌, ℕ, zero, suc, ◌<◌, List, [], ◌∷◌, ◌++◌, length, get_or, Bool, true, false, cond, ◌⊎◌, inl, inr, refl, sym, arith}
use Rattle.std.specs.List.{Contains, All}

abbrev pub Each : {X : Type 0} → (X → Type 0) → List X → Type 0
Each P [] = Unit {0}
Each P (x ∷ xs) = P x × Each P xs

abbrev pub IsIn : {X : Type 0} → X → List X → Type 0
IsIn e [] = ⊥
IsIn e (x ∷ xs) = (e ≡ x) ⊎ IsIn e xs

pub each_in : {X : Type 0} (P : X → Type 0) (e : X) (xs : List X) → Each P xs → IsIn e xs → P e
each_in P e [] a h = absurd h
each_in P e (x ∷ xs) a h = elim h [ inl p ↦ rw p a.0 | inr q ↦ each_in P e xs a.1 q ]

pub each_from : {X : Type 0} (P : X → Type 0) (xs : List X) → ((x : X) → IsIn x xs → P x) → Each P xs
each_from P [] h = tt
each_from P (x ∷ xs) h = (h x (inl refl), each_from P xs (λ y q. h y (inr q)))

pub each_append : {X : Type 0} (P : X → Type 0) (xs ys : List X) → Each P xs → Each P ys → Each P (xs ++ ys)
each_append P [] ys a b = b
each_append P (x ∷ xs) ys a b = (a.0, each_append P xs ys a.1 b)

pub in_append : {X : Type 0} (e : X) (xs ys : List X) → IsIn e (xs ++ ys) → IsIn e xs ⊎ IsIn e ys
in_append e [] ys h = inr h
in_append e (x ∷ xs) ys h = elim h [ inl p ↦ inl (inl p) | inr q ↦ elim (in_append e xs ys q) [ inl a ↦ inl (inr a) | inr b ↦ inr b ] ]

pub in_left : {X : Type 0} (e : X) (xs ys : List X) → IsIn e xs → IsIn e (xs ++ ys)
in_left e [] ys h = absurd h
in_left e (x ∷ xs) ys h = elim h [ inl p ↦ inl p | inr q ↦ inr (in_left e xs ys q) ]

pub in_right : {X : Type 0} (e : X) (xs ys : List X) → IsIn e ys → IsIn e (xs ++ ys)
in_right e [] ys h = h
in_right e (x ∷ xs) ys h = inr (in_right e xs ys h)

-- ---- an element that a test lets in

pub in_passed : {X : Type 0} (e x : X) (t : Bool) (xs : List X) → IsIn e xs → IsIn e (cond t (x ∷ xs) xs)
in_passed e x true xs h = inr h
in_passed e x false xs h = h

pub in_new : {X : Type 0} (e x : X) (t : Bool) (xs : List X) → t ≡ true → e ≡ x → IsIn e (cond t (x ∷ xs) xs)
in_new e x true xs h p = inl p
in_new e x false xs h p = cc

-- ---- places

pub in_from_place : {X : Type 0} (e : X) (xs : List X) (k : ℕ) → k < length xs → get_or xs k e ≡ e → IsIn e xs
in_from_place e [] k lt h = absurd (omega arith)
in_from_place e (x ∷ xs) zero lt h = inl (sym h)
in_from_place e (x ∷ xs) (suc k) lt h = inr (in_from_place e xs k (omega arith) h)

pub in_from_contains : {X : Type 0} (xs : List X) (e : X) → Contains xs e → IsIn e xs
in_from_contains xs e h = in_from_place e xs h.0 h.1 h.2

pub contains_from_in : {X : Type 0} (xs : List X) (e : X) → IsIn e xs → Contains xs e
contains_from_in [] e h = absurd h
contains_from_in (x ∷ xs) e h =
    elim h [
      | inl p ↦ (0, omega arith, sym p)
      | inr q ↦ let r : Contains xs e = contains_from_in xs e q in (suc r.0, omega (arith, r.1), r.2)
    ]

pub all_from_each : {X : Type 0} (P : X → Type 0) (xs : List X) → Each P xs → All P xs
all_from_each P [] a k d lt = absurd (omega arith)
all_from_each P (x ∷ xs) a zero d lt = a.0
all_from_each P (x ∷ xs) a (suc k) d lt = all_from_each P xs a.1 k d (omega arith)
