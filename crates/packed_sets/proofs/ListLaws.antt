-- Lists by place: appended to, changed at one place, and with one id swapped out.
use Rattle.std.proofs.Common.{◌≡◌, ◌≢◌, ◌⊎◌, ℕ, zero, suc, ◌+◌, ◌-◌, ◌<◌, List, [], ◌∷◌, ◌++◌, length, slice_set, take, refl, ap, sym, subst, ◌∙◌, arith, inl, inr, Option, Some, None}
use Rattle.std.specs.Prelude.{slice_get, slice_index_or}
use Rattle.std.specs.List.{Contains, swap_remove}
use Rattle.std.specs.List.Sorted.{IsPermutation}
use Rattle.std.proofs.lemmas.Bool.{cases_lt}
use Rattle.std.proofs.lemmas.List.{length-append, length-set, length-take-le}
use Rattle.std.proofs.lemmas.List.Sorted.{IsPermutation-swap_remove}
use Rattle.std.proofs.lemmas.Option.{slice_get_within, slice_get-get_or, get_or_from_slice_get}
use Rattle.packed_sets.specs.Notes.{IsSwappedOut}

abbrev unwrapped : {X : Type 0} → X → Option X → X
unwrapped d None = d
unwrapped d (Some x) = x

pub same_inside : {X : Type 0} (x y : X) → Some x ≡ Some y → x ≡ y
same_inside x y e = ap (unwrapped x) e

abbrev is_none : {X : Type 0} → Option X → ℕ
is_none None = 1
is_none (Some x) = 0

pub none_not_some : {X : Type 0} (x : X) → None ≡ Some x → ⊥
none_not_some x e = let no : 1 ≡ 0 = ap is_none e in omega (arith, no)

-- ---- members and places

pub place_of : {X : Type 0} (xs : List X) (x : X) → Contains xs x → (k : ℕ) × (slice_get xs k ≡ Some x)
place_of xs x h = (h.0, slice_get-get_or xs h.0 x h.1 ∙ ap (λ y. Some y) h.2)

pub member_at : {X : Type 0} (xs : List X) (k : ℕ) (x : X) → slice_get xs k ≡ Some x → Contains xs x
member_at xs k x e = (k, slice_get_within xs k x e, get_or_from_slice_get xs k x x e)

-- ---- one place changed

pub got_set : {X : Type 0} (xs : List X) (i : ℕ) (y : X) → i < length xs → slice_get (slice_set xs i y) i ≡ Some y
got_set [] i y lt = absurd (omega (arith, lt))
got_set (x ∷ xs) zero y lt = refl
got_set (x ∷ xs) (suc i) y lt = got_set xs i y (omega (arith, lt))

pub got_other : {X : Type 0} (xs : List X) (i j : ℕ) (y : X) → j ≢ i → slice_get (slice_set xs i y) j ≡ slice_get xs j
got_other [] i j y d = refl
got_other (x ∷ xs) zero zero y d = absurd (d refl)
got_other (x ∷ xs) zero (suc j) y d = refl
got_other (x ∷ xs) (suc i) zero y d = refl
got_other (x ∷ xs) (suc i) (suc j) y d = got_other xs i j y (λ e. d (ap suc e))

-- ---- one more at the end

pub got_front : {X : Type 0} (xs ys : List X) (i : ℕ) → i < length xs → slice_get (xs ++ ys) i ≡ slice_get xs i
got_front [] ys i lt = absurd (omega (arith, lt))
got_front (x ∷ xs) ys zero lt = refl
got_front (x ∷ xs) ys (suc i) lt = got_front xs ys i (omega (arith, lt))

pub got_last : {X : Type 0} (xs : List X) (y : X) → slice_get (xs ++ y ∷ []) (length xs) ≡ Some y
got_last [] y = refl
got_last (x ∷ xs) y = got_last xs y

-- what stands in a list with one more: an old one at its place, or the new one behind them
pub more_cases : {X : Type 0} (xs : List X) (y : X) (i : ℕ) (x : X) → slice_get (xs ++ y ∷ []) i ≡ Some x → ((i < length xs) × (slice_get xs i ≡ Some x)) ⊎ ((i ≡ length xs) × (x ≡ y))
more_cases xs y i x e =
    let long : length (xs ++ y ∷ []) ≡ length xs + 1 = length-append xs (y ∷ []) in
    let within : i < length (xs ++ y ∷ []) = slice_get_within (xs ++ y ∷ []) i x e in
    elim (cases_lt i (length xs)) [
      | inl lt ↦ inl (lt, sym (got_front xs (y ∷ []) i lt) ∙ e)
      | inr ge ↦
          let at : i ≡ length xs = omega (arith, ge, within, long) in
          let there : slice_get (xs ++ y ∷ []) (length xs) ≡ Some x = subst (λ (k : ℕ). slice_get (xs ++ y ∷ []) k ≡ Some x) at e in
          inr (at, same_inside x y (sym there ∙ got_last xs y))
    ]

-- ---- one id swapped out

got_taken : {X : Type 0} (xs : List X) (n k : ℕ) → k < n → slice_get (take n xs) k ≡ slice_get xs k
got_taken xs zero k lt = absurd (omega (arith, lt))
got_taken [] (suc n) k lt = refl
got_taken (x ∷ xs) (suc n) zero lt = refl
got_taken (x ∷ xs) (suc n) (suc k) lt = got_taken xs n k (omega (arith, lt))

pub swapped_out : {X : Type 0} (xs : List X) (p : ℕ) (x : X) (rest : List X) → p < length xs → x ≡ slice_index_or xs p x → rest ≡ swap_remove xs p x → IsSwappedOut xs rest p x
swapped_out {X} xs p x rest lt is e =
    let n : ℕ = length xs - 1 in
    let changed : List X = slice_set xs p (slice_index_or xs n x) in
    let long : length changed ≡ length xs = length-set xs p (slice_index_or xs n x) in
    let short : length (take n changed) ≡ n = length-take-le n changed (omega (arith, long)) in
    let lengths : length rest ≡ n = ap (λ (l : List X). length l) e ∙ short in
    record {
      there = slice_get-get_or xs p x lt ∙ ap (λ y. Some y) (sym is);
      same = subst (λ (l : List X). IsPermutation xs (x ∷ l)) (sym e) (IsPermutation-swap_remove xs p x lt is);
      short = omega (arith, lengths, lt);
      stays = λ q other less. ap (λ (l : List X). slice_get l q) e ∙ got_taken changed n q (omega (arith, less, lengths)) ∙ got_other xs p q (slice_index_or xs n x) other;
      moved = λ less. ap (λ (l : List X). slice_get l p) e ∙ got_taken changed n p (omega (arith, less, lengths)) ∙ got_set xs p (slice_index_or xs n x) lt ∙ sym (slice_get-get_or xs n x (omega (arith, lt))) ∙ ap (slice_get xs) (sym lengths);
    }
