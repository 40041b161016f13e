-- Numbers below a bound, of which no two are the same, are no more than the bound; and what is read past the end of a
-- list.
use Rattle.std.proofs.Common.{◌≡◌, ◌≢◌, ℕ, zero, suc, ◌<◌, ◌≤◌, ◌==◌, ◌++◌, List, [], ◌∷◌, length, replicate, cond, refl, sym, ◌∙◌, arith, inl, inr}
use Rattle.std.specs.List.{slice_index_or}
use Rattle.std.proofs.lemmas.Bool.{cases_eq}

-- the one number in place of another
abbrev swapped : ℕ → ℕ → ℕ → ℕ
swapped n v y = cond (y == n) v y

swapped_at : (n v y : ℕ) → y ≡ n → swapped n v y ≡ v
swapped_at n v y e = grind (arith, e)

swapped_off : (n v y : ℕ) → y ≢ n → swapped n v y ≡ y
swapped_off n v y d = grind (arith, d)

pub no_more : (n m : ℕ) (f : ℕ → ℕ) → ((k : ℕ) → k < m → f k < n) → ((j k : ℕ) → j < m → k < m → f j ≡ f k → j ≡ k) → m ≤ n
no_more n zero f below apart = omega arith
no_more zero (suc m) f below apart = let lt : f m < 0 = below m (omega arith) in absurd (omega (arith, lt))
no_more (suc n) (suc m) f below apart =
    let last : f m < suc n = below m (omega arith) in
    let rest : m ≤ n = no_more n m (λ k. swapped n (f m) (f k))
    (λ k lt. elim (cases_eq (f k) n) [
      | inl e ↦
          let off : f m ≢ n = λ same. let at : m ≡ k = apart m k (omega arith) (omega (arith, lt)) (same ∙ sym e) in omega (arith, at, lt) in
          let is : swapped n (f m) (f k) ≡ f m = swapped_at n (f m) (f k) e in
          omega (arith, last, off, is)
      | inr d ↦
          let less : f k < suc n = below k (omega (arith, lt)) in
          let is : swapped n (f m) (f k) ≡ f k = swapped_off n (f m) (f k) d in
          omega (arith, less, d, is)
    ])
    (λ j k lt less same. elim (cases_eq (f j) n) [
      | inl e ↦ elim (cases_eq (f k) n) [
        | inl g ↦ apart j k (omega (arith, lt)) (omega (arith, less)) (e ∙ sym g)
        | inr d ↦
            let at : f m ≡ f k = sym (swapped_at n (f m) (f j) e) ∙ same ∙ swapped_off n (f m) (f k) d in
            let is : m ≡ k = apart m k (omega arith) (omega (arith, less)) at in
            absurd (omega (arith, is, less))
      ]
      | inr c ↦ elim (cases_eq (f k) n) [
        | inl g ↦
            let at : f j ≡ f m = sym (swapped_off n (f m) (f j) c) ∙ same ∙ swapped_at n (f m) (f k) g in
            let is : j ≡ m = apart j m (omega (arith, lt)) (omega arith) at in
            absurd (omega (arith, is, lt))
        | inr d ↦ apart j k (omega (arith, lt)) (omega (arith, less)) (sym (swapped_off n (f m) (f j) c) ∙ same ∙ swapped_off n (f m) (f k) d)
      ]
    ]) in
    omega (arith, rest)

-- past the end of a list there is what is asked for
pub padded : {X : Type 0} (xs : List X) (n k : ℕ) (d : X) → slice_index_or (xs ++ replicate n d) k d ≡ slice_index_or xs k d
padded {X} [] n k d = none_behind n k
  where
    none_behind : (n k : ℕ) → slice_index_or (replicate n d) k d ≡ d
    none_behind zero k = refl
    none_behind (suc n) zero = refl
    none_behind (suc n) (suc k) = none_behind n k
padded (x ∷ xs) n zero d = refl
padded (x ∷ xs) n (suc k) d = padded xs n k d

-- within a list it doesn't matter what is asked for past its end
pub any_default : {X : Type 0} (xs : List X) (k : ℕ) (d e : X) → k < length xs → slice_index_or xs k d ≡ slice_index_or xs k e
any_default [] k d e lt = absurd (omega (arith, lt))
any_default (x ∷ xs) zero d e lt = refl
any_default (x ∷ xs) (suc k) d e lt = any_default xs k d e (omega (arith, lt))

-- what was read at a place is what stands there
pub read_at : (xs : List ℕ) (k v d : ℕ) → k < length xs → v ≡ slice_index_or xs k v → v ≡ slice_index_or xs k d
read_at xs k v d lt e = e ∙ any_default xs k v d lt
