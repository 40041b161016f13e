-- Lists of numbers that rise: two with the same members are equal.
use Rattle.std.proofs.Common.{◌≡◌, ℕ, zero, suc, ◌<◌, ◌≤◌, List, [], ◌∷◌, ◌++◌, length, get_or, Bool, true, false, cond, inl, inr, refl, sym, arith, add-one}
use Rattle.std.specs.List.Sorted.{IsStrictlyIncreasing}
use Rattle.std.proofs.lemmas.List.Kept.{AllPairs-from_increasing}
use Rattle.contacts_base.proofs.Members.{Each, IsIn, each_in, each_append}

abbrev pub IsRising : List ℕ → Type 0
IsRising [] = Unit {0}
IsRising (x ∷ xs) = Each (λ y. x < y) xs × IsRising xs

least : (x y : ℕ) (ys : List ℕ) → Each (λ z. y < z) ys → IsIn x (y ∷ ys) → y ≤ x
least x y ys a h = elim h [ inl p ↦ omega arith | inr q ↦ let k : y < x = each_in (λ z. y < z) x ys a q in omega arith ]

later : (x k : ℕ) (xs ys : List ℕ) → Each (λ y. x < y) xs → IsIn k xs → IsIn k (x ∷ ys) → IsIn k ys
later x k xs ys a i h = elim h [ inl p ↦ let q : x < k = each_in (λ y. x < y) k xs a i in absurd (omega arith) | inr q ↦ q ]

pub same_rising : (xs ys : List ℕ) → IsRising xs → IsRising ys → ((k : ℕ) → IsIn k xs → IsIn k ys) → ((k : ℕ) → IsIn k ys → IsIn k xs) → xs ≡ ys
same_rising [] [] a b f g = refl
same_rising [] (y ∷ ys) a b f g = absurd (g y (inl refl))
same_rising (x ∷ xs) [] a b f g = absurd (f x (inl refl))
same_rising (x ∷ xs) (y ∷ ys) a b f g =
    let p : y ≤ x = least x y ys b.0 (f x (inl refl)) in
    let q : x ≤ y = least y x xs a.0 (g y (inl refl)) in
    let e : x ≡ y = omega arith in
    let u : (k : ℕ) → IsIn k xs → IsIn k ys = λ k i. later x k xs ys a.0 i (rw (sym e) at (f k (inr i))) in
    let v : (k : ℕ) → IsIn k ys → IsIn k xs = λ k i. later y k ys xs b.0 i (rw e at (g k (inr i))) in
    cc (same_rising xs ys a.1 b.1 u v, e)

each_above : (b x : ℕ) (ys : List ℕ) → x < b → Each (λ y. b ≤ y) ys → Each (λ y. x < y) ys
each_above b x [] p a = tt
each_above b x (y ∷ ys) p a = let q : b ≤ y = a.0 in (omega arith, each_above b x ys p a.1)

pub rising_append : (b : ℕ) (xs ys : List ℕ) → IsRising xs → IsRising ys → Each (λ x. x < b) xs → Each (λ y. b ≤ y) ys → IsRising (xs ++ ys)
rising_append b [] ys r s low high = s
rising_append b (x ∷ xs) ys r s low high =
    let p : x < b = low.0 in
    (each_append (λ y. x < y) xs ys r.0 (each_above b x ys p high), rising_append b xs ys r.1 s low.1 high)

pub rising_passed : (x : ℕ) (t : Bool) (xs : List ℕ) → Each (λ y. x < y) xs → IsRising xs → IsRising (cond t (x ∷ xs) xs)
rising_passed x true xs a r = (a, r)
rising_passed x false xs a r = r

-- ---- by places

head_below : (x : ℕ) (xs : List ℕ) (k : ℕ) → Each (λ y. x < y) xs → k < length xs → x < get_or xs k 0
head_below x [] k a lt = absurd (omega arith)
head_below x (y ∷ ys) zero a lt = a.0
head_below x (y ∷ ys) (suc k) a lt = head_below x ys k a.1 (omega arith)

pub increasing_from_rising : (xs : List ℕ) → IsRising xs → IsStrictlyIncreasing xs
increasing_from_rising [] r k lt = absurd (omega arith)
increasing_from_rising (x ∷ xs) r zero lt = head_below x xs 0 r.0 (omega arith)
increasing_from_rising (x ∷ xs) r (suc k) lt = rw add-one (rw add-one at (increasing_from_rising xs r.1 k (omega arith)))

each_from_places : (x : ℕ) (xs : List ℕ) → ((k : ℕ) → k < length xs → x < get_or xs k 0) → Each (λ y. x < y) xs
each_from_places x [] h = tt
each_from_places x (y ∷ ys) h = (h 0 (omega arith), each_from_places x ys (λ k lt. h (suc k) (omega arith)))

pub rising_from_increasing : (xs : List ℕ) → IsStrictlyIncreasing xs → IsRising xs
rising_from_increasing [] r = tt
rising_from_increasing (x ∷ xs) r = (
  each_from_places x xs (λ k lt. AllPairs-from_increasing (x ∷ xs) r 0 (suc k) 0 (omega arith) (omega arith)),
  rising_from_increasing xs (λ k lt. rw add-one (rw add-one at (r (suc k) (omega arith)))),
)
