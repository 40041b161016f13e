-- Lists of numbers that rise are equal where they have the same numbers.
use Rattle.std.proofs.Common.{◌≡◌, ℕ, ◌<◌, ◌≤◌, List, [], ◌∷◌, inl, inr, refl, sym, arith}
use Rattle.box_tree_base.specs.Lists.{Each, IsIn}
use Rattle.box_tree_base.proofs.ListLemmas.{each_in}

abbrev pub IsRising : List ℕ → Type 0
IsRising [] = Unit {0}
IsRising (x ∷ xs) = Each (λ y. x < y) xs × IsRising xs

least : (x y : ℕ) (ys : List ℕ) → Each (λ z. y < z) ys → IsIn x (y ∷ ys) → y ≤ x
least x y ys a h = elim h [ inl p ↦ omega arith | inr q ↦ let k : y < x = each_in (λ z. y < z) x ys a q in omega arith ]

later : (x k : ℕ) (xs ys : List ℕ) → Each (λ y. x < y) xs → IsIn k xs → IsIn k (x ∷ ys) → IsIn k ys
later x k xs ys a i h = elim h [ inl p ↦ let q : x < k = each_in (λ y. x < y) k xs a i in absurd (omega arith) | inr q ↦ q ]

pub same_rising : (xs ys : List ℕ) → IsRising xs → IsRising ys → ((k : ℕ) → IsIn k xs → IsIn k ys) → ((k : ℕ) → IsIn k ys → IsIn k xs) → xs ≡ ys
same_rising [] [] a b f g = refl
same_rising [] (y ∷ ys) a b f g = absurd (g y (inl refl))
same_rising (x ∷ xs) [] a b f g = absurd (f x (inl refl))
same_rising (x ∷ xs) (y ∷ ys) a b f g =
    let p : y ≤ x = least x y ys b.0 (f x (inl refl)) in
    let q : x ≤ y = least y x xs a.0 (g y (inl refl)) in
    let e : x ≡ y = omega arith in
    let u : (k : ℕ) → IsIn k xs → IsIn k ys = λ k i. later x k xs ys a.0 i (rw (sym e) at (f k (inr i))) in
    let v : (k : ℕ) → IsIn k ys → IsIn k xs = λ k i. later y k ys xs b.0 i (rw e at (g k (inr i))) in
    cc (same_rising xs ys a.1 b.1 u v, e)
