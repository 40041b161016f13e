-- Beginnings of one list.
use Rattle.std.proofs.Common.{◌≡◌, ℕ, ◌+◌, ◌≤◌, ◌<◌, Bool, true, false, List, [], ◌∷◌, length, refl, arith, MatchBool}
use Rattle.std.proofs.lemmas.Bool.Decides.{nat_tests}
use mathlib.Core.List.{IsPrefix}
use lib.Dec.{leb}

-- of two beginnings of a list, the shorter begins the longer
shorter_begins : {A : Type 0} (xs ys all : List A) → IsPrefix xs all → IsPrefix ys all → length xs ≤ length ys → IsPrefix xs ys
shorter_begins [] ys all p q le = (ys, refl)
shorter_begins (x ∷ xs) [] all p q le = absurd (omega arith)
shorter_begins (x ∷ xs) (y ∷ ys) [] p q le = absurd (cc (p.1))
shorter_begins (x ∷ xs) (y ∷ ys) (z ∷ all) p q le =
    let first : x ≡ y = cc (p.1, q.1) in
    let rest = shorter_begins xs ys all (p.0, cc (p.1)) (q.0, cc (q.1)) (omega arith) in
    (rest.0, cc (first, rest.1))

-- a beginning that is no shorter than the list is the list
pub whole_beginning : {A : Type 0} (xs all : List A) → IsPrefix xs all → length all ≤ length xs → xs ≡ all
whole_beginning [] [] p le = refl
whole_beginning [] (z ∷ all) p le = absurd (omega arith)
whole_beginning (x ∷ xs) [] p le = absurd (cc (p.1))
whole_beginning (x ∷ xs) (z ∷ all) p le =
    let rest = whole_beginning xs all (p.0, cc (p.1)) (omega arith) in cc (p.1, rest)

-- of two beginnings of a list, the one whose last place is no earlier covers the other; else the other is longer and
-- covers it
pub covering : {A : Type 0} (xs ys all : List A) (a b : ℕ) → IsPrefix xs all → IsPrefix ys all → length xs ≡ a + 1 → length ys ≡ b + 1
    → (t : Bool) → leb b a ≡ t → MatchBool t (IsPrefix ys xs) (IsPrefix xs ys × (length xs < length ys))
covering xs ys all a b p q long_x long_y true is = let le : b ≤ a = grind (arith, nat_tests) in shorter_begins ys xs all q p (omega arith)
covering xs ys all a b p q long_x long_y false is = let lt : a < b = grind (arith, nat_tests) in (shorter_begins xs ys all p q (omega arith), omega arith)
