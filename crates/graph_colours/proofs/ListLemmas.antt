-- A list with one more member, and one without a member.
use Rattle.std.proofs.Common.{◌≡◌, ℕ, suc, ◌<◌, ◌≤◌, ◌==◌, ◌||◌, Bool, true, false, not, List, [], ◌∷◌, ◌++◌, get_or, nat_lt, refl, sym, ap, ◌∙◌, arith, ltb-true, ltb-false}
use Rattle.std.specs.List.{All, AllPairs, list_any}
use Rattle.std.specs.List.Sorted.{IsPermutation}
use Rattle.std.proofs.lemmas.List.Elements.{All-nil, All-cons, All-head, All-tail}
use Rattle.std.proofs.lemmas.List.Kept.{AllPairs-cons, AllPairs-filter}
use Rattle.std.proofs.lemmas.List.Sorted.{IsPermutation-refl, IsPermutation-cons, IsPermutation-trans}
use Rattle.graph_colours.specs.declared.member.Member.{Member}
use Rattle.graph_colours.specs.Movers.{shares}
use Rattle.graph_colours.specs.Members.{AreRising, AreApart, is_free, inserted, without_member}
use Rattle.graph_colours.specs.FoundMembers.{has_id}
use Rattle.graph_colours.proofs.Cases.{by_test, or_swaps, or_left, or_right, not_true}
use Rattle.graph_colours.proofs.MoverLemmas.{shares_back}
use Rattle.graph_colours.proofs.PlaceLemmas.{is_same}

pub pairs_none : {X : Type 0} (R : X → X → Type 0) → AllPairs R []
pairs_none R i j d lt l = absurd (omega arith)

pub pairs_head : {X : Type 0} (R : X → X → Type 0) (x : X) (xs : List X) → AllPairs R (x ∷ xs) → All (R x) xs
pairs_head R x xs h k d lt = h 0 (suc k) d (omega arith) (omega arith)

pub pairs_tail : {X : Type 0} (R : X → X → Type 0) (x : X) (xs : List X) → AllPairs R (x ∷ xs) → AllPairs R xs
pairs_tail R x xs h i j d lt l = h (suc i) (suc j) d (omega arith) (omega arith)

pub all_inserted : {C : Type 0} (number : C → ℕ) (P : Member C → Type 0) (m : Member C) (xs : List (Member C)) → P m → All P xs → All P (inserted number m xs)
all_inserted number P m [] here rest = All-cons P m [] here rest
all_inserted number P m (x ∷ xs) here rest = by_test (λ l. All P l) (nat_lt (number x.id) (number m.id)) (x ∷ inserted number m xs) (m ∷ x ∷ xs)
    (λ q. All-cons P x (inserted number m xs) (All-head P x xs rest) (all_inserted number P m xs here (All-tail P x xs rest)))
    (λ q. All-cons P m (x ∷ xs) here rest)

-- what holds between the new member and the others, on either side of it
pub pairs_inserted : {C : Type 0} (number : C → ℕ) (R : Member C → Member C → Type 0) (m : Member C) (xs : List (Member C)) → AreRising number xs → AllPairs R xs → All (λ x. number x.id < number m.id → R x m) xs → All (λ x. number m.id ≤ number x.id → R m x) xs → AllPairs R (inserted number m xs)
pairs_inserted number R m [] rising pairs before after = AllPairs-cons R m [] (All-nil (R m)) (pairs_none R)
pairs_inserted {C} number R m (x ∷ xs) rising pairs before after =
    let Before : Member C → Type 0 = λ y. number y.id < number m.id → R y m in
    let After : Member C → Type 0 = λ y. number m.id ≤ number y.id → R m y in
    by_test (λ l. AllPairs R l) (nat_lt (number x.id) (number m.id)) (x ∷ inserted number m xs) (m ∷ x ∷ xs)
    (λ q. let lt : number x.id < number m.id = ltb-true _ _ q in
    AllPairs-cons R x (inserted number m xs) (all_inserted number (R x) m xs (All-head Before x xs before lt) (pairs_head R x xs pairs))
    (pairs_inserted number R m xs (pairs_tail (λ y z. number y.id < number z.id) x xs rising) (pairs_tail R x xs pairs) (All-tail Before x xs before) (All-tail After x xs after)))
    (λ q. let le : number m.id ≤ number x.id = ltb-false _ _ q in
    AllPairs-cons R m (x ∷ xs) (All-cons (R m) x xs (All-head After x xs after le)
    (λ k d lt. let up : number x.id < number (get_or xs k d).id = rising 0 (suc k) d (omega arith) (omega arith) in after (suc k) d (omega arith) (omega arith)))
    pairs)

pub any_inserted : {C : Type 0} (number : C → ℕ) (p : Member C → Bool) (m : Member C) (xs : List (Member C)) → list_any p (inserted number m xs) ≡ (p m || list_any p xs)
any_inserted number p m [] = refl
any_inserted number p m (x ∷ xs) = by_test (λ l. list_any p l ≡ (p m || (p x || list_any p xs))) (nat_lt (number x.id) (number m.id)) (x ∷ inserted number m xs) (m ∷ x ∷ xs)
    (λ q. ap (λ t. p x || t) (any_inserted number p m xs) ∙ or_swaps (p x) (p m) (list_any p xs))
    (λ q. refl)

pub moved_front : {X : Type 0} (m x : X) (xs : List X) → IsPermutation (m ∷ x ∷ xs) (x ∷ m ∷ xs)
moved_front m x xs = record { moves = (0, 1) ∷ []; below = search arith; is = refl }

pub moved_behind : {X : Type 0} (m : X) (xs ys : List X) → IsPermutation (m ∷ (xs ++ ys)) (xs ++ (m ∷ ys))
moved_behind m [] ys = IsPermutation-refl (m ∷ ys)
moved_behind m (x ∷ xs) ys = IsPermutation-trans (m ∷ x ∷ (xs ++ ys)) (x ∷ m ∷ (xs ++ ys)) (x ∷ (xs ++ (m ∷ ys))) (moved_front m x (xs ++ ys)) (IsPermutation-cons x (m ∷ (xs ++ ys)) (xs ++ (m ∷ ys)) (moved_behind m xs ys))

pub same_inserted : {C : Type 0} (number : C → ℕ) (m : Member C) (xs : List (Member C)) → IsPermutation (m ∷ xs) (inserted number m xs)
same_inserted number m [] = IsPermutation-refl (m ∷ [])
same_inserted number m (x ∷ xs) = by_test (λ l. IsPermutation (m ∷ x ∷ xs) l) (nat_lt (number x.id) (number m.id)) (x ∷ inserted number m xs) (m ∷ x ∷ xs)
    (λ q. IsPermutation-trans (m ∷ x ∷ xs) (x ∷ m ∷ xs) (x ∷ inserted number m xs) (moved_front m x xs) (IsPermutation-cons x (m ∷ xs) (inserted number m xs) (same_inserted number m xs)))
    (λ q. IsPermutation-refl (m ∷ x ∷ xs))

pub any_false : {X : Type 0} (p : X → Bool) (xs : List X) → list_any p xs ≡ false → All (λ x. p x ≡ false) xs
any_false p [] h = All-nil (λ x. p x ≡ false)
any_false {X} p (x ∷ xs) h = All-cons (λ y. p y ≡ false) x xs (or_left (p x) (list_any p xs) h) (any_false p xs (or_right (p x) (list_any p xs) h))

pub rising_inserted : {C : Type 0} (number : C → ℕ) (m : Member C) (xs : List (Member C)) → AreRising number xs → has_id number m.id xs ≡ false → AreRising number (inserted number m xs)
unfolding has_id
rising_inserted {C} number m xs rising absent =
    let none : All (λ x. (number x.id == number m.id) ≡ false) xs = any_false (λ x. number x.id == number m.id) xs absent in
    pairs_inserted number (λ x y. number x.id < number y.id) m xs rising rising (λ k d lt h. h)
    (λ k d lt h. let other : (number (get_or xs k d).id == number m.id) ≡ false = none k d lt in
    let apart : number (get_or xs k d).id ≡ number m.id → ⊥ = λ q. let s : (number (get_or xs k d).id == number m.id) ≡ true = is_same _ _ q in let wrong : true ≡ false = sym s ∙ other in cc in
    omega (arith, apart))

pub apart_inserted : {C : Type 0} (number : C → ℕ) (m : Member C) (xs : List (Member C)) → AreRising number xs → AreApart xs → is_free xs m.movers ≡ true → AreApart (inserted number m xs)
unfolding is_free
apart_inserted number m xs rising apart free =
    let none : All (λ x. shares x.movers m.movers ≡ false) xs = any_false (λ x. shares x.movers m.movers) xs (not_true (list_any (λ x. shares x.movers m.movers) xs) free) in
    pairs_inserted number (λ x y. shares x.movers y.movers ≡ false) m xs rising apart (λ k d lt h. none k d lt)
    (λ k d lt h. shares_back m.movers (get_or xs k d).movers ∙ none k d lt)

pub rising_without : {C : Type 0} (number : C → ℕ) (id : C) (xs : List (Member C)) → AreRising number xs → AreRising number (without_member number id xs)
unfolding without_member
rising_without number id xs rising = AllPairs-filter (λ x y. number x.id < number y.id) (λ m. not (number m.id == number id)) xs rising

pub apart_without : {C : Type 0} (number : C → ℕ) (id : C) (xs : List (Member C)) → AreApart xs → AreApart (without_member number id xs)
unfolding without_member
apart_without number id xs apart = AllPairs-filter (λ x y. shares x.movers y.movers ≡ false) (λ m. not (number m.id == number id)) xs apart
