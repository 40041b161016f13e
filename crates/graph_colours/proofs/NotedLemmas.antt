-- A list that ascends is told by which member each number has, and so are edits of it that are put off.
use Rattle.std.proofs.Common.{◌≡◌, ℕ, zero, suc, ◌+◌, ◌<◌, ◌≤◌, ◌==◌, ◌||◌, Bool, true, false, not, cond, List, [], ◌∷◌, length, get_or, drop, nat_lt, slice_set, subst, Option, Some, None, refl, sym, ap, ◌∙◌, arith, inl, inr}
use Rattle.std.specs.List.{All, AllWithin, AllPairs, insert}
use Rattle.std.specs.List.Sorted.{IsNonDecreasingBy}
use Rattle.std.specs.Option.{is_some, option_map}
use Rattle.std.proofs.lemmas.Bool.{cases_eq}
use Rattle.std.proofs.lemmas.List.Elements.{All-nil, All-cons, All-head, All-tail}
use Rattle.std.proofs.lemmas.List.Kept.{AllPairs-cons}
use Rattle.std.proofs.lemmas.List.{get_or_default}
use Rattle.graph_colours.specs.declared.member.Movers.{Movers}
use Rattle.graph_colours.specs.declared.member.Member.{Member}
use Rattle.graph_colours.specs.declared.edits.Edit.{Edit}
use Rattle.graph_colours.specs.Members.{AreRising, inserted, without_member}
use Rattle.graph_colours.specs.FoundMembers.{has_id, movers_of, with_number}
use Rattle.graph_colours.specs.Edits.{edit_number, put, edited, all_edited, edit_with, is_edit_at, noted, AreInOrder, IsEdited}
use Rattle.graph_colours.proofs.Cases.{by_test, true_or_false, not_true, not_false}
use Rattle.graph_colours.proofs.PlaceLemmas.{is_lower, not_lower, is_same, not_same, same_from, without_none, without_same}
use Rattle.graph_colours.proofs.ListLemmas.{pairs_none, pairs_head, pairs_tail}
use Rattle.graph_colours.proofs.EditLemmas.{edited_rising}

-- ---- what a test says

lower_from : (a b : ℕ) → nat_lt a b ≡ true → a < b
lower_from a b q = let far : b ≤ a → ⊥ = λ le. true_or_false (nat_lt a b) q (not_lower a b le) in omega (arith, far)

higher_from : (a b : ℕ) → nat_lt a b ≡ false → (a == b) ≡ false → b < a
higher_from a b q s =
    let low : a < b → ⊥ = λ lt. true_or_false (nat_lt a b) (is_lower a b lt) q in
    let off : a ≡ b → ⊥ = λ e. true_or_false (a == b) (is_same a b e) s in
    omega (arith, low, off)

-- ---- which member has a number

-- none of those that come later has it
pub none_with : {C : Type 0} (number : C → ℕ) (n : ℕ) (ms : List (Member C)) → All (λ m. n < number m.id) ms → with_number number n ms ≡ None
none_with number n [] up = refl
none_with {C} number n (x ∷ xs) up =
    let P : Member C → Type 0 = λ m. n < number m.id in
    let lt : n < number x.id = All-head P x xs up in
    rw (not_same (number x.id) n (λ s. omega (arith, lt, s))) (none_with number n xs (All-tail P x xs up))

with_inserted : {C : Type 0} (number : C → ℕ) (n : ℕ) (m : Member C) (ms : List (Member C)) → with_number number n (inserted number m ms) ≡ cond (number m.id == n) (Some m) (with_number number n ms)
with_inserted number n m [] = refl
with_inserted {C} number n m (x ∷ xs) = by_test (λ (l : List (Member C)). with_number number n l ≡ cond (number m.id == n) (Some m) (with_number number n (x ∷ xs))) (nat_lt (number x.id) (number m.id)) (x ∷ inserted number m xs) (m ∷ x ∷ xs)
    (λ q. lower_first number n m x xs q (with_inserted number n m xs))
    (λ q. refl)
  where
    lower_first : {C : Type 0} (number : C → ℕ) (n : ℕ) (m x : Member C) (xs : List (Member C)) → nat_lt (number x.id) (number m.id) ≡ true → with_number number n (inserted number m xs) ≡ cond (number m.id == n) (Some m) (with_number number n xs)
        → cond (number x.id == n) (Some x) (with_number number n (inserted number m xs)) ≡ cond (number m.id == n) (Some m) (cond (number x.id == n) (Some x) (with_number number n xs))
    lower_first number n m x xs q r = elim (cases_eq (number x.id) n) [
      | inl s ↦ rw (is_same (number x.id) n s, not_same (number m.id) n (λ t. true_or_false (nat_lt (number x.id) (number m.id)) q (not_lower (number x.id) (number m.id) (omega (arith, s, t))))) refl
      | inr off ↦ rw (not_same (number x.id) n off) r
    ]

with_without : {C : Type 0} (number : C → ℕ) (n : ℕ) (id : C) (ms : List (Member C)) → with_number number n (without_member number id ms) ≡ cond (number id == n) None (with_number number n ms)
unfolding without_member
with_without number n id [] = elim (cases_eq (number id) n) [ inl s ↦ rw (is_same (number id) n s) refl | inr off ↦ rw (not_same (number id) n off) refl ]
with_without {C} number n id (x ∷ xs) = by_test (λ (l : List (Member C)). with_number number n l ≡ cond (number id == n) None (with_number number n (x ∷ xs))) (not (number x.id == number id)) (x ∷ without_member number id xs) (without_member number id xs)
    (λ q. stays number n id x xs (not_true (number x.id == number id) q) (with_without number n id xs))
    (λ q. goes number n id x xs (not_false (number x.id == number id) (λ f. true_or_false (not (number x.id == number id)) (ap not f) q)) (with_without number n id xs))
  where
    stays : {C : Type 0} (number : C → ℕ) (n : ℕ) (id : C) (x : Member C) (xs : List (Member C)) → (number x.id == number id) ≡ false → with_number number n (without_member number id xs) ≡ cond (number id == n) None (with_number number n xs)
        → cond (number x.id == n) (Some x) (with_number number n (without_member number id xs)) ≡ cond (number id == n) None (cond (number x.id == n) (Some x) (with_number number n xs))
    stays number n id x xs far r = elim (cases_eq (number x.id) n) [
      | inl s ↦ rw (is_same (number x.id) n s, not_same (number id) n (λ t. true_or_false (number x.id == number id) (is_same (number x.id) (number id) (s ∙ sym t)) far)) refl
      | inr off ↦ rw (not_same (number x.id) n off) r
    ]

    goes : {C : Type 0} (number : C → ℕ) (n : ℕ) (id : C) (x : Member C) (xs : List (Member C)) → (number x.id == number id) ≡ true → with_number number n (without_member number id xs) ≡ cond (number id == n) None (with_number number n xs)
        → with_number number n (without_member number id xs) ≡ cond (number id == n) None (cond (number x.id == n) (Some x) (with_number number n xs))
    goes number n id x xs is r = elim (cases_eq (number id) n) [
      | inl s ↦ r ∙ rw (is_same (number id) n s) refl
      | inr off ↦ r ∙ rw (not_same (number id) n off, not_same (number x.id) n (λ t. off (sym (same_from (number x.id) (number id) is) ∙ t))) refl
    ]

-- what an edit says of its number
abbrev pub member_of : {C : Type 0} → Edit C → Option (Member C)
member_of e = cond e.adds (Some e.member) None

pub with_edited : {C : Type 0} (number : C → ℕ) (n : ℕ) (e : Edit C) (ms : List (Member C)) → with_number number n (edited number e ms) ≡ cond (edit_number number e == n) (member_of e) (with_number number n ms)
with_edited number n e ms = by_adds number n e.adds e.member ms
  where
    by_adds : {C : Type 0} (number : C → ℕ) (n : ℕ) (t : Bool) (m : Member C) (ms : List (Member C)) → with_number number n (cond t (put number m ms) (without_member number m.id ms)) ≡ cond (number m.id == n) (cond t (Some m) None) (with_number number n ms)
    by_adds {C} number n true m ms = with_inserted number n m (without_member number m.id ms) ∙ elim (cases_eq (number m.id) n) [
      | inl s ↦ rw (is_same (number m.id) n s) refl
      | inr off ↦ rw (not_same (number m.id) n off) (with_without number n m.id ms ∙ rw (not_same (number m.id) n off) refl)
    ]
    by_adds number n false m ms = with_without number n m.id ms

-- ---- a list that ascends is told by it

some_same : {X : Type 0} (x y : X) → Some x ≡ Some y → x ≡ y
some_same {X} x y h =
    let value : Option X → X = λ o. elim o [ None ↦ x | Some z ↦ z ] in
    ap value h

pub same_by_number : {C : Type 0} (number : C → ℕ) (xs ys : List (Member C)) → AreRising number xs → AreRising number ys → ((n : ℕ) → with_number number n xs ≡ with_number number n ys) → xs ≡ ys
same_by_number number [] [] up_x up_y same = refl
same_by_number number [] (y ∷ ys) up_x up_y same = absurd (let wrong : None ≡ Some y = same (number y.id) ∙ rw (is_same (number y.id) (number y.id) refl) refl in cc)
same_by_number number (x ∷ xs) [] up_x up_y same = absurd (let wrong : Some x ≡ None = sym (rw (is_same (number x.id) (number x.id) refl) refl) ∙ same (number x.id) in cc)
same_by_number {C} number (x ∷ xs) (y ∷ ys) up_x up_y same =
    let R : Member C → Member C → Type 0 = λ a b. number a.id < number b.id in
    let over_x : All (λ m. number x.id < number m.id) xs = pairs_head R x xs up_x in
    let over_y : All (λ m. number y.id < number m.id) ys = pairs_head R y ys up_y in
    let at_x : Some x ≡ cond (number y.id == number x.id) (Some y) (with_number number (number x.id) ys) = sym (rw (is_same (number x.id) (number x.id) refl) refl) ∙ same (number x.id) in
    let at_y : cond (number x.id == number y.id) (Some x) (with_number number (number y.id) xs) ≡ Some y = same (number y.id) ∙ rw (is_same (number y.id) (number y.id) refl) refl in
    let first : number x.id ≡ number y.id = elim (cases_eq (number x.id) (number y.id)) [
      | inl s ↦ s
      | inr off ↦ absurd (apart number x y xs ys off over_x over_y at_x at_y)
    ] in
    let heads : x ≡ y = some_same x y (at_x ∙ rw (is_same (number y.id) (number x.id) (sym first)) refl) in
    let rest : (n : ℕ) → with_number number n xs ≡ with_number number n ys = λ n. tails number x y xs ys n first over_x over_y (same n) in
    ap (λ (m : Member C). m ∷ xs) heads ∙ ap (λ (l : List (Member C)). y ∷ l) (same_by_number number xs ys (pairs_tail R x xs up_x) (pairs_tail R y ys up_y) rest)
  where
    over : {C : Type 0} (number : C → ℕ) (n : ℕ) (m : Member C) (ms : List (Member C)) → n < number m.id → All (λ z. number m.id < number z.id) ms → with_number number n ms ≡ None
    over number n m ms lt up = none_with number n ms (λ k d less. let u : number m.id < number (get_or ms k d).id = up k d less in omega (arith, lt, u))

    apart : {C : Type 0} (number : C → ℕ) (x y : Member C) (xs ys : List (Member C)) → (number x.id ≡ number y.id → ⊥) → All (λ m. number x.id < number m.id) xs → All (λ m. number y.id < number m.id) ys
        → Some x ≡ cond (number y.id == number x.id) (Some y) (with_number number (number x.id) ys) → cond (number x.id == number y.id) (Some x) (with_number number (number y.id) xs) ≡ Some y → ⊥
    apart number x y xs ys off over_x over_y at_x at_y =
        let low : number x.id < number y.id → ⊥ = λ lt. let wrong : Some x ≡ None = at_x ∙ rw (not_same (number y.id) (number x.id) (λ t. off (sym t))) (over number (number x.id) y ys lt over_y) in cc in
        let high : number y.id < number x.id → ⊥ = λ lt. let wrong : None ≡ Some y = sym (rw (not_same (number x.id) (number y.id) off) (over number (number y.id) x xs lt over_x)) ∙ at_y in cc in
        off (omega (arith, low, high))

    tails : {C : Type 0} (number : C → ℕ) (x y : Member C) (xs ys : List (Member C)) (n : ℕ) → number x.id ≡ number y.id → All (λ m. number x.id < number m.id) xs → All (λ m. number y.id < number m.id) ys
        → cond (number x.id == n) (Some x) (with_number number n xs) ≡ cond (number y.id == n) (Some y) (with_number number n ys) → with_number number n xs ≡ with_number number n ys
    tails {C} number x y xs ys n first over_x over_y same = elim (cases_eq (number x.id) n) [
      | inl s ↦ let P : ℕ → Type 0 = λ k. with_number number k xs ≡ with_number number k ys in
          subst P s (none_with number (number x.id) xs over_x ∙ sym (let Q : ℕ → Type 0 = λ k. with_number number k ys ≡ None in subst Q (sym first) (none_with number (number y.id) ys over_y)))
      | inr off ↦ sym (rw (not_same (number x.id) n off) refl) ∙ same ∙ rw (not_same (number y.id) n (λ t. off (first ∙ t))) refl
    ]

-- ---- edits of different numbers, in either order, and of the same one

pub edits_swap : {C : Type 0} (number : C → ℕ) (d e : Edit C) (ms : List (Member C)) → AreRising number ms → (edit_number number d ≡ edit_number number e → ⊥) → edited number d (edited number e ms) ≡ edited number e (edited number d ms)
edits_swap {C} number d e ms rising off = same_by_number number (edited number d (edited number e ms)) (edited number e (edited number d ms))
    (edited_rising number d (edited number e ms) (edited_rising number e ms rising)) (edited_rising number e (edited number d ms) (edited_rising number d ms rising))
    (λ n. with_edited number n d (edited number e ms) ∙ ap (λ (o : Option (Member C)). cond (edit_number number d == n) (member_of d) o) (with_edited number n e ms)
    ∙ swap (edit_number number d) (edit_number number e) n (member_of d) (member_of e) (with_number number n ms) off
    ∙ sym (with_edited number n e (edited number d ms) ∙ ap (λ (o : Option (Member C)). cond (edit_number number e == n) (member_of e) o) (with_edited number n d ms)))
  where
    swap : {X : Type 0} (a b n : ℕ) (x y z : X) → (a ≡ b → ⊥) → cond (a == n) x (cond (b == n) y z) ≡ cond (b == n) y (cond (a == n) x z)
    swap a b n x y z off = elim (cases_eq a n) [
      | inl s ↦ rw (is_same a n s, not_same b n (λ t. off (s ∙ sym t))) refl
      | inr far ↦ rw (not_same a n far) refl
    ]

pub edit_again : {C : Type 0} (number : C → ℕ) (d e : Edit C) (ms : List (Member C)) → AreRising number ms → edit_number number d ≡ edit_number number e → edited number e (edited number d ms) ≡ edited number e ms
edit_again {C} number d e ms rising is = same_by_number number (edited number e (edited number d ms)) (edited number e ms)
    (edited_rising number e (edited number d ms) (edited_rising number d ms rising)) (edited_rising number e ms rising)
    (λ n. with_edited number n e (edited number d ms) ∙ ap (λ (o : Option (Member C)). cond (edit_number number e == n) (member_of e) o) (with_edited number n d ms)
    ∙ again (edit_number number d) (edit_number number e) n (member_of d) (member_of e) (with_number number n ms) is
    ∙ sym (with_edited number n e ms))
  where
    again : {X : Type 0} (a b n : ℕ) (x y z : X) → a ≡ b → cond (b == n) y (cond (a == n) x z) ≡ cond (b == n) y z
    again a b n x y z is = elim (cases_eq b n) [
      | inl s ↦ rw (is_same b n s) refl
      | inr far ↦ rw (not_same b n far, not_same a n (λ t. far (sym is ∙ t))) refl
    ]

-- an edit comes before those of higher numbers
pub edit_before : {C : Type 0} (number : C → ℕ) (e : Edit C) (es : List (Edit C)) (ms : List (Member C)) → AreRising number ms → All (λ d. edit_number number e < edit_number number d) es → all_edited number es (edited number e ms) ≡ edited number e (all_edited number es ms)
edit_before number e [] ms rising up = refl
edit_before {C} number e (d ∷ es) ms rising up =
    let Up : Edit C → Type 0 = λ f. edit_number number e < edit_number number f in
    let lt : edit_number number e < edit_number number d = All-head Up d es up in
    ap (λ (l : List (Member C)). all_edited number es l) (edits_swap number d e ms rising (λ s. omega (arith, lt, s)))
    ∙ edit_before number e es (edited number d ms) (edited_rising number d ms rising) (All-tail Up d es up)

-- one more edit among those that are put off
pub noted_is : {C : Type 0} (number : C → ℕ) (e : Edit C) (es : List (Edit C)) (ms : List (Member C)) → AreRising number ms → AreInOrder number es → all_edited number (noted number e es) ms ≡ edited number e (all_edited number es ms)
noted_is number e [] ms rising order = refl
noted_is {C} number e (x ∷ xs) ms rising order =
    let R : Edit C → Edit C → Type 0 = λ a b. edit_number number a < edit_number number b in
    let P : List (Edit C) → Type 0 = λ l. all_edited number l ms ≡ edited number e (all_edited number xs (edited number x ms)) in
    let above : All (λ d. edit_number number x < edit_number number d) xs = pairs_head R x xs order in
    by_test P (nat_lt (edit_number number x) (edit_number number e)) (x ∷ noted number e xs) (cond (edit_number number x == edit_number number e) (e ∷ xs) (e ∷ x ∷ xs))
    (λ q. noted_is number e xs (edited number x ms) (edited_rising number x ms rising) (pairs_tail R x xs order))
    (λ q. by_test P (edit_number number x == edit_number number e) (e ∷ xs) (e ∷ x ∷ xs)
    (λ s. let is : edit_number number x ≡ edit_number number e = same_from (edit_number number x) (edit_number number e) s in
    let up : All (λ d. edit_number number e < edit_number number d) xs = λ k d less. let u : edit_number number x < edit_number number (get_or xs k d) = above k d less in omega (arith, u, is) in
    ap (λ (l : List (Member C)). all_edited number xs l) (sym (edit_again number x e ms rising is)) ∙ edit_before number e xs (edited number x ms) (edited_rising number x ms rising) up)
    (λ s. let lt : edit_number number e < edit_number number x = higher_from (edit_number number x) (edit_number number e) q s in
    let up : All (λ d. edit_number number e < edit_number number d) xs = λ k d less. let u : edit_number number x < edit_number number (get_or xs k d) = above k d less in omega (arith, u, lt) in
    ap (λ (l : List (Member C)). all_edited number xs l) (edits_swap number x e ms rising (λ t. omega (arith, lt, t))) ∙ edit_before number e xs (edited number x ms) (edited_rising number x ms rising) up))

-- ---- what edits that are put off say of a number

pub with_all_edited : {C : Type 0} (number : C → ℕ) (n : ℕ) (es : List (Edit C)) (ms : List (Member C)) → AreInOrder number es → with_number number n (all_edited number es ms) ≡ elim (edit_with number n es) [ None ↦ with_number number n ms | Some e ↦ member_of e ]
with_all_edited number n [] ms order = refl
with_all_edited {C} number n (e ∷ es) ms order =
    let R : Edit C → Edit C → Type 0 = λ a b. edit_number number a < edit_number number b in
    with_all_edited number n es (edited number e ms) (pairs_tail R e es order) ∙ elim (cases_eq (edit_number number e) n) [
      | inl s ↦ rw (is_same (edit_number number e) n s, no_edit number n es (λ k d less. let u : edit_number number e < edit_number number (get_or es k d) = pairs_head R e es order k d less in omega (arith, u, s))) (with_edited number n e ms ∙ rw (is_same (edit_number number e) n s) refl)
      | inr off ↦ rw (not_same (edit_number number e) n off) (ap (λ (o : Option (Member C)). elim (edit_with number n es) [ None ↦ o | Some f ↦ member_of f ]) (with_edited number n e ms ∙ rw (not_same (edit_number number e) n off) refl))
    ]
  where
    no_edit : {C : Type 0} (number : C → ℕ) (n : ℕ) (es : List (Edit C)) → All (λ d. n < edit_number number d) es → edit_with number n es ≡ None
    no_edit number n [] up = refl
    no_edit {C} number n (e ∷ es) up =
        let P : Edit C → Type 0 = λ d. n < edit_number number d in
        let lt : n < edit_number number e = All-head P e es up in
        rw (not_same (edit_number number e) n (λ s. omega (arith, lt, s))) (no_edit number n es (All-tail P e es up))

-- ---- what is found at a place of a list that ascends

-- the first that has the number, in whatever list it is looked for
pub found_at : {X : Type 0} (f : X → ℕ) (n : ℕ) (look : List X → Option X) (xs : List X) (i : ℕ) (e : X) → ((x : X) (l : List X) → look (x ∷ l) ≡ cond (f x == n) (Some x) (look l)) → AllWithin (λ x. f x < n) xs 0 i → i < length xs → e ≡ get_or xs i e → f e ≡ n → look xs ≡ Some e
found_at f n look [] i e step before lt is same = absurd (omega arith)
found_at {X} f n look (x ∷ xs) zero e step before lt is same =
    step x xs ∙ rw (is_same (f x) n (ap f (sym is) ∙ same)) (ap (λ (y : X). Some y) (sym is))
found_at f n look (x ∷ xs) (suc i) e step before lt is same =
    let low : f x < n = before 0 x (omega arith) (omega arith) in
    step x xs ∙ rw (not_same (f x) n (λ s. omega (arith, low, s))) (found_at f n look xs i e step (λ k d a b. before (suc k) d (omega arith) (omega arith)) (omega arith) is same)

pub found_nowhere : {X : Type 0} (f : X → ℕ) (n : ℕ) (look : List X → Option X) (xs : List X) → look [] ≡ None → ((x : X) (l : List X) → look (x ∷ l) ≡ cond (f x == n) (Some x) (look l)) → ((k : ℕ) (d : X) → k < length xs → f (get_or xs k d) ≡ n → ⊥) → look xs ≡ None
found_nowhere f n look [] none step off = none
found_nowhere f n look (x ∷ xs) none step off = step x xs ∙ rw (not_same (f x) n (off 0 x (omega arith))) (found_nowhere f n look xs none step (λ k d lt. off (suc k) d (omega (arith, lt))))

-- none has the number where those before a place are below it, and the one there, if any, is another
pub nowhere_from : {X : Type 0} (f : X → ℕ) (n : ℕ) (xs : List X) (i : ℕ) → AllPairs (λ a b. f a < f b) xs → AllWithin (λ x. f x < n) xs 0 i → AllWithin (λ x. n ≤ f x) xs i (length xs) → ((d : X) → i < length xs → f (get_or xs i d) ≡ n → ⊥) → (k : ℕ) (d : X) → k < length xs → f (get_or xs k d) ≡ n → ⊥
nowhere_from {X} f n xs i rising before after off k d lt same =
    let low : k < i → ⊥ = λ r. let b : f (get_or xs k d) < n = before k d (omega arith) r in omega (arith, b, same) in
    let high : i < k → ⊥ = λ r.
    let b : f (get_or xs i d) < f (get_or xs k d) = rising i k d r lt in
    let a : n ≤ f (get_or xs i d) = after i d (omega arith) (omega (arith, r, lt)) in
    omega (arith, a, b, same) in
    let here : k ≡ i → ⊥ = λ q. let P : ℕ → Type 0 = λ j. f (get_or xs j d) ≡ n in off d (omega (arith, q, lt)) (subst P q same) in
    here (omega (arith, low, high))

-- one of another number stands there
pub other_there : {X : Type 0} (f : X → ℕ) (n : ℕ) (xs : List X) (i : ℕ) (e : X) → e ≡ get_or xs i e → (f e ≡ n → ⊥) → (d : X) → i < length xs → f (get_or xs i d) ≡ n → ⊥
other_there {X} f n xs i e is off d lt same = off (ap f (is ∙ get_or_default xs i e d lt) ∙ same)

pub has_with : {C : Type 0} (number : C → ℕ) (id : C) (ms : List (Member C)) → is_some (with_number number (number id) ms) ≡ has_id number id ms
unfolding has_id
has_with number id [] = refl
has_with {C} number id (x ∷ xs) = by_cond (number x.id == number id) x (with_number number (number id) xs) ∙ ap (λ (b : Bool). (number x.id == number id) || b) (has_with number id xs)
  where
    by_cond : {X : Type 0} (t : Bool) (x : X) (o : Option X) → is_some (cond t (Some x) o) ≡ (t || is_some o)
    by_cond true x o = refl
    by_cond false x o = refl

pub movers_with : {C : Type 0} (number : C → ℕ) (id : C) (ms : List (Member C)) → movers_of number id ms ≡ option_map (λ m. m.movers) (with_number number (number id) ms)
movers_with number id [] = refl
movers_with {C} number id (x ∷ xs) = by_cond (number x.id == number id) x (movers_of number id xs) (with_number number (number id) xs) (movers_with number id xs)
  where
    by_cond : {C : Type 0} (t : Bool) (x : Member C) (o : Option Movers) (p : Option (Member C)) → o ≡ option_map (λ m. m.movers) p → cond t (Some x.movers) o ≡ option_map (λ m. m.movers) (cond t (Some x) p)
    by_cond true x o p is = refl
    by_cond false x o p is = is

-- ---- an edit that is put off, at its place

pub noted_over : {C : Type 0} (number : C → ℕ) (e : Edit C) (es : List (Edit C)) (i : ℕ) → AllWithin (λ d. edit_number number d < edit_number number e) es 0 i → is_edit_at number (edit_number number e) (drop i es) ≡ true → slice_set es i e ≡ noted number e es
noted_over number e [] zero before at = absurd (true_or_false false at refl)
noted_over number e [] (suc i) before at = absurd (true_or_false false at refl)
noted_over number e (x ∷ xs) zero before at =
    let same : edit_number number x ≡ edit_number number e = same_from (edit_number number x) (edit_number number e) at in
    rw (not_lower (edit_number number x) (edit_number number e) (omega (arith, same)), at) refl
noted_over {C} number e (x ∷ xs) (suc i) before at =
    let low : edit_number number x < edit_number number e = before 0 x (omega arith) (omega arith) in
    rw (is_lower (edit_number number x) (edit_number number e) low) (ap (λ (l : List (Edit C)). x ∷ l) (noted_over number e xs i (λ k d a b. before (suc k) d (omega arith) (omega arith)) at))

pub noted_between : {C : Type 0} (number : C → ℕ) (e : Edit C) (es : List (Edit C)) (i : ℕ) → AllWithin (λ d. edit_number number d < edit_number number e) es 0 i → AllWithin (λ d. edit_number number e ≤ edit_number number d) es i (length es) → i ≤ length es → is_edit_at number (edit_number number e) (drop i es) ≡ false → insert es i e ≡ noted number e es
noted_between number e [] zero before after le at = refl
noted_between number e [] (suc i) before after le at = absurd (omega arith)
noted_between number e (x ∷ xs) zero before after le at =
    let high : edit_number number e ≤ edit_number number x = after 0 x (omega arith) (omega arith) in
    rw (not_lower (edit_number number x) (edit_number number e) high, at) refl
noted_between {C} number e (x ∷ xs) (suc i) before after le at =
    let low : edit_number number x < edit_number number e = before 0 x (omega arith) (omega arith) in
    rw (is_lower (edit_number number x) (edit_number number e) low) (ap (λ (l : List (Edit C)). x ∷ l) (noted_between number e xs i (λ k d a b. before (suc k) d (omega arith) (omega arith)) (λ k d a b. after (suc k) d (omega arith) (omega arith)) (omega arith) at))

pub edit_at_front : {C : Type 0} (number : C → ℕ) (es : List (Edit C)) (i n : ℕ) (x : Edit C) → i < length es → x ≡ get_or es i x → (edit_number number x == n) ≡ is_edit_at number n (drop i es)
edit_at_front number [] i n x lt is = absurd (omega arith)
edit_at_front {C} number (y ∷ ys) zero n x lt is = ap (λ (z : Edit C). edit_number number z == n) is
edit_at_front number (y ∷ ys) (suc i) n x lt is = edit_at_front number ys i n x (omega arith) is

pub no_edit_at_end : {C : Type 0} (number : C → ℕ) (es : List (Edit C)) (i n : ℕ) → length es ≤ i → false ≡ is_edit_at number n (drop i es)
no_edit_at_end number [] zero n le = refl
no_edit_at_end number [] (suc i) n le = refl
no_edit_at_end number (y ∷ ys) zero n le = absurd (omega arith)
no_edit_at_end number (y ∷ ys) (suc i) n le = no_edit_at_end number ys i n (omega arith)

-- the edits that are put off still ascend
all_noted : {C : Type 0} (number : C → ℕ) (P : Edit C → Type 0) (e : Edit C) (es : List (Edit C)) → P e → All P es → All P (noted number e es)
all_noted number P e [] here all = All-cons P e [] here all
all_noted {C} number P e (x ∷ xs) here all =
    let Q : List (Edit C) → Type 0 = λ l. All P l in
    let rest : All P xs = All-tail P x xs all in
    by_test Q (nat_lt (edit_number number x) (edit_number number e)) (x ∷ noted number e xs) (cond (edit_number number x == edit_number number e) (e ∷ xs) (e ∷ x ∷ xs))
    (λ q. All-cons P x (noted number e xs) (All-head P x xs all) (all_noted number P e xs here rest))
    (λ q. by_test Q (edit_number number x == edit_number number e) (e ∷ xs) (e ∷ x ∷ xs) (λ s. All-cons P e xs here rest) (λ s. All-cons P e (x ∷ xs) here all))

pub noted_order : {C : Type 0} (number : C → ℕ) (e : Edit C) (es : List (Edit C)) → AreInOrder number es → AreInOrder number (noted number e es)
noted_order {C} number e [] order = AllPairs-cons (λ (a b : Edit C). edit_number number a < edit_number number b) e [] (All-nil (λ (d : Edit C). edit_number number e < edit_number number d)) (pairs_none (λ (a b : Edit C). edit_number number a < edit_number number b))
noted_order {C} number e (x ∷ xs) order =
    let R : Edit C → Edit C → Type 0 = λ a b. edit_number number a < edit_number number b in
    let Q : List (Edit C) → Type 0 = λ l. AllPairs R l in
    let above : All (R x) xs = pairs_head R x xs order in
    let rest : AllPairs R xs = pairs_tail R x xs order in
    by_test Q (nat_lt (edit_number number x) (edit_number number e)) (x ∷ noted number e xs) (cond (edit_number number x == edit_number number e) (e ∷ xs) (e ∷ x ∷ xs))
    (λ q. let lt : edit_number number x < edit_number number e = lower_from (edit_number number x) (edit_number number e) q in AllPairs-cons R x (noted number e xs) (all_noted number (R x) e xs lt above) (noted_order number e xs rest))
    (λ q. by_test Q (edit_number number x == edit_number number e) (e ∷ xs) (e ∷ x ∷ xs)
    (λ s. let is : edit_number number x ≡ edit_number number e = same_from (edit_number number x) (edit_number number e) s in
    AllPairs-cons R e xs (λ k d less. let u : edit_number number x < edit_number number (get_or xs k d) = above k d less in omega (arith, u, is)) rest)
    (λ s. let lt : edit_number number e < edit_number number x = higher_from (edit_number number x) (edit_number number e) q s in
    AllPairs-cons R e (x ∷ xs) (All-cons (R e) x xs lt (λ k d less. let u : edit_number number x < edit_number number (get_or xs k d) = above k d less in omega (arith, u, lt))) order))

pub noted_long : {C : Type 0} (number : C → ℕ) (e : Edit C) (es : List (Edit C)) → length (noted number e es) ≤ length es + 1
noted_long number e [] = omega arith
noted_long {C} number e (x ∷ xs) =
    let Q : List (Edit C) → Type 0 = λ l. length l ≤ length (x ∷ xs) + 1 in
    by_test Q (nat_lt (edit_number number x) (edit_number number e)) (x ∷ noted number e xs) (cond (edit_number number x == edit_number number e) (e ∷ xs) (e ∷ x ∷ xs))
    (λ q. let r : length (noted number e xs) ≤ length xs + 1 = noted_long number e xs in omega (arith, r))
    (λ q. by_test Q (edit_number number x == edit_number number e) (e ∷ xs) (e ∷ x ∷ xs) (λ s. omega arith) (λ s. omega arith))

-- ---- a list with one more edit

-- it is put off
pub edit_waits : {C : Type 0} (number : C → ℕ) (es : List (Edit C)) (e : Edit C) (ms : List (Member C)) (capacity : ℕ) → IsEdited number ms es capacity → length ms + length es < capacity → IsEdited number ms (noted number e es) capacity
edit_waits number es e ms capacity is room = record {
  rising = is.rising;
  in_order = noted_order number e es is.in_order;
  room = let r : length (noted number e es) ≤ length es + 1 = noted_long number e es in omega (arith, r, room);
}

-- it is made after all others were
pub edit_follows : {C : Type 0} (number : C → ℕ) (left : List (Edit C)) (ms now : List (Member C)) (capacity : ℕ) → AreRising number ms → left ≡ [] → now ≡ ms → length now ≤ capacity → IsEdited number now left capacity
edit_follows {C} number left ms now capacity rising none is fits =
    let P : List (Member C) → Type 0 = λ l. AreRising number l in
    let short : length left ≡ 0 = ap (λ (l : List (Edit C)). length l) none in
    record {
      rising = subst P (sym is) rising;
      in_order = λ i j d lt l. absurd (omega (arith, lt, l, short));
      room = omega (arith, short, fits);
    }

-- how many members there are then
pub one_more : {C : Type 0} (number : C → ℕ) (m : Member C) (ms : List (Member C)) → has_id number m.id ms ≡ false → put number m ms ≡ inserted number m ms
one_more {C} number m ms absent = ap (λ (l : List (Member C)). inserted number m l) (without_same number m.id ms absent)

pub inserted_count : {C : Type 0} (number : C → ℕ) (m : Member C) (ms : List (Member C)) → length (inserted number m ms) ≡ length ms + 1
inserted_count number m [] = refl
inserted_count {C} number m (x ∷ xs) = by_test (λ (l : List (Member C)). length l ≡ length (x ∷ xs) + 1) (nat_lt (number x.id) (number m.id)) (x ∷ inserted number m xs) (m ∷ x ∷ xs)
    (λ q. let r : length (inserted number m xs) ≡ length xs + 1 = inserted_count number m xs in omega (arith, r))
    (λ q. omega arith)

pub without_count : {C : Type 0} (number : C → ℕ) (id : C) (ms : List (Member C)) (m : Member C) → AreRising number ms → with_number number (number id) ms ≡ Some m → length (without_member number id ms) + 1 ≡ length ms
unfolding without_member
without_count number id [] m rising found = absurd (let wrong : None ≡ Some m = found in cc)
without_count {C} number id (x ∷ xs) m rising found =
    let R : Member C → Member C → Type 0 = λ a b. number a.id < number b.id in
    elim (cases_eq (number x.id) (number id)) [
      | inl s ↦ let up : All (λ z. number x.id < number z.id) xs = pairs_head R x xs rising in
          let rest : xs ≡ without_member number id xs = without_none number id xs (λ k d lt e. let u : number x.id < number (get_or xs k d).id = up k d lt in omega (arith, u, s, e)) in
          rw (is_same (number x.id) (number id) s) (let long : length xs ≡ length (without_member number id xs) = ap (λ (l : List (Member C)). length l) rest in omega (arith, long))
      | inr off ↦ let later : with_number number (number id) xs ≡ Some m = sym (rw (not_same (number x.id) (number id) off) refl) ∙ found in
          rw (not_same (number x.id) (number id) off) (let r : length (without_member number id xs) + 1 ≡ length xs = without_count number id xs m (pairs_tail R x xs rising) later in omega (arith, r))
    ]

pub not_before : {C : Type 0} (number : C → ℕ) (es : List (Edit C)) → AreInOrder number es → IsNonDecreasingBy (λ e. number e.member.id) es
not_before number es order i j d le lj = grind (arith, order i j d)

-- all of them are below a number if the last is
pub all_above : {C : Type 0} (number : C → ℕ) (es : List (Edit C)) (n : ℕ) → AreInOrder number es → ((k : ℕ) (d : Edit C) → suc k ≡ length es → edit_number number (get_or es k d) < n) → All (λ e. edit_number number e < n) es
all_above number [] n order last = λ k d lt. absurd (omega arith)
all_above {C} number (e ∷ es) n order last = λ k d lt. above_at k d lt
  where
    above_at : (k : ℕ) (d : Edit C) → k < length (e ∷ es) → edit_number number (get_or (e ∷ es) k d) < n
    above_at k d lt =
        let final : edit_number number (get_or (e ∷ es) (length es) d) < n = last (length es) d refl in
        let here : k ≡ length es → edit_number number (get_or (e ∷ es) k d) < n = λ q. let P : ℕ → Type 0 = λ j. edit_number number (get_or (e ∷ es) j d) < n in subst P (sym q) final in
        let there : (k ≡ length es → ⊥) → edit_number number (get_or (e ∷ es) k d) < n = λ off. let up : edit_number number (get_or (e ∷ es) k d) < edit_number number (get_or (e ∷ es) (length es) d) = order k (length es) d (omega arith) (omega (arith, off, lt)) in omega (arith, up, final) in
        elim (cases_eq k (length es)) [ inl q ↦ here q | inr off ↦ there off ]

pub all_above_last : {C : Type 0} (number : C → ℕ) (es : List (Edit C)) (e : Edit C) (n : ℕ) → AreInOrder number es → ((k : ℕ) → suc k ≡ length es → e ≡ get_or es k e) → edit_number number e < n → All (λ d. edit_number number d < n) es
all_above_last {C} number es e n order is lt = all_above number es n order (λ k d h.
    let same : get_or es k e ≡ get_or es k d = get_or_default es k e d (omega (arith, h)) in
    let at : edit_number number (get_or es k d) ≡ edit_number number e = ap (λ (f : Edit C). edit_number number f) (sym same ∙ sym (is k h)) in
    omega (arith, at, lt))
