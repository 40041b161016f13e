-- The place of an id in a list that rises.
use Rattle.std.proofs.Common.{◌≡◌, ℕ, zero, suc, ◌<◌, ◌≤◌, ◌==◌, ◌||◌, Bool, true, false, List, [], ◌∷◌, length, get_or, refl, sym, ap, ◌∙◌, Option, Some, None, subst, nat_lt, arith}
use Rattle.std.specs.List.{AllWithin, list_any, insert, remove}
use Rattle.std.specs.Option.{is_some}
use Rattle.std.specs.List.Sorted.{IsNonDecreasingBy}
use Rattle.std.proofs.lemmas.List.{get_or_default}
use Rattle.std.proofs.lemmas.Bool.Decides.{nat_tests}
use Rattle.std.proofs.lemmas.List.Folds.{list_any_none}
use Rattle.graph_colours.specs.declared.member.Movers.{Movers}
use Rattle.graph_colours.specs.declared.member.Member.{Member}
use Rattle.graph_colours.specs.Members.{AreRising, inserted, without_member}
use Rattle.graph_colours.specs.FoundMembers.{has_id, movers_of}
use Rattle.graph_colours.proofs.Cases.{by_test, or_left, or_right}

pub not_before : {C : Type 0} (number : C → ℕ) (ms : List (Member C)) → AreRising number ms → IsNonDecreasingBy (λ m. number m.id) ms
not_before number ms rising i j d le lj = grind (arith, rising i j d)

pub not_same : (a b : ℕ) → (a ≡ b → ⊥) → (a == b) ≡ false
not_same a b h = grind (arith, nat_tests)

pub same_from : (a b : ℕ) → (a == b) ≡ true → a ≡ b
same_from a b h = grind (arith, nat_tests)

pub is_lower : (a b : ℕ) → a < b → nat_lt a b ≡ true
is_lower a b h = grind (arith, nat_tests)

pub not_lower : (a b : ℕ) → b ≤ a → nat_lt a b ≡ false
not_lower a b h = grind (arith, nat_tests)

pub is_same : (a b : ℕ) → a ≡ b → (a == b) ≡ true
is_same a b h = grind (arith, nat_tests)

-- the id stands at the place or nowhere
pub nowhere_else : {C : Type 0} (number : C → ℕ) (ms : List (Member C)) (wanted i : ℕ) → AreRising number ms → AllWithin (λ m. number m.id < wanted) ms 0 i → AllWithin (λ m. wanted ≤ number m.id) ms i (length ms) → (k : ℕ) (d : Member C) → k < length ms → (k ≡ i → ⊥) → number (get_or ms k d).id ≡ wanted → ⊥
nowhere_else number ms wanted i rising before after k d lt apart same =
    let low : k < i → ⊥ = λ r. let b : number (get_or ms k d).id < wanted = before k d (omega arith) r in omega arith in
    let high : i < k → ⊥ = λ r.
    let b : number (get_or ms i d).id < number (get_or ms k d).id = rising i k d r lt in
    let a : wanted ≤ number (get_or ms i d).id = after i d (omega arith) (omega arith) in
    omega arith in
    apart (omega (arith, low, high))

pub has_no_id : {C : Type 0} (number : C → ℕ) (ms : List (Member C)) (id : C) → ((k : ℕ) (d : Member C) → k < length ms → number (get_or ms k d).id ≡ number id → ⊥) → has_id number id ms ≡ false
unfolding has_id
has_no_id {C} number ms id h =
    let p : Member C → Bool = λ m. number m.id == number id in
    list_any_none p ms (λ k d lt. not_same (number (get_or ms k d).id) (number id) (h k d lt))

-- the member e stands at the place and has another id
pub absent_at : {C : Type 0} (number : C → ℕ) (ms : List (Member C)) (id : C) (i : ℕ) (e : Member C) → AreRising number ms → AllWithin (λ m. number m.id < number id) ms 0 i → AllWithin (λ m. number id ≤ number m.id) ms i (length ms) → i < length ms → e ≡ get_or ms i e → (number e.id ≡ number id → ⊥) → (k : ℕ) (d : Member C) → k < length ms → number (get_or ms k d).id ≡ number id → ⊥
absent_at {C} number ms id i e rising before after lt is other k d r same =
    let at : number (get_or ms i e).id ≡ number e.id = ap (λ (m : Member C). number m.id) (sym is) in
    let here : k ≡ i → ⊥ = λ q.
    let P : ℕ → Type 0 = λ j. number (get_or ms j d).id ≡ number id in
    let there : number (get_or ms i d).id ≡ number id = subst P q same in
    let n : number (get_or ms i e).id ≡ number (get_or ms i d).id = ap (λ (m : Member C). number m.id) (get_or_default ms i e d lt) in
    other (omega arith) in
    nowhere_else number ms (number id) i rising before after k d r here same

pub absent_beyond : {C : Type 0} (number : C → ℕ) (ms : List (Member C)) (id : C) (i : ℕ) → AllWithin (λ m. number m.id < number id) ms 0 i → length ms ≤ i → (k : ℕ) (d : Member C) → k < length ms → number (get_or ms k d).id ≡ number id → ⊥
absent_beyond number ms id i before ends k d lt same = let b : number (get_or ms k d).id < number id = before k d (omega arith) (omega arith) in omega arith

-- a member put at its place
pub insert_is : {C : Type 0} (number : C → ℕ) (m : Member C) (ms : List (Member C)) (i : ℕ) → AllWithin (λ x. number x.id < number m.id) ms 0 i → AllWithin (λ x. number m.id ≤ number x.id) ms i (length ms) → i ≤ length ms → insert ms i m ≡ inserted number m ms
insert_is number m [] zero before after le = refl
insert_is number m [] (suc i) before after le = absurd (omega arith)
insert_is number m (x ∷ xs) zero before after le =
    let h : number m.id ≤ number x.id = after 0 x (omega arith) (omega arith) in
    rw (not_lower (number x.id) (number m.id) h) refl
insert_is number m (x ∷ xs) (suc i) before after le =
    let h : number x.id < number m.id = before 0 x (omega arith) (omega arith) in
    let rest : insert xs i m ≡ inserted number m xs = insert_is number m xs i (λ k d low high. before (suc k) d (omega arith) (omega arith)) (λ k d low high. after (suc k) d (omega arith) (omega arith)) (omega arith) in
    rw (is_lower (number x.id) (number m.id) h) (ap (λ ys. x ∷ ys) rest)

-- where no member has the id
pub without_none : {C : Type 0} (number : C → ℕ) (id : C) (ms : List (Member C)) → ((k : ℕ) (d : Member C) → k < length ms → number (get_or ms k d).id ≡ number id → ⊥) → ms ≡ without_member number id ms
unfolding without_member
without_none number id [] h = refl
without_none number id (x ∷ xs) h =
    let n : (number x.id == number id) ≡ false = not_same (number x.id) (number id) (h 0 x (omega arith)) in
    rw n (ap (λ ys. x ∷ ys) (without_none number id xs (λ k d lt. h (suc k) d (omega arith))))

pub without_same : {C : Type 0} (number : C → ℕ) (id : C) (ms : List (Member C)) → has_id number id ms ≡ false → without_member number id ms ≡ ms
unfolding has_id without_member
without_same number id [] none = refl
without_same number id (x ∷ xs) none =
    let here : (number x.id == number id) ≡ false = or_left (number x.id == number id) (list_any (λ m. number m.id == number id) xs) none in
    let rest : list_any (λ m. number m.id == number id) xs ≡ false = or_right (number x.id == number id) (list_any (λ m. number m.id == number id) xs) none in
    rw here (ap (λ ys. x ∷ ys) (without_same number id xs rest))

pub remove_is : {C : Type 0} (number : C → ℕ) (id : C) (ms : List (Member C)) (i : ℕ) (d : Member C) → i < length ms → number (get_or ms i d).id ≡ number id → ((k : ℕ) (d : Member C) → k < length ms → (k ≡ i → ⊥) → number (get_or ms k d).id ≡ number id → ⊥) → remove ms i ≡ without_member number id ms
unfolding without_member
remove_is number id [] i d lt here apart = absurd (omega arith)
remove_is number id (x ∷ xs) zero d lt here apart =
    let s : (number x.id == number id) ≡ true = is_same (number x.id) (number id) here in
    rw s (without_none number id xs (λ k d lt. apart (suc k) d (omega arith) (λ q. omega arith)))
remove_is number id (x ∷ xs) (suc i) d lt here apart =
    let n : (number x.id == number id) ≡ false = not_same (number x.id) (number id) (apart 0 x (omega arith) (λ q. omega arith)) in
    rw n (ap (λ ys. x ∷ ys) (remove_is number id xs i d (omega arith) here (λ k d lt off. apart (suc k) d (omega arith) (λ q. off (omega arith)))))

pub movers_none : {C : Type 0} (number : C → ℕ) (id : C) (ms : List (Member C)) → ((k : ℕ) (d : Member C) → k < length ms → number (get_or ms k d).id ≡ number id → ⊥) → None ≡ movers_of number id ms
movers_none number id [] h = refl
movers_none number id (x ∷ xs) h =
    let n : (number x.id == number id) ≡ false = not_same (number x.id) (number id) (h 0 x (omega arith)) in
    rw n (movers_none number id xs (λ k d lt. h (suc k) d (omega arith)))

pub has_movers : {C : Type 0} (number : C → ℕ) (id : C) (ms : List (Member C)) → is_some (movers_of number id ms) ≡ has_id number id ms
unfolding has_id
has_movers number id [] = refl
has_movers {C} number id (x ∷ xs) = by_test (λ o. is_some o ≡ ((number x.id == number id) || list_any (λ m. number m.id == number id) xs)) (number x.id == number id) (Some x.movers) (movers_of number id xs)
    (λ q. rw q refl)
    (λ q. rw q (has_movers number id xs))

pub movers_at : {C : Type 0} (number : C → ℕ) (id : C) (ms : List (Member C)) (i : ℕ) (d : Member C) → i < length ms → number (get_or ms i d).id ≡ number id → ((k : ℕ) (d : Member C) → k < length ms → (k ≡ i → ⊥) → number (get_or ms k d).id ≡ number id → ⊥) → Some (get_or ms i d).movers ≡ movers_of number id ms
movers_at number id [] i d lt here apart = absurd (omega arith)
movers_at number id (x ∷ xs) zero d lt here apart =
    let s : (number x.id == number id) ≡ true = is_same (number x.id) (number id) here in
    rw s refl
movers_at number id (x ∷ xs) (suc i) d lt here apart =
    let n : (number x.id == number id) ≡ false = not_same (number x.id) (number id) (apart 0 x (omega arith) (λ q. omega arith)) in
    rw n (movers_at number id xs i d (omega arith) here (λ k d lt off. apart (suc k) d (omega arith) (λ q. off (omega arith))))

-- the member e stands at the place and has the id
pub movers_is : {C : Type 0} (number : C → ℕ) (ms : List (Member C)) (id : C) (i : ℕ) (e : Member C) → AreRising number ms → AllWithin (λ m. number m.id < number id) ms 0 i → AllWithin (λ m. number id ≤ number m.id) ms i (length ms) → i < length ms → e ≡ get_or ms i e → number e.id ≡ number id → Some e.movers ≡ movers_of number id ms
movers_is {C} number ms id i e rising before after lt is same =
    let at : number (get_or ms i e).id ≡ number e.id = ap (λ (m : Member C). number m.id) (sym is) in
    let f : Member C → Option Movers = λ m. Some m.movers in
    ap f is ∙ movers_at number id ms i e lt (omega arith) (nowhere_else number ms (number id) i rising before after)

pub without_is : {C : Type 0} (number : C → ℕ) (ms : List (Member C)) (id : C) (i : ℕ) (e : Member C) → AreRising number ms → AllWithin (λ m. number m.id < number id) ms 0 i → AllWithin (λ m. number id ≤ number m.id) ms i (length ms) → i < length ms → e ≡ get_or ms i e → number e.id ≡ number id → remove ms i ≡ without_member number id ms
without_is {C} number ms id i e rising before after lt is same =
    let at : number (get_or ms i e).id ≡ number e.id = ap (λ (m : Member C). number m.id) (sym is) in
    remove_is number id ms i e lt (omega arith) (nowhere_else number ms (number id) i rising before after)
