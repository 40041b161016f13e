-- An id stands in one list at most: taken out of the first that has it, it is gone from all.
use Rattle.std.proofs.Common.{◌≡◌, ℕ, zero, suc, ◌+◌, ◌<◌, ◌≤◌, ◌==◌, ◌||◌, Bool, true, false, cond, List, [], ◌∷◌, length, map, slice_set, refl, sym, ap, ◌∙◌, arith}
use Rattle.std.specs.List.{list_any, count_by, sum_by}
use Rattle.std.proofs.lemmas.List.Sums.{sum_by-append, sum_by-cons}
use Rattle.graph_colours.specs.declared.member.Member.{Member}
use Rattle.graph_colours.specs.Members.{without_member}
use Rattle.graph_colours.specs.FoundMembers.{has_id}
use Rattle.graph_colours.specs.Colours.{list_at, all_members, released}
use Rattle.graph_colours.proofs.Cases.{true_or_false, not_true_then}
use Rattle.graph_colours.proofs.PlaceLemmas.{without_same}

-- how often an id stands
abbrev pub times : {C : Type 0} → (C → ℕ) → C → List (Member C) → ℕ
times number id ms = count_by (λ m. number m.id == number id) ms

pub one_counts : (t u : Bool) (n : ℕ) → (t || u) ≡ true → (u ≡ true → 1 ≤ n) → 1 ≤ cond t 1 0 + n
one_counts true u n has rest = omega arith
one_counts false u n has rest = let r : 1 ≤ n = rest has in omega arith

pub has_counts : {C : Type 0} (number : C → ℕ) (id : C) (ms : List (Member C)) → has_id number id ms ≡ true → 1 ≤ times number id ms
unfolding has_id
has_counts number id [] has = absurd (true_or_false false has refl)
has_counts {C} number id (x ∷ xs) has =
    let one : Member C → ℕ = λ m. cond (number m.id == number id) 1 0 in
    let r : 1 ≤ one x + sum_by one xs = one_counts (number x.id == number id) (list_any (λ m. number m.id == number id) xs) (sum_by one xs) has (has_counts number id xs) in
    let e : sum_by one (x ∷ xs) ≡ one x + sum_by one xs = sum_by-cons one x xs in
    omega (arith, r, e)

none_by : (t u : Bool) (n : ℕ) → (t || u) ≡ false → (u ≡ false → n ≡ 0) → cond t 1 0 + n ≡ 0
none_by true u n has rest = absurd (true_or_false true refl has)
none_by false u n has rest = let r : n ≡ 0 = rest has in omega (arith, r)

none_counts : {C : Type 0} (number : C → ℕ) (id : C) (ms : List (Member C)) → has_id number id ms ≡ false → times number id ms ≡ 0
unfolding has_id
none_counts number id [] has = refl
none_counts {C} number id (x ∷ xs) has =
    let one : Member C → ℕ = λ m. cond (number m.id == number id) 1 0 in
    let r : one x + sum_by one xs ≡ 0 = none_by (number x.id == number id) (list_any (λ m. number m.id == number id) xs) (sum_by one xs) has (none_counts number id xs) in
    let e : sum_by one (x ∷ xs) ≡ one x + sum_by one xs = sum_by-cons one x xs in
    omega (arith, r, e)

pub times_in : {C : Type 0} (number : C → ℕ) (id : C) (l : List (Member C)) (ls : List (List (Member C))) → times number id (all_members (l ∷ ls)) ≡ times number id l + times number id (all_members ls)
times_in {C} number id l ls = sum_by-append (λ (m : Member C). cond (number m.id == number id) 1 0) l (all_members ls)

all_same : {C : Type 0} (number : C → ℕ) (id : C) (ls : List (List (Member C))) → times number id (all_members ls) < 1 → map (without_member number id) ls ≡ ls
all_same number id [] few = refl
all_same {C} number id (l ∷ ls) few =
    let both : times number id (all_members (l ∷ ls)) ≡ times number id l + times number id (all_members ls) = times_in number id l ls in
    let none : has_id number id l ≡ false = not_true_then (has_id number id l) (λ has. let n : 1 ≤ times number id l = has_counts number id l has in omega (arith, n, both, few)) in
    rw (without_same number id l none) (ap (λ rest. l ∷ rest) (all_same number id ls (omega (arith, both, few))))

-- the first list that has the id loses it
pub first_loses : {C : Type 0} (number : C → ℕ) (id : C) (ls : List (List (Member C))) (i : ℕ) → i < length ls → ((k : ℕ) → k < i → has_id number id (list_at ls k) ≡ false) → has_id number id (list_at ls i) ≡ true → times number id (all_members ls) ≤ 1 → slice_set ls i (without_member number id (list_at ls i)) ≡ released number id ls
unfolding released
first_loses number id [] i lt before has once = absurd (omega arith)
first_loses {C} number id (l ∷ ls) zero lt before has once =
    let n : 1 ≤ times number id l = has_counts number id l has in
    let both : times number id (all_members (l ∷ ls)) ≡ times number id l + times number id (all_members ls) = times_in number id l ls in
    ap (λ rest. without_member number id l ∷ rest) (sym (all_same number id ls (omega (arith, n, both, once))))
first_loses {C} number id (l ∷ ls) (suc i) lt before has once =
    let none : has_id number id l ≡ false = before 0 (omega arith) in
    let both : times number id (all_members (l ∷ ls)) ≡ times number id l + times number id (all_members ls) = times_in number id l ls in
    let later : slice_set ls i (without_member number id (list_at ls i)) ≡ map (without_member number id) ls = first_loses number id ls i (omega arith) (λ k low. before (suc k) (omega arith)) has (omega (arith, both, once)) in
    ap (λ rest. l ∷ rest) later ∙ ap (λ m. m ∷ map (without_member number id) ls) (sym (without_same number id l none))

counted_at : {C : Type 0} (number : C → ℕ) (id : C) (ls : List (List (Member C))) (i : ℕ) → i < length ls → has_id number id (list_at ls i) ≡ true → 1 ≤ times number id (all_members ls)
counted_at number id [] i lt has = absurd (omega arith)
counted_at number id (l ∷ ls) zero lt has =
    let n : 1 ≤ times number id l = has_counts number id l has in
    let both : times number id (all_members (l ∷ ls)) ≡ times number id l + times number id (all_members ls) = times_in number id l ls in
    omega (arith, n, both)
counted_at number id (l ∷ ls) (suc i) lt has =
    let n : 1 ≤ times number id (all_members ls) = counted_at number id ls i (omega arith) has in
    let both : times number id (all_members (l ∷ ls)) ≡ times number id l + times number id (all_members ls) = times_in number id l ls in
    omega (arith, n, both)

pub found_once : {C : Type 0} (number : C → ℕ) (id : C) (ls : List (List (Member C))) (i : ℕ) → i < length ls → has_id number id (list_at ls i) ≡ true → times number id (all_members ls) ≤ 1 → 1 ≡ times number id (all_members ls)
found_once number id ls i lt has once = let n : 1 ≤ times number id (all_members ls) = counted_at number id ls i lt has in omega (arith, n, once)

-- no list has the id
pub none_loses : {C : Type 0} (number : C → ℕ) (id : C) (ls : List (List (Member C))) → ((k : ℕ) → k < length ls → has_id number id (list_at ls k) ≡ false) → ls ≡ released number id ls
unfolding released
none_loses number id [] none = refl
none_loses {C} number id (l ∷ ls) none =
    let rest : ls ≡ map (without_member number id) ls = none_loses number id ls (λ k lt. none (suc k) (omega arith)) in
    ap (λ r. l ∷ r) rest ∙ ap (λ m. m ∷ map (without_member number id) ls) (sym (without_same number id l (none 0 (omega arith))))

pub none_times : {C : Type 0} (number : C → ℕ) (id : C) (ls : List (List (Member C))) → ((k : ℕ) → k < length ls → has_id number id (list_at ls k) ≡ false) → 0 ≡ times number id (all_members ls)
none_times number id [] none = refl
none_times {C} number id (l ∷ ls) none =
    let both : times number id (all_members (l ∷ ls)) ≡ times number id l + times number id (all_members ls) = times_in number id l ls in
    let here : times number id l ≡ 0 = none_counts number id l (none 0 (omega arith)) in
    let rest : 0 ≡ times number id (all_members ls) = none_times number id ls (λ k lt. none (suc k) (omega arith)) in
    omega (arith, both, here, rest)
