-- What every colouring keeps when a constraint is placed or released.
use Rattle.std.proofs.Common.{◌≡◌, ◌≢◌, ℕ, zero, suc, ◌+◌, ◌<◌, ◌≤◌, ◌==◌, ◌||◌, ◌++◌, Bool, true, false, not, cond, List, [], ◌∷◌, length, get_or, take, map, slice_set, subst, Some, None, refl, sym, ap, ◌∙◌, arith, get_or-set_same, get_or-set_other, inl, inr}
use Rattle.std.specs.List.{All, filter, list_any, count_by, sum_by, position_or_len}
use Rattle.std.specs.List.Sorted.{IsPermutation}
use Rattle.std.proofs.lemmas.Bool.{cases_eq}
use Rattle.std.proofs.lemmas.List.{length-set, length-map, get_or-take, take-map}
use Rattle.std.proofs.lemmas.List.Elements.{All-set, All-map, All-weaker, filter-append, All-from_get_or}
use Rattle.std.proofs.lemmas.List.Folds.{position_or_len-set, list_any-append}
use Rattle.std.proofs.lemmas.List.Sums.{position_or_len_is, passes_at_first, sum_by-cons}
use Rattle.std.proofs.lemmas.List.Sorted.{IsPermutation-trans, IsPermutation-append_left, IsPermutation-append_right, sum_by-IsPermutation}
use Rattle.graph_colours.specs.declared.limits.TheConstants.{COLOURS}
use Rattle.graph_colours.specs.declared.member.Movers.{Movers}
use Rattle.graph_colours.specs.declared.member.Member.{Member}
use Rattle.graph_colours.specs.Members.{AreRising, AreApart, is_free, inserted, without_member}
use Rattle.graph_colours.specs.FoundMembers.{has_id, colour_of}
use Rattle.graph_colours.specs.Colours.{list_at, all_members, least_colour, with_placed, released, IsColouring}
use Rattle.graph_colours.proofs.Cases.{by_test, or_left, or_right}
use Rattle.graph_colours.proofs.PlaceLemmas.{is_same, not_same}
use Rattle.graph_colours.proofs.ListLemmas.{moved_behind, same_inserted, rising_inserted, apart_inserted, rising_without, apart_without}
use Rattle.graph_colours.proofs.SearchLemmas.{position_some, none_passes, none_passing, found_in_map, has_inserted, has_without, has_other}

-- the colour is one of those or the overflow
pub first_at_most : {X : Type 0} (p : X → Bool) (xs : List X) → position_or_len p xs ≤ length xs
first_at_most p [] = omega arith
first_at_most p (x ∷ xs) = let r : position_or_len p xs ≤ length xs = first_at_most p xs in
    by_test (λ n. n ≤ suc (length xs)) (not (p x)) (1 + position_or_len p xs) 0 (λ q. omega arith) (λ q. omega arith)

pub short_enough : {X : Type 0} (n : ℕ) (xs : List X) → length (take n xs) ≤ n
short_enough zero xs = omega arith
short_enough (suc n) [] = omega arith
short_enough (suc n) (x ∷ xs) = let r : length (take n xs) ≤ n = short_enough n xs in omega arith

pub least_at_most : {C : Type 0} (lists : List (List (Member C))) (movers : Movers) → least_colour lists movers ≤ COLOURS
unfolding least_colour
least_at_most lists movers =
    let a : position_or_len (λ ms. is_free ms movers) (take COLOURS lists) ≤ length (take COLOURS lists) = first_at_most (λ ms. is_free ms movers) (take COLOURS lists) in
    let b : length (take COLOURS lists) ≤ COLOURS = short_enough COLOURS lists in
    omega arith

pub enough : {X : Type 0} (n : ℕ) (xs : List X) → n ≤ length xs → length (take n xs) ≡ n
enough zero xs le = refl
enough (suc n) [] le = absurd (omega arith)
enough (suc n) (x ∷ xs) le = let r : length (take n xs) ≡ n = enough n xs (omega arith) in omega arith

pub free_at_least : {C : Type 0} (lists : List (List (Member C))) (movers : Movers) → length lists ≡ COLOURS + 1 → least_colour lists movers < COLOURS → is_free (list_at lists (least_colour lists movers)) movers ≡ true
unfolding least_colour
free_at_least {C} lists movers n lt =
    let p : List (Member C) → Bool = λ ms. is_free ms movers in
    let c : ℕ = position_or_len p (take COLOURS lists) in
    let len : length (take COLOURS lists) ≡ COLOURS = enough COLOURS lists (omega arith) in
    let at : p (get_or (take COLOURS lists) c []) ≡ true = passes_at_first p (take COLOURS lists) [] (omega arith) in
    let same : get_or (take COLOURS lists) c [] ≡ get_or lists c [] = get_or-take COLOURS lists c [] lt in
    ap p (sym same) ∙ at

-- the members of all lists, one list changed
pub all_set : {C : Type 0} (number : C → ℕ) (m : Member C) (lists : List (List (Member C))) (i : ℕ) → i < length lists → IsPermutation (m ∷ all_members lists) (all_members (slice_set lists i (inserted number m (list_at lists i))))
all_set number m [] i lt = absurd (omega arith)
all_set number m (l ∷ ls) zero lt = IsPermutation-append_left (all_members ls) (m ∷ l) (inserted number m l) (same_inserted number m l)
all_set {C} number m (l ∷ ls) (suc i) lt =
    let rest : List (Member C) = all_members (slice_set ls i (inserted number m (list_at ls i))) in
    let more : IsPermutation (m ∷ all_members ls) rest = all_set number m ls i (omega arith) in
    IsPermutation-trans (m ∷ (l ++ all_members ls)) (l ++ (m ∷ all_members ls)) (l ++ rest) (moved_behind m l (all_members ls)) (IsPermutation-append_right l (m ∷ all_members ls) rest more)

pub all_without : {C : Type 0} (number : C → ℕ) (id : C) (lists : List (List (Member C))) → all_members (map (without_member number id) lists) ≡ without_member number id (all_members lists)
unfolding without_member
all_without number id [] = refl
all_without number id (l ∷ ls) = ap (λ r. without_member number id l ++ r) (all_without number id ls) ∙ sym (filter-append (λ m. not (number m.id == number id)) l (all_members ls))

-- how often a number stands
pub count_fewer : {X : Type 0} (p q : X → Bool) (xs : List X) → count_by p (filter q xs) ≤ count_by p xs
count_fewer p q [] = omega arith
count_fewer {X} p q (x ∷ xs) =
    let one : X → ℕ = λ y. cond (p y) 1 0 in
    let r : sum_by one (filter q xs) ≤ sum_by one xs = count_fewer p q xs in
    let a : sum_by one (x ∷ xs) ≡ one x + sum_by one xs = sum_by-cons one x xs in
    let b : sum_by one (x ∷ filter q xs) ≡ one x + sum_by one (filter q xs) = sum_by-cons one x (filter q xs) in
    by_test (λ l. sum_by one l ≤ sum_by one (x ∷ xs)) (q x) (x ∷ filter q xs) (filter q xs) (λ h. omega arith) (λ h. omega arith)

pub count_none : {X : Type 0} (p : X → Bool) (xs : List X) → list_any p xs ≡ false → count_by p xs ≡ 0
count_none p [] h = refl
count_none {X} p (x ∷ xs) h =
    let one : X → ℕ = λ y. cond (p y) 1 0 in
    let here : p x ≡ false = or_left (p x) (list_any p xs) h in
    let rest : sum_by one xs ≡ 0 = count_none p xs (or_right (p x) (list_any p xs) h) in
    let z : one x ≡ 0 = rw here refl in
    sum_by-cons one x xs ∙ rw (z, rest) refl

pub absent_everywhere : {C : Type 0} (number : C → ℕ) (id : C) (lists : List (List (Member C))) → All (λ ms. has_id number id ms ≡ false) lists → list_any (λ m. number m.id == number id) (all_members lists) ≡ false
unfolding has_id
absent_everywhere number id [] none = refl
absent_everywhere number id (l ∷ ls) none = list_any-append (λ m. number m.id == number id) l (all_members ls) ∙ rw (none 0 l (omega arith), absent_everywhere number id ls (λ k d lt. none (suc k) d (omega arith))) refl

-- the constraint has no colour
pub absent_in_each : {C : Type 0} (number : C → ℕ) (id : C) (lists : List (List (Member C))) → colour_of number id lists ≡ None → All (λ ms. has_id number id ms ≡ false) lists
unfolding colour_of
absent_in_each number id lists h k d lt = none_passes (has_id number id) lists h k d lt

pub once_placed : {C : Type 0} (number : C → ℕ) (m : Member C) (old new : List (Member C)) → IsPermutation (m ∷ old) new → list_any (λ x. number x.id == number m.id) old ≡ false → ((n : ℕ) → count_by (λ x. number x.id == n) old ≤ 1) → (n : ℕ) → count_by (λ x. number x.id == n) new ≤ 1
once_placed {C} number m old new same absent once n =
    let one : Member C → ℕ = λ x. cond (number x.id == n) 1 0 in
    let a : sum_by one new ≡ sum_by one (m ∷ old) = sum_by-IsPermutation one (m ∷ old) new same in
    let b : sum_by one (m ∷ old) ≡ one m + sum_by one old = sum_by-cons one m old in
    let o : sum_by one old ≤ 1 = once n in
    let here : number m.id ≡ n → sum_by one new ≤ 1 = λ q.
    let P : ℕ → Type 0 = λ j. list_any (λ x. number x.id == j) old ≡ false in
    let z : sum_by one old ≡ 0 = count_none (λ x. number x.id == n) old (subst P q absent) in
    let t : one m ≡ 1 = rw (is_same (number m.id) n q) refl in
    let e : sum_by one new ≡ 1 = a ∙ b ∙ rw (t, z) refl in
    omega arith in
    let there : (number m.id ≡ n → ⊥) → sum_by one new ≤ 1 = λ h.
    let t : one m ≡ 0 = rw (not_same (number m.id) n h) refl in
    let e : sum_by one new ≡ 0 + sum_by one old = a ∙ b ∙ ap (λ k. k + sum_by one old) t in
    omega (arith, e, o) in
    elim (cases_eq (number m.id) n) [ inl q ↦ here q | inr h ↦ there h ]

pub apart_placed : {C : Type 0} (lists : List (List (Member C))) (c : ℕ) (ms : List (Member C)) → length lists ≡ COLOURS + 1 → All AreApart (take COLOURS lists) → (c < COLOURS → AreApart ms) → All AreApart (take COLOURS (slice_set lists c ms))
apart_placed {C} lists c ms n apart h =
    let len : length (take COLOURS (slice_set lists c ms)) ≤ COLOURS = short_enough COLOURS (slice_set lists c ms) in
    let len' : length (take COLOURS lists) ≡ COLOURS = enough COLOURS lists (omega arith) in
    let P : List (Member C) → Type 0 = AreApart in
    All-from_get_or P (take COLOURS (slice_set lists c ms)) [] (λ k lt.
    let below : k < COLOURS = omega arith in
    let at : get_or (take COLOURS (slice_set lists c ms)) k [] ≡ get_or (slice_set lists c ms) k [] = get_or-take COLOURS (slice_set lists c ms) k [] below in
    let here : k ≡ c → P (get_or (slice_set lists c ms) k []) = λ q.
    let Q : ℕ → Type 0 = λ j. P (get_or (slice_set lists c ms) j []) in
    subst Q (sym q) (subst P (sym (get_or-set_same lists c ms [] (omega arith))) (h (omega arith))) in
    let there : (k ≡ c → ⊥) → P (get_or (slice_set lists c ms) k []) = λ o.
    subst P (get_or-take COLOURS lists k [] below ∙ sym (get_or-set_other lists c k ms [] o)) (apart k [] (omega arith)) in
    subst P (sym at) (elim (cases_eq k c) [ inl q ↦ here q | inr o ↦ there o ]))

-- a constraint placed
pub placed_members : {C : Type 0} (number : C → ℕ) (m : Member C) (lists : List (List (Member C))) → IsColouring number lists → IsPermutation (m ∷ all_members lists) (all_members (with_placed number m lists))
unfolding with_placed
placed_members number m lists keeps = all_set number m lists (least_colour lists m.movers) (let c : least_colour lists m.movers ≤ COLOURS = least_at_most lists m.movers in let n : length lists ≡ COLOURS + 1 = keeps.count in omega arith)

pub placed_keeps : {C : Type 0} (number : C → ℕ) (m : Member C) (lists : List (List (Member C))) → IsColouring number lists → colour_of number m.id lists ≡ None → IsColouring number (with_placed number m lists)
unfolding with_placed
placed_keeps {C} number m lists keeps absent =
    let c : ℕ = least_colour lists m.movers in
    let most : c ≤ COLOURS = least_at_most lists m.movers in
    let n : length lists ≡ COLOURS + 1 = keeps.count in
    let lt : c < length lists = omega arith in
    let none : All (λ ms. has_id number m.id ms ≡ false) lists = absent_in_each number m.id lists absent in
    let rising : AreRising number (list_at lists c) = keeps.rising c [] lt in
    record {
      count = length-set lists c (inserted number m (list_at lists c)) ∙ n;
      rising = All-set (AreRising number) lists c (inserted number m (list_at lists c)) (rising_inserted number m (list_at lists c) rising (none c [] lt)) keeps.rising;
      apart = apart_placed lists c (inserted number m (list_at lists c)) n keeps.apart (λ h.
          let at : get_or (take COLOURS lists) c [] ≡ list_at lists c = get_or-take COLOURS lists c [] h in
          let len : length (take COLOURS lists) ≡ COLOURS = enough COLOURS lists (omega arith) in
          let P : List (Member C) → Type 0 = AreApart in
          let apart : AreApart (list_at lists c) = subst P at (keeps.apart c [] (omega arith)) in
          apart_inserted number m (list_at lists c) rising apart (free_at_least lists m.movers n h));
      once = once_placed number m (all_members lists) (all_members (slice_set lists c (inserted number m (list_at lists c)))) (all_set number m lists c lt) (absent_everywhere number m.id lists none) keeps.once;
    }

pub placed_own : {C : Type 0} (number : C → ℕ) (m : Member C) (lists : List (List (Member C))) → IsColouring number lists → colour_of number m.id lists ≡ None → colour_of number m.id (with_placed number m lists) ≡ Some (least_colour lists m.movers)
unfolding with_placed colour_of
placed_own {C} number m lists keeps absent =
    let p : List (Member C) → Bool = has_id number m.id in
    let c : ℕ = least_colour lists m.movers in
    let new : List (List (Member C)) = slice_set lists c (inserted number m (list_at lists c)) in
    let most : c ≤ COLOURS = least_at_most lists m.movers in
    let n : length lists ≡ COLOURS + 1 = keeps.count in
    let len : length new ≡ length lists = length-set lists c (inserted number m (list_at lists c)) in
    let at : p (get_or new c []) ≡ true = ap p (get_or-set_same lists c (inserted number m (list_at lists c)) [] (omega arith)) ∙ has_inserted number m.id m (list_at lists c) ∙ ap (λ t. t || p (list_at lists c)) (is_same (number m.id) (number m.id) refl) in
    let first : position_or_len p new ≡ c = position_or_len_is p new c [] (omega arith) (λ k lt. ap p (get_or-set_other lists c k (inserted number m (list_at lists c)) [] (λ q. omega arith)) ∙ none_passes p lists absent k [] (omega arith)) (λ lt. at) in
    position_some p new (omega arith) ∙ ap (λ j. Some j) first

pub placed_others : {C : Type 0} (number : C → ℕ) (m : Member C) (lists : List (List (Member C))) (other : C) → number other ≢ number m.id → colour_of number other (with_placed number m lists) ≡ colour_of number other lists
unfolding with_placed colour_of
placed_others {C} number m lists other far =
    let p : List (Member C) → Bool = has_id number other in
    let c : ℕ = least_colour lists m.movers in
    let put : List (Member C) = inserted number m (list_at lists c) in
    let same : p put ≡ p (get_or lists c []) = has_inserted number other m (list_at lists c) ∙ ap (λ t. t || p (list_at lists c)) (not_same (number m.id) (number other) (λ q. far (sym q))) in
    let first : position_or_len p (slice_set lists c put) ≡ position_or_len p lists = position_or_len-set p lists c put [] same in
    let len : length (slice_set lists c put) ≡ length lists = length-set lists c put in
    rw (first, len) refl

-- a constraint released
pub released_members : {C : Type 0} (number : C → ℕ) (id : C) (lists : List (List (Member C))) → all_members (released number id lists) ≡ without_member number id (all_members lists)
unfolding released
released_members number id lists = all_without number id lists

pub count_released : {C : Type 0} (number : C → ℕ) (id : C) (ms : List (Member C)) (n : ℕ) → count_by (λ m. number m.id == n) (without_member number id ms) ≤ count_by (λ m. number m.id == n) ms
unfolding without_member
count_released number id ms n = count_fewer (λ m. number m.id == n) (λ m. not (number m.id == number id)) ms

pub released_keeps : {C : Type 0} (number : C → ℕ) (id : C) (lists : List (List (Member C))) → IsColouring number lists → IsColouring number (released number id lists)
unfolding released
released_keeps {C} number id lists keeps = record {
  count = length-map lists (without_member number id) ∙ keeps.count;
  rising = All-map (AreRising number) (without_member number id) lists (All-weaker (AreRising number) (λ ms. AreRising number (without_member number id ms)) (rising_without number id) lists keeps.rising);
  apart = let P : List (Member C) → Type 0 = AreApart in
      rw (take-map (without_member number id) COLOURS lists) (All-map P (without_member number id) (take COLOURS lists) (All-weaker P (λ ms. P (without_member number id ms)) (apart_without number id) (take COLOURS lists) keeps.apart));
  once = λ n. rw (all_without number id lists) (let a : count_by (λ m. number m.id == n) (without_member number id (all_members lists)) ≤ count_by (λ m. number m.id == n) (all_members lists) = count_released number id (all_members lists) n in let b : count_by (λ m. number m.id == n) (all_members lists) ≤ 1 = keeps.once n in omega arith);
}

pub released_own : {C : Type 0} (number : C → ℕ) (id : C) (lists : List (List (Member C))) → colour_of number id (released number id lists) ≡ None
unfolding released colour_of
released_own {C} number id lists = none_passing (has_id number id) (map (without_member number id) lists) (All-map (λ ms. has_id number id ms ≡ false) (without_member number id) lists (λ k d lt. has_without number id (get_or lists k d)))

pub released_others : {C : Type 0} (number : C → ℕ) (id : C) (lists : List (List (Member C))) (other : C) → number other ≢ number id → colour_of number other (released number id lists) ≡ colour_of number other lists
unfolding released colour_of
released_others {C} number id lists other far =
    let first : position_or_len (has_id number other) (map (without_member number id) lists) ≡ position_or_len (has_id number other) lists = found_in_map (without_member number id) (has_id number other) (has_id number other) lists (λ ms. has_other number id other ms far) in
    let len : length (map (without_member number id) lists) ≡ length lists = length-map lists (without_member number id) in
    rw (first, len) refl
