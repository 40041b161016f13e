-- The names of sleeping islands: gathered slot by slot, sorted, and each taken once.
use Rattle.std.proofs.Common.{◌≡◌, ◌≢◌, ℕ, zero, suc, ◌+◌, ◌<◌, ◌≤◌, ◌==◌, ◌⊎◌, Bool, true, false, cond, nat_lt, ltb-true, ltb-false, List, [], ◌∷◌, ◌++◌, length, get_or, drop, Option, None, Some, refl, sym, ap, ◌∙◌, inl, inr, subst, arith, add-one, eqb}
use Rattle.std.specs.Prelude.{Contains, fold}
use Rattle.std.specs.List.{All, AllPairs, cons_option, dedup, filter_map}
use Rattle.std.specs.List.Sorted.{IsPermutation, IsSorted, IsStrictlyIncreasing}
use Rattle.std.specs.Option.{option_to_list}
use Rattle.std.specs.Ordering.{nat_cmp}
use Rattle.std.proofs.lemmas.Bool.{false≢true, eq-eqb}
use Rattle.std.proofs.lemmas.List.{append-nil, drop_all}
use Rattle.std.proofs.lemmas.List.Elements.{All-contains, Contains-get_or}
use Rattle.std.proofs.lemmas.List.Kept.{AllPairs-cons, AllPairs-from_increasing, Contains-dedup_nat, Contains-from_dedup}
use Rattle.std.proofs.lemmas.List.Sorted.{Contains-permutation, IsPermutation-sym}
use Rattle.std.proofs.lemmas.Map.Keys.{IsStrictlyIncreasing-dedup}
use Rattle.graph_colours.proofs.ListLemmas.{pairs_head, pairs_tail, pairs_none}
use Rattle.islands.specs.Labels.{Labels}
use Rattle.islands.proofs.JoinLemmas.{contains_cases, contains_head, contains_tail}
use Rattle.sleep_wake.specs.Sleeping.{name_at, with_one_name, with_name, sleeping_names}
use Rattle.sleep_wake.proofs.ListLemmas.{none_in}
use Rattle.sleep_wake.proofs.AwakeSlotsLaws.{same_rising}
use Rattle.sleep_wake.proofs.LawLemmas.{name_in, names_kept}

-- ---- numbers that are sorted, and each taken once

pub sorted_has : (numbers sorted kept : List ℕ) → IsPermutation numbers sorted → kept ≡ dedup eqb sorted → (n : ℕ) → Contains numbers n → Contains kept n
sorted_has numbers sorted kept moved is n h = rw is (Contains-dedup_nat sorted n (Contains-permutation numbers sorted n moved h))

pub sorted_has_no_more : (numbers sorted kept : List ℕ) → IsPermutation numbers sorted → kept ≡ dedup eqb sorted → (n : ℕ) → Contains kept n → Contains numbers n
sorted_has_no_more numbers sorted kept moved is n h =
    let once : Contains (dedup eqb sorted) n = subst (λ (l : List ℕ). Contains l n) is h in
    Contains-permutation sorted numbers n (IsPermutation-sym numbers sorted moved) (Contains-from_dedup eqb sorted n once)

pub sorted_rises : (sorted kept : List ℕ) → IsSorted nat_cmp sorted → kept ≡ dedup eqb sorted → IsStrictlyIncreasing kept
sorted_rises sorted kept line is = rw is (IsStrictlyIncreasing-dedup sorted line)

-- ---- the names are gathered

option_step : (o : Option ℕ) (xs rest : List ℕ) → (xs ++ option_to_list o) ++ rest ≡ xs ++ cons_option o rest
option_step None [] rest = refl
option_step (Some e) [] rest = refl
option_step None (f ∷ xs) rest = ap (λ (l : List ℕ). f ∷ l) (option_step None xs rest)
option_step (Some e) (f ∷ xs) rest = ap (λ (l : List ℕ). f ∷ l) (option_step (Some e) xs rest)

drop_next : (l : List ℕ) (n d : ℕ) → n < length l → drop n l ≡ get_or l n d ∷ drop (suc n) l
drop_next [] n d h = absurd (omega (arith, h))
drop_next (x ∷ l) zero d h = refl
drop_next (x ∷ l) (suc n) d h = drop_next l n d (omega (arith, h))

-- that of one more slot
pub name_step : (labels : Labels) (slots : List ℕ) (k slot d : ℕ) (o : Option ℕ) (now more whole : List ℕ) → k < length slots → slot ≡ get_or slots k d → o ≡ name_at labels slot → more ≡ now ++ option_to_list o
    → (now ++ filter_map (name_at labels) (drop k slots)) ≡ whole → (more ++ filter_map (name_at labels) (drop (k + 1) slots)) ≡ whole
name_step labels slots k slot d o now more whole lt is found added so =
    let head : drop k slots ≡ slot ∷ drop (suc k) slots = drop_next slots k d lt ∙ ap (λ (x : ℕ). x ∷ drop (suc k) slots) (sym is) in
    let rest : List ℕ = filter_map (name_at labels) (drop (suc k) slots) in
    rw add-one (ap (λ (l : List ℕ). l ++ rest) added ∙ option_step o now rest ∙ ap (λ (x : Option ℕ). now ++ cons_option x rest) found ∙ ap (λ (l : List ℕ). now ++ filter_map (name_at labels) l) (sym head) ∙ so)

-- those of all slots
pub names_gathered : (labels : Labels) (slots : List ℕ) (k : ℕ) (now : List ℕ) → length slots ≤ k → (now ++ filter_map (name_at labels) (drop k slots)) ≡ filter_map (name_at labels) slots → now ≡ filter_map (name_at labels) slots
names_gathered labels slots k now end so = sym (append-nil now) ∙ ap (λ (l : List ℕ). now ++ filter_map (name_at labels) l) (sym (drop_all k slots end)) ∙ so

-- ---- a list with one more name has no others

one_from_by : (name n : ℕ) (names : List ℕ) (x : ℕ) (t u : Bool) → Contains (cond t (n ∷ with_one_name name names) (cond u (n ∷ names) (name ∷ n ∷ names))) x → (Contains (with_one_name name names) x → (name ≡ x) ⊎ Contains names x) → (name ≡ x) ⊎ Contains (n ∷ names) x
one_from_by name n names x true u h f = elim (contains_cases n (with_one_name name names) x h) [
  | inl e ↦ let P : ℕ → Type 0 = λ v. Contains (n ∷ names) v in inr (subst P e (contains_head n names))
  | inr i ↦ elim (f i) [ inl e ↦ inl e | inr k ↦ inr (contains_tail n names x k) ]
]
one_from_by name n names x false true h f = inr h
one_from_by name n names x false false h f = contains_cases name (n ∷ names) x h

one_from : (name : ℕ) (names : List ℕ) (x : ℕ) → Contains (with_one_name name names) x → (name ≡ x) ⊎ Contains names x
one_from name [] x h = contains_cases name [] x h
one_from name (n ∷ names) x h = one_from_by name n names x (nat_lt n name) (n == name) h (one_from name names x)

-- ---- and ascends as it did

abbrev Below : ℕ → ℕ → Type 0
Below n later = n < later

above_one : (low name : ℕ) (names : List ℕ) → low < name → All (Below low) names → (x : ℕ) → Contains (with_one_name name names) x → low < x
above_one low name names lt all x h = elim (one_from name names x h) [
  | inl e ↦ omega (arith, lt, e)
  | inr i ↦ All-contains (Below low) names x all i
]

above_all : (name n : ℕ) (names : List ℕ) → name < n → All (Below n) names → (x : ℕ) → Contains (n ∷ names) x → name < x
above_all name n names lt all x h = elim (contains_cases n names x h) [
  | inl e ↦ omega (arith, lt, e)
  | inr i ↦ let up : n < x = All-contains (Below n) names x all i in omega (arith, lt, up)
]

other_above : (name n : ℕ) → name ≤ n → n ≢ name → name < n
other_above name n le off = omega (arith, le, off)

put_by : (name n : ℕ) (names : List ℕ) (t u : Bool) → nat_lt n name ≡ t → (n == name) ≡ u → AllPairs Below (n ∷ names) → AllPairs Below (with_one_name name names) → AllPairs Below (cond t (n ∷ with_one_name name names) (cond u (n ∷ names) (name ∷ n ∷ names)))
put_by name n names true u e q r rest =
    let more : List ℕ = with_one_name name names in
    let lt : n < name = ltb-true _ _ e in
    AllPairs-cons Below n more (λ k d l. above_one n name names lt (pairs_head Below n names r) (get_or more k d) (Contains-get_or more k d l)) rest
put_by name n names false true e q r rest = r
put_by name n names false false e q r rest =
    let le : name ≤ n = ltb-false _ _ e in
    let lt : name < n = other_above name n le (λ h. false≢true (sym q ∙ eq-eqb n name h)) in
    AllPairs-cons Below name (n ∷ names) (λ k d l. above_all name n names lt (pairs_head Below n names r) (get_or (n ∷ names) k d) (Contains-get_or (n ∷ names) k d l)) r

put_rises : (name : ℕ) (names : List ℕ) → AllPairs Below names → AllPairs Below (with_one_name name names)
put_rises name [] r = AllPairs-cons Below name [] (λ k d l. absurd (omega (arith, l))) r
put_rises name (n ∷ names) r = put_by name n names (nat_lt n name) (n == name) refl refl r (put_rises name names (pairs_tail Below n names r))

with_rises : (o : Option ℕ) (names : List ℕ) → AllPairs Below names → AllPairs Below (with_name o names)
with_rises None names r = r
with_rises (Some name) names r = put_rises name names r

names_rise : (labels : Labels) (names slots : List ℕ) → AllPairs Below names → AllPairs Below (fold (λ ns slot. with_name (name_at labels slot) ns) names slots)
names_rise labels names [] r = r
names_rise labels names (slot ∷ slots) r = names_rise labels (with_name (name_at labels slot) names) slots (with_rises (name_at labels slot) names r)

-- ---- what is gathered has the names, and no others

in_option : (o : Option ℕ) (x : ℕ) (rest : List ℕ) → Contains (cons_option o rest) x → (o ≡ Some x) ⊎ Contains rest x
in_option None x rest h = inr h
in_option (Some n) x rest h = elim (contains_cases n rest x h) [ inl e ↦ inl (ap (λ (v : ℕ). Some v) e) | inr k ↦ inr k ]

gathered_are : (labels : Labels) (names slots : List ℕ) (x : ℕ) → Contains (filter_map (name_at labels) slots) x → Contains (fold (λ ns slot. with_name (name_at labels slot) ns) names slots) x
gathered_are labels names [] x h = absurd (none_in x h)
gathered_are labels names (slot ∷ slots) x h = elim (in_option (name_at labels slot) x (filter_map (name_at labels) slots) h) [
  | inl e ↦ names_kept labels (with_name (name_at labels slot) names) slots x (name_in (name_at labels slot) names x (inl e))
  | inr k ↦ gathered_are labels (with_name (name_at labels slot) names) slots x k
]

with_from : (o : Option ℕ) (names rest : List ℕ) (x : ℕ) → Contains (with_name o names) x ⊎ Contains rest x → Contains names x ⊎ Contains (cons_option o rest) x
with_from None names rest x h = h
with_from (Some name) names rest x h = elim h [
  | inl i ↦ elim (one_from name names x i) [
    | inl e ↦ let P : ℕ → Type 0 = λ v. Contains (name ∷ rest) v in inr (subst P e (contains_head name rest))
    | inr k ↦ inl k
  ]
  | inr i ↦ inr (contains_tail name rest x i)
]

are_gathered : (labels : Labels) (names slots : List ℕ) (x : ℕ) → Contains (fold (λ ns slot. with_name (name_at labels slot) ns) names slots) x → Contains names x ⊎ Contains (filter_map (name_at labels) slots) x
are_gathered labels names [] x h = inl h
are_gathered labels names (slot ∷ slots) x h = with_from (name_at labels slot) names (filter_map (name_at labels) slots) x (are_gathered labels (with_name (name_at labels slot) names) slots x h)

-- sorted, and each taken once, they are the names
pub names_sorted : (labels : Labels) (slots gathered kept : List ℕ) → gathered ≡ filter_map (name_at labels) slots → IsStrictlyIncreasing kept → ((n : ℕ) → Contains gathered n → Contains kept n) → ((n : ℕ) → Contains kept n → Contains gathered n) → kept ≡ sleeping_names labels slots
names_sorted labels slots gathered kept is line all none_new =
    same_rising kept (sleeping_names labels slots) (AllPairs-from_increasing kept line) (names_rise labels [] slots (pairs_none Below))
    (λ n h. gathered_are labels [] slots n (subst (λ (l : List ℕ). Contains l n) is (none_new n h)))
    (λ n h. all n (subst (λ (l : List ℕ). Contains l n) (sym is) (elim (are_gathered labels [] slots n h) [ inl i ↦ absurd (none_in n i) | inr i ↦ i ])))
