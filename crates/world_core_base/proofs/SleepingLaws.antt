-- Items that sleep, each in the set of its name: what is kept once one comes, and once a set wakes.
use Rattle.std.proofs.Common.{◌≡◌, ◌≢◌, ℕ, zero, suc, ◌-◌, ◌<◌, ◌≤◌, List, [], ◌∷◌, ◌++◌, length, map, replicate, slice_set, Option, Some, None, inl, inr, refl, sym, ap, ◌∙◌, subst, arith}
use Rattle.std.specs.Prelude.{Contains, slice_get}
use Rattle.std.proofs.lemmas.Bool.{cases_eq}
use Rattle.std.proofs.lemmas.List.{length-append, length-replicate, length-set}
use Rattle.std.proofs.lemmas.List.Sorted.{Contains-permutation, IsPermutation-sym, length_permutation}
use Rattle.std.proofs.Math.Seq.{map-set_same}
use Rattle.packed_sets.specs.Linked.{Linked}
use Rattle.packed_sets.specs.Packs.{IsAbsent, IsPut, IsTaken, list_at}
use Rattle.packed_sets.proofs.ItemLaws.{head_in, in_cases, tail_in}
use Rattle.packed_sets.proofs.ListLaws.{member_at}
use Rattle.world_core_base.specs.Sleeping.{IsSleeping, sleep_at, woken}
use Rattle.world_core_base.proofs.FollowLaws.{sleep_beside, sleep_put, woken_each, woken_own}

-- an item that sleeps is noted
pub noted : (names : List (Option ℕ)) (id name : ℕ) → sleep_at names id ≡ Some name → id < length names
noted [] id name e = cc
noted (o ∷ names) zero name e = omega arith
noted (o ∷ names) (suc id) name e = let rest = noted names id name e in omega (arith, rest)

-- one that doesn't is in no set
pub absent : (names : List (Option ℕ)) (l : Linked) (id : ℕ) → IsSleeping names l → sleep_at names id ≡ None → IsAbsent l.sets id
absent names l id are up name h = let both : None ≡ Some name = sym up ∙ are.known id name h in cc

some_name : (a b : ℕ) → Some a ≡ Some b → a ≡ b
some_name a b e = cc

-- an item comes
pub kept_put : (names : List (Option ℕ)) (old new : Linked) (name id : ℕ) → IsSleeping names old → id < length names → sleep_at names id ≡ None → IsPut old.sets new.sets name id → new.ids ≡ old.ids → IsSleeping (slice_set names id (Some name)) new
kept_put names old new name id are lt up put ids = record {
  there = λ k n e. elim (cases_eq k id) [
    | inl same ↦ (let own : name ≡ n = some_name name n (sym (sleep_put names id (Some name) lt) ∙ ap (sleep_at (slice_set names id (Some name))) (sym same) ∙ e) in
        subst (λ (m : ℕ). Contains (list_at new.sets m) k) own (subst (λ (j : ℕ). Contains (list_at new.sets name) j) (sym same) (into id (head_in id (list_at old.sets name)))))
    | inr apart ↦ (let was : Contains (list_at old.sets n) k = are.there k n (sym (sleep_beside names id k (Some name) apart) ∙ e) in
        elim (cases_eq n name) [
          | inl own ↦ subst (λ (m : ℕ). Contains (list_at new.sets m) k) (sym own) (into k (tail_in id (list_at old.sets name) k (subst (λ (m : ℕ). Contains (list_at old.sets m) k) own was)))
          | inr other ↦ subst (λ (l : List ℕ). Contains l k) (sym (put.others n other)) was
        ])
  ];
  known = λ k n h. elim (cases_eq n name) [
    | inl own ↦ elim (in_cases id (list_at old.sets name) k (back k (subst (λ (m : ℕ). Contains (list_at new.sets m) k) own h))) [
      | inl same ↦ ap (sleep_at (slice_set names id (Some name))) same ∙ sleep_put names id (Some name) lt ∙ ap (λ (m : ℕ). Some m) (sym own)
      | inr rest ↦ still k n (subst (λ (m : ℕ). Contains (list_at old.sets m) k) (sym own) rest)
    ]
    | inr other ↦ still k n (subst (λ (l : List ℕ). Contains l k) (put.others n other) h)
  ];
  long = let same = length-set names id (Some name) in let was = are.long in omega (arith, same, was, ids);
}
  where
    into : (k : ℕ) → Contains (id ∷ list_at old.sets name) k → Contains (list_at new.sets name) k
    into k h = Contains-permutation (id ∷ list_at old.sets name) (list_at new.sets name) k (IsPermutation-sym (list_at new.sets name) (id ∷ list_at old.sets name) put.more) h

    back : (k : ℕ) → Contains (list_at new.sets name) k → Contains (id ∷ list_at old.sets name) k
    back k h = Contains-permutation (list_at new.sets name) (id ∷ list_at old.sets name) k put.more h

    -- whoever slept before is another
    still : (k n : ℕ) → Contains (list_at old.sets n) k → sleep_at (slice_set names id (Some name)) k ≡ Some n
    still k n h = let was : sleep_at names k ≡ Some n = are.known k n h in sleep_beside names id k (Some name) (λ e. let both : None ≡ Some n = sym up ∙ ap (sleep_at names) (sym e) ∙ was in cc) ∙ was

-- one goes out of its set
pub kept_taken : (names : List (Option ℕ)) (old new : Linked) (name id : ℕ) → IsSleeping names old → Contains (list_at old.sets name) id → IsTaken old.sets new.sets name id → IsAbsent new.sets id → new.ids ≡ old.ids → IsSleeping (slice_set names id None) new
kept_taken names old new name id are there taken gone ids = record {
  there = λ k n e. elim (cases_eq k id) [
    | inl same ↦ (let both : None ≡ Some n = sym (sleep_put names id None lt) ∙ ap (sleep_at (slice_set names id None)) (sym same) ∙ e in cc)
    | inr apart ↦ stays k n apart (are.there k n (sym (sleep_beside names id k None apart) ∙ e))
  ];
  known = λ k n h. elim (cases_eq k id) [
    | inl same ↦ absurd (gone n (subst (λ (j : ℕ). Contains (list_at new.sets n) j) same h))
    | inr apart ↦ sleep_beside names id k None apart ∙ are.known k n (was k n h)
  ];
  long = let same = length-set names id None in let before = are.long in omega (arith, same, before, ids);
}
  where
    lt : id < length names
    lt = noted names id name (are.known id name there)

    stays : (k n : ℕ) → k ≢ id → Contains (list_at old.sets n) k → Contains (list_at new.sets n) k
    stays k n apart h = elim (cases_eq n name) [
      | inl own ↦ elim (in_cases id (list_at new.sets name) k (Contains-permutation (list_at old.sets name) (id ∷ list_at new.sets name) k taken.less (subst (λ (m : ℕ). Contains (list_at old.sets m) k) own h))) [
        | inl same ↦ absurd (apart same)
        | inr rest ↦ subst (λ (m : ℕ). Contains (list_at new.sets m) k) (sym own) rest
      ]
      | inr other ↦ subst (λ (l : List ℕ). Contains l k) (sym (taken.others n other)) h
    ]

    was : (k n : ℕ) → Contains (list_at new.sets n) k → Contains (list_at old.sets n) k
    was k n h = elim (cases_eq n name) [
      | inl own ↦ subst (λ (m : ℕ). Contains (list_at old.sets m) k) (sym own) (Contains-permutation (id ∷ list_at new.sets name) (list_at old.sets name) k (IsPermutation-sym (list_at old.sets name) (id ∷ list_at new.sets name) taken.less) (tail_in id (list_at new.sets name) k (subst (λ (m : ℕ). Contains (list_at new.sets m) k) own h)))
      | inr other ↦ subst (λ (l : List ℕ). Contains l k) (taken.others n other) h
    ]

-- the set has fewer then
pub fewer_left : (old new : List (List ℕ)) (name id : ℕ) → IsTaken old new name id → length (list_at new name) < length (list_at old name)
fewer_left old new name id taken = let same = length_permutation (list_at old name) (id ∷ list_at new name) taken.less in omega (arith, same)

-- ---- a set wakes, one item after the other

-- all that wake are the same
pub still_woken : (names : List (Option ℕ)) (name id : ℕ) → sleep_at names id ≡ Some name → map (woken name) (slice_set names id None) ≡ map (woken name) names
still_woken names name id e = map-set_same (woken name) names id None None (sym (ap (woken name) e ∙ woken_own name))

-- where nobody sleeps, nobody wakes
pub all_woken : (names : List (Option ℕ)) (name : ℕ) → ((id : ℕ) → sleep_at names id ≡ Some name → ⊥) → map (woken name) names ≡ names
all_woken [] name off = refl
all_woken (o ∷ names) name off = ap (λ (p : Option ℕ). p ∷ map (woken name) names) (elim (woken_each name o) [ inl same ↦ same | inr woke ↦ absurd (off zero woke.0) ]) ∙ ap (λ (l : List (Option ℕ)). o ∷ l) (all_woken names name (λ id e. off (suc id) e))

-- a set that has no first item has none
pub none_first : (ids : List ℕ) → None ≡ slice_get ids 0 → ids ≡ []
none_first [] e = refl
none_first (id ∷ ids) e = cc

-- and the first one is in it
pub first_in : (ids : List ℕ) (id : ℕ) → Some id ≡ slice_get ids 0 → Contains ids id
first_in ids id e = member_at ids 0 id (sym e)

-- ---- more items

none_behind : (n k : ℕ) → sleep_at (replicate n None) k ≡ None
none_behind zero k = refl
none_behind (suc n) zero = refl
none_behind (suc n) (suc k) = none_behind n k

pub same_more : (names : List (Option ℕ)) (n id : ℕ) → sleep_at (names ++ replicate n None) id ≡ sleep_at names id
same_more [] n id = none_behind n id
same_more (o ∷ names) n zero = refl
same_more (o ∷ names) n (suc id) = same_more names n id

pub long_more : (names : List (Option ℕ)) (items : ℕ) → items ≤ length (names ++ replicate (items - length names) None)
long_more names items = let sum = length-append names (replicate (items - length names) None) in let none : Option ℕ = None in let more = length-replicate (items - length names) none in omega (arith, sum, more)

pub longer_more : (names : List (Option ℕ)) (items : ℕ) → length names ≤ length (names ++ replicate (items - length names) None)
longer_more names items = let sum = length-append names (replicate (items - length names) None) in omega (arith, sum)

pub no_more : (names : List (Option ℕ)) (items n : ℕ) → length names ≤ n → items ≤ n → length (names ++ replicate (items - length names) None) ≤ n
no_more names items n le lt = let sum = length-append names (replicate (items - length names) None) in let none : Option ℕ = None in let more = length-replicate (items - length names) none in omega (arith, sum, more, le, lt)

-- there is room for more items and sets, and everybody sleeps where they did
pub kept_more : (names more : List (Option ℕ)) (old new : Linked) → IsSleeping names old → ((set : ℕ) → list_at new.sets set ≡ list_at old.sets set) → ((id : ℕ) → sleep_at more id ≡ sleep_at names id) → length more ≤ new.ids → IsSleeping more new
kept_more names more old new are sets same long = record {
  there = λ id name e. subst (λ (l : List ℕ). Contains l id) (sym (sets name)) (are.there id name (sym (same id) ∙ e));
  known = λ id name h. same id ∙ are.known id name (subst (λ (l : List ℕ). Contains l id) (sets name) h);
  long = long;
}
