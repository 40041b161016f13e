-- The first list of a kind, in lists that change.
use Rattle.std.proofs.Common.{◌≡◌, ◌≢◌, ℕ, ◌+◌, ◌<◌, ◌≤◌, ◌==◌, ◌||◌, Bool, true, false, not, cond, List, [], ◌∷◌, length, get_or, map, subst, Some, None, refl, sym, ap, ◌∙◌, arith}
use Rattle.std.specs.List.{All, list_any, position, position_or_len}
use Rattle.std.proofs.lemmas.List.Sums.{fails_before_first, passes_at_first}
use Rattle.graph_colours.specs.declared.member.Member.{Member}
use Rattle.graph_colours.specs.Members.{inserted, without_member}
use Rattle.graph_colours.specs.FoundMembers.{has_id}
use Rattle.graph_colours.proofs.Cases.{by_test, not_true, true_or_false, not_false, not_true_then}
use Rattle.graph_colours.proofs.PlaceLemmas.{is_lower, not_lower, same_from}
use Rattle.graph_colours.proofs.ListLemmas.{any_inserted}

-- a search in a list of images
pub found_in_map : {X Y : Type 0} (f : X → Y) (p : Y → Bool) (q : X → Bool) (xs : List X) → ((x : X) → p (f x) ≡ q x) → position_or_len p (map f xs) ≡ position_or_len q xs
found_in_map f p q [] same = refl
found_in_map f p q (x ∷ xs) same = rw (same x) (ap (λ n. cond (not (q x)) (1 + n) 0) (found_in_map f p q xs same))

pub position_none : {X : Type 0} (p : X → Bool) (xs : List X) → length xs ≤ position_or_len p xs → position p xs ≡ None
position_none p xs h = rw (not_lower (position_or_len p xs) (length xs) h) refl

pub position_some : {X : Type 0} (p : X → Bool) (xs : List X) → position_or_len p xs < length xs → position p xs ≡ Some (position_or_len p xs)
position_some p xs h = rw (is_lower (position_or_len p xs) (length xs) h) refl

pub none_passes : {X : Type 0} (p : X → Bool) (xs : List X) → position p xs ≡ None → (k : ℕ) (d : X) → k < length xs → p (get_or xs k d) ≡ false
none_passes p xs h k d lt =
    let far : position_or_len p xs < length xs → ⊥ = λ q. let wrong : Some (position_or_len p xs) ≡ None = sym (position_some p xs q) ∙ h in cc in
    let le : length xs ≤ position_or_len p xs = omega (arith, far) in
    fails_before_first p xs k d (omega arith)

-- the least place of a test that none passes
pub none_at : {X : Type 0} (p : X → Bool) (xs : List X) (i : ℕ) → All (λ x. p x ≡ false) xs → i < length xs → i ≡ position_or_len p xs → ⊥
none_at p [] i h lt is = absurd (omega arith)
none_at p (x ∷ xs) i h lt is =
    let here : p (get_or (x ∷ xs) i x) ≡ false = h i x lt in
    let at : p (get_or (x ∷ xs) (position_or_len p (x ∷ xs)) x) ≡ true = passes_at_first p (x ∷ xs) x (omega arith) in
    let P : ℕ → Type 0 = λ j. p (get_or (x ∷ xs) j x) ≡ false in
    true_or_false (p (get_or (x ∷ xs) (position_or_len p (x ∷ xs)) x)) at (subst P is here)

pub none_passing : {X : Type 0} (p : X → Bool) (xs : List X) → All (λ x. p x ≡ false) xs → position p xs ≡ None
none_passing p xs h =
    let far : position_or_len p xs < length xs → ⊥ = λ q. none_at p xs (position_or_len p xs) h q refl in
    position_none p xs (omega (arith, far))

-- which ids a list has, with one more member and without one
pub has_inserted : {C : Type 0} (number : C → ℕ) (id : C) (m : Member C) (ms : List (Member C)) → has_id number id (inserted number m ms) ≡ ((number m.id == number id) || has_id number id ms)
unfolding has_id
has_inserted number id m ms = any_inserted number (λ x. number x.id == number id) m ms

pub has_without : {C : Type 0} (number : C → ℕ) (id : C) (ms : List (Member C)) → has_id number id (without_member number id ms) ≡ false
unfolding has_id without_member
has_without number id [] = refl
has_without number id (x ∷ xs) = by_test (λ l. list_any (λ m. number m.id == number id) l ≡ false) (not (number x.id == number id)) (x ∷ without_member number id xs) (without_member number id xs)
    (λ q. rw (not_true (number x.id == number id) q) (has_without number id xs))
    (λ q. has_without number id xs)

pub has_other : {C : Type 0} (number : C → ℕ) (id other : C) (ms : List (Member C)) → number other ≢ number id → has_id number other (without_member number id ms) ≡ has_id number other ms
unfolding has_id without_member
has_other number id other [] far = refl
has_other number id other (x ∷ xs) far = by_test (λ l. list_any (λ m. number m.id == number other) l ≡ ((number x.id == number other) || list_any (λ m. number m.id == number other) xs)) (not (number x.id == number id)) (x ∷ without_member number id xs) (without_member number id xs)
    (λ q. ap (λ t. (number x.id == number other) || t) (has_other number id other xs far))
    (λ q. let is : (number x.id == number id) ≡ true = not_false (number x.id == number id) (λ f. true_or_false (not (number x.id == number id)) (ap not f) q) in
    let off : (number x.id == number other) ≡ false = not_true_then (number x.id == number other) (λ s. far (sym (same_from (number x.id) (number other) s) ∙ same_from (number x.id) (number id) is)) in
    rw off (has_other number id other xs far))
