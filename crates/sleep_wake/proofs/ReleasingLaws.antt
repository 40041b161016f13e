-- Constraints that give up their colours may be looked for among those that have one, and in any order.
use Rattle.std.proofs.Common.{◌≡◌, ℕ, ◌≤◌, ◌==◌, ◌||◌, Bool, true, false, not, cond, List, [], ◌∷◌, ◌++◌, drop, length, map, refl, sym, ap, ◌∙◌, inl, inr}
use Rattle.std.specs.Prelude.{filter, Contains}
use Rattle.std.specs.List.{list_any}
use Rattle.std.proofs.lemmas.Bool.{false≢true, eqb-true, eq-eqb}
use Rattle.std.proofs.lemmas.List.{append-nil, drop_all}
use Rattle.graph_colours.specs.declared.member.Member.{Member}
use Rattle.graph_colours.specs.FoundMembers.{has_id}
use Rattle.graph_colours.specs.Colours.{all_members}
use Rattle.islands.proofs.JoinLemmas.{contains_cases, contains_head, contains_tail}
use Rattle.sleep_wake.specs.Acting.{Acting, IsConsistent}
use Rattle.sleep_wake.specs.Waking.{released_all}
use Rattle.sleep_wake.specs.Rooms.{OwnMovers}
use Rattle.sleep_wake.proofs.ListLemmas.{none_in, filter_in, in_filter, one_of, flat_in}
use Rattle.sleep_wake.proofs.ChangeOwn.{own_of}
use Rattle.sleep_wake.proofs.RestingLaws.{Others, cleared_is}

-- ---- which of two lists of constraints are taken out, where both have the same of those that are there

found_by : {X : Type 0} (p : X → Bool) (x : X) (xs : List X) (t : Bool) → p x ≡ t → (t || list_any p xs) ≡ true → (list_any p xs ≡ true → (y : X) × Contains xs y × (p y ≡ true)) → (y : X) × Contains (x ∷ xs) y × (p y ≡ true)
found_by p x xs true e h f = (x, contains_head x xs, e)
found_by p x xs false e h f = let q = f h in (q.0, contains_tail x xs q.0 q.1, q.2)

any_found : {X : Type 0} (p : X → Bool) (xs : List X) → list_any p xs ≡ true → (y : X) × Contains xs y × (p y ≡ true)
any_found p [] h = absurd (false≢true h)
any_found p (x ∷ xs) h = found_by p x xs (p x) refl h (λ k. any_found p xs k)

or_right : (x y : Bool) → y ≡ true → (x || y) ≡ true
or_right true y h = refl
or_right false y h = h

or_left : (x y : Bool) → x ≡ true → (x || y) ≡ true
or_left true y h = refl
or_left false y h = absurd (false≢true h)

found_any : {X : Type 0} (p : X → Bool) (xs : List X) (y : X) → Contains xs y → p y ≡ true → list_any p xs ≡ true
found_any p [] y h e = absurd (none_in y h)
found_any p (x ∷ xs) y h e = elim (contains_cases x xs y h) [
  | inl k ↦ or_left (p x) (list_any p xs) (ap p k ∙ e)
  | inr k ↦ or_right (p x) (list_any p xs) (found_any p xs y k e)
]

same_test : (a b : Bool) → (a ≡ true → b ≡ true) → (b ≡ true → a ≡ true) → a ≡ b
same_test true b f g = sym (f refl)
same_test false true f g = absurd (false≢true (g refl))
same_test false false f g = refl

others_same : {C : Type 0} (number : C → ℕ) (ms ns l : List (Member C)) → ((x : Member C) → Contains l x → has_id number x.id ms ≡ has_id number x.id ns) → Others number ms l ≡ Others number ns l
others_same number ms ns [] h = refl
others_same {C} number ms ns (x ∷ l) h =
    ap (λ (t : Bool). cond (not t) (x ∷ Others number ms l) (Others number ms l)) (h x (contains_head x l))
    ∙ ap (λ (v : List (Member C)). cond (not (has_id number x.id ns)) (x ∷ v) v) (others_same number ms ns l (λ y k. h y (contains_tail x l y k)))

map_same : {X : Type 0} (f g : X → X) (xs : List X) → ((x : X) → Contains xs x → f x ≡ g x) → map f xs ≡ map g xs
map_same f g [] h = refl
map_same {X} f g (x ∷ xs) h = ap (λ (v : X). v ∷ map f xs) (h x (contains_head x xs)) ∙ ap (λ (v : List X). g x ∷ v) (map_same f g xs (λ y k. h y (contains_tail x xs y k)))

-- lists of constraints from which one takes the same are as good as one another
pub releases_same : {C : Type 0} (number : C → ℕ) (ms ns : List (Member C)) (lists : List (List (Member C))) → ((x : Member C) → Contains (all_members lists) x → has_id number x.id ms ≡ has_id number x.id ns) → released_all number lists ms ≡ released_all number lists ns
releases_same number ms ns lists h =
    cleared_is number ms lists
    ∙ map_same (Others number ms) (Others number ns) lists (λ l k. others_same number ms ns l (λ x i. h x (flat_in lists l x k i)))
    ∙ sym (cleared_is number ns lists)

-- ---- those that have a colour

has_one : {C : Type 0} (number : C → ℕ) (id : C) (ms : List (Member C)) → has_id number id ms ≡ true → (m : Member C) × Contains ms m × (number m.id ≡ number id)
unfolding has_id
has_one number id ms h = let q = any_found (λ m. number m.id == number id) ms h in (q.0, q.1, eqb-true (number q.0.id) (number id) q.2)

one_has : {C : Type 0} (number : C → ℕ) (id : C) (ms : List (Member C)) (m : Member C) → Contains ms m → number m.id ≡ number id → has_id number id ms ≡ true
unfolding has_id
one_has number id ms m h e = found_any (λ m. number m.id == number id) ms m h (eq-eqb (number m.id) (number id) e)

-- a constraint with a colour is one of those that have one and are wanted just if it is one of the ties that are
pub coloured_same : {C : Type 0} (number : C → ℕ) (s : Acting C) (wanted : Member C → Bool) → IsConsistent number s → released_all number s.lists (filter wanted (all_members s.lists)) ≡ released_all number s.lists (filter wanted s.ties)
coloured_same {C} number s wanted w =
    let few : List (Member C) = filter wanted (all_members s.lists) in
    let all : List (Member C) = filter wanted s.ties in
    releases_same number few all s.lists (λ x h. same_test (has_id number x.id few) (has_id number x.id all)
    (λ k.
    let q = has_one number x.id few k in
    let in_few = filter_in wanted (all_members s.lists) q.0 q.1 in
    one_has number x.id all q.0 (in_filter wanted s.ties q.0 ((w.acting q.0).0 in_few.0).0 in_few.1) q.2)
    (λ k.
    let q = has_one number x.id all k in
    let in_all = filter_in wanted s.ties q.0 q.1 in
    let same : q.0 ≡ x = one_of number s.ties q.0 x w.rising in_all.0 ((w.acting x).0 h).0 q.2 in
    one_has number x.id few x (in_filter wanted (all_members s.lists) x h (ap wanted (sym same) ∙ in_all.1)) refl))

-- each has the movers that it has among the ties
pub coloured_own : {C : Type 0} (number : C → ℕ) (s : Acting C) (wanted : Member C → Bool) → IsConsistent number s → OwnMovers number (filter wanted (all_members s.lists)) s.lists
coloured_own number s wanted w m h = own_of number s w m ((w.acting m).0 (filter_in wanted (all_members s.lists) m h).0).0

-- ---- they are listed colour by colour

-- after the last colour they are all listed
pub all_listed : {C : Type 0} (wanted : Member C → Bool) (lists : List (List (Member C))) (colour : ℕ) (listed : List (Member C)) → length lists ≤ colour → listed ++ filter wanted (all_members (drop colour lists)) ≡ filter wanted (all_members lists) → listed ≡ filter wanted (all_members lists)
all_listed {C} wanted lists colour listed end h =
    let none : drop colour lists ≡ [] = drop_all colour lists end in
    sym (append-nil listed) ∙ ap (λ (v : List (List (Member C))). listed ++ filter wanted (all_members v)) (sym none) ∙ h
