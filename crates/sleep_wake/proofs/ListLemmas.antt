-- Lemmas on lists of constraints and on their links.
use Rattle.std.proofs.Common.{◌≡◌, ◌≢◌, ℕ, ◌<◌, ◌==◌, ◌⊎◌, ◌↔◌, Bool, true, false, not, cond, List, [], ◌∷◌, Option, Some, None, option_map, get_or, inl, inr, refl, sym, ap, ◌∙◌, arith, subst}
use Rattle.std.specs.Prelude.{filter, Contains}
use Rattle.std.specs.List.{flat_map, cons_option}
use Rattle.std.proofs.lemmas.Bool.{false≢true, eq-eqb}
use Rattle.std.proofs.lemmas.List.Elements.{All-contains, Contains-get_or, Contains-append_left, Contains-append_right}
use Rattle.std.proofs.lemmas.List.Sorted.{Contains-permutation, IsPermutation-sym}
use Rattle.graph_colours.specs.declared.member.Member.{Member}
use Rattle.graph_colours.specs.Members.{AreRising, inserted, without_member}
use Rattle.graph_colours.specs.FoundMembers.{has_id, colour_of}
use Rattle.graph_colours.specs.Colours.{all_members, with_placed, released, IsColouring}
use Rattle.std.proofs.lemmas.List.Kept.{AllPairs-filter}
use Rattle.std.proofs.lemmas.List.Folds.{list_any_none}
use Rattle.graph_colours.proofs.SearchLemmas.{none_passing}
use Rattle.graph_colours.proofs.ListLemmas.{any_false, pairs_head, pairs_tail, same_inserted}
use Rattle.graph_colours.proofs.PlaceLemmas.{not_same}
use Rattle.graph_colours.proofs.ColouringLemmas.{placed_members, placed_keeps, placed_others, released_members, released_keeps}
use Rattle.islands.specs.Links.{Edges, Linked}
use Rattle.islands.proofs.JoinLemmas.{contains_cases, contains_head, contains_tail}
use Rattle.sleep_wake.specs.Acting.{links_of, link_of}
use Rattle.sleep_wake.specs.Waking.{placed_all, released_all}

pub none_in : {X : Type 0} (x : X) → Contains [] x → ⊥
none_in x h = omega (arith, h.1)

-- ---- filters

filter_in_by : {X : Type 0} (p : X → Bool) (y : X) (ys : List X) (x : X) (t : Bool) → p y ≡ t → Contains (cond t (y ∷ filter p ys) (filter p ys)) x → (Contains (filter p ys) x → Contains ys x × (p x ≡ true)) → Contains (y ∷ ys) x × (p x ≡ true)
filter_in_by {X} p y ys x true e h f = elim (contains_cases y (filter p ys) x h) [
  | inl k ↦ let P : X → Type 0 = λ v. Contains (y ∷ ys) v in (subst P k (contains_head y ys), ap p (sym k) ∙ e)
  | inr k ↦ let o = f k in (contains_tail y ys x o.0, o.1)
]
filter_in_by {X} p y ys x false e h f = let o = f h in (contains_tail y ys x o.0, o.1)

pub filter_in : {X : Type 0} (p : X → Bool) (xs : List X) (x : X) → Contains (filter p xs) x → Contains xs x × (p x ≡ true)
filter_in p [] x h = absurd (none_in x h)
filter_in p (y ∷ ys) x h = filter_in_by p y ys x (p y) refl h (λ k. filter_in p ys x k)

in_filter_by : {X : Type 0} (p : X → Bool) (y : X) (ys : List X) (x : X) (t : Bool) → p y ≡ t → Contains (y ∷ ys) x → p x ≡ true → (Contains ys x → Contains (filter p ys) x) → Contains (cond t (y ∷ filter p ys) (filter p ys)) x
in_filter_by {X} p y ys x true e h q f = elim (contains_cases y ys x h) [
  | inl k ↦ let P : X → Type 0 = λ v. Contains (y ∷ filter p ys) v in subst P k (contains_head y (filter p ys))
  | inr k ↦ contains_tail y (filter p ys) x (f k)
]
in_filter_by {X} p y ys x false e h q f = elim (contains_cases y ys x h) [
  | inl k ↦ absurd (false≢true (sym e ∙ ap p k ∙ q))
  | inr k ↦ f k
]

pub in_filter : {X : Type 0} (p : X → Bool) (xs : List X) (x : X) → Contains xs x → p x ≡ true → Contains (filter p xs) x
in_filter p [] x h q = absurd (none_in x h)
in_filter p (y ∷ ys) x h q = in_filter_by p y ys x (p y) refl h q (λ k. in_filter p ys x k q)

-- ---- constraints by number

apart_not : (a b : ℕ) → not (a == b) ≡ true → a ≢ b
apart_not a b h e = let same : (a == b) ≡ true = eq-eqb a b e in false≢true (sym (ap not same) ∙ h)

not_apart : (a b : ℕ) → a ≢ b → not (a == b) ≡ true
not_apart a b h = ap not (not_same a b h)

pub without_in : {C : Type 0} (number : C → ℕ) (id : C) (ms : List (Member C)) (x : Member C) → Contains (without_member number id ms) x → Contains ms x × (number x.id ≢ number id)
unfolding without_member
without_in number id ms x h = let o = filter_in (λ m. not (number m.id == number id)) ms x h in (o.0, apart_not (number x.id) (number id) o.1)

pub in_without : {C : Type 0} (number : C → ℕ) (id : C) (ms : List (Member C)) (x : Member C) → Contains ms x → number x.id ≢ number id → Contains (without_member number id ms) x
unfolding without_member
in_without number id ms x h k = in_filter (λ m. not (number m.id == number id)) ms x h (not_apart (number x.id) (number id) k)

pub inserted_in : {C : Type 0} (number : C → ℕ) (m : Member C) (ms : List (Member C)) (x : Member C) → Contains (inserted number m ms) x → (m ≡ x) ⊎ Contains ms x
inserted_in number m ms x h = contains_cases m ms x (Contains-permutation (inserted number m ms) (m ∷ ms) x (IsPermutation-sym (m ∷ ms) (inserted number m ms) (same_inserted number m ms)) h)

pub in_inserted : {C : Type 0} (number : C → ℕ) (m : Member C) (ms : List (Member C)) (x : Member C) → (m ≡ x) ⊎ Contains ms x → Contains (inserted number m ms) x
in_inserted {C} number m ms x h = Contains-permutation (m ∷ ms) (inserted number m ms) x (same_inserted number m ms) (elim h [
  | inl k ↦ let P : Member C → Type 0 = λ v. Contains (m ∷ ms) v in subst P k (contains_head m ms)
  | inr k ↦ contains_tail m ms x k
])

pub above_head : {C : Type 0} (number : C → ℕ) (m : Member C) (ms : List (Member C)) (x : Member C) → AreRising number (m ∷ ms) → Contains ms x → number m.id < number x.id
above_head number m ms x r h = All-contains (λ y. number m.id < number y.id) ms x (pairs_head (λ a b. number a.id < number b.id) m ms r) h

-- the number names one constraint
pub one_of : {C : Type 0} (number : C → ℕ) (ms : List (Member C)) (x y : Member C) → AreRising number ms → Contains ms x → Contains ms y → number x.id ≡ number y.id → x ≡ y
one_of number [] x y r h k e = absurd (none_in x h)
one_of number (m ∷ ms) x y r h k e = elim (contains_cases m ms x h) [
  | inl p ↦ elim (contains_cases m ms y k) [
    | inl q ↦ sym p ∙ q
    | inr q ↦ let lt : number m.id < number y.id = above_head number m ms y r q in let s : number m.id ≡ number x.id = ap (λ v. number v.id) p in absurd (omega (arith, lt, s, e))
  ]
  | inr p ↦ elim (contains_cases m ms y k) [
    | inl q ↦ let lt : number m.id < number x.id = above_head number m ms x r p in let s : number m.id ≡ number y.id = ap (λ v. number v.id) q in absurd (omega (arith, lt, s, e))
    | inr q ↦ one_of number ms x y (pairs_tail (λ a b. number a.id < number b.id) m ms r) p q e
  ]
]

pub has_from : {C : Type 0} (number : C → ℕ) (id : C) (ms : List (Member C)) (x : Member C) → has_id number id ms ≡ false → Contains ms x → number x.id ≢ number id
unfolding has_id
has_from number id ms x h k e =
    let none = All-contains (λ m. (number m.id == number id) ≡ false) ms x (any_false (λ m. number m.id == number id) ms h) k in
    false≢true (sym none ∙ eq-eqb (number x.id) (number id) e)

-- ---- who has a colour

pub flat_in : {X : Type 0} (ls : List (List X)) (l : List X) (x : X) → Contains ls l → Contains l x → Contains (flat_map (λ ms. ms) ls) x
flat_in {X} [] l x h k = absurd (none_in l h)
flat_in {X} (m ∷ ls) l x h k = elim (contains_cases m ls l h) [
  | inl p ↦ let P : List X → Type 0 = λ v. Contains v x in Contains-append_left m (flat_map (λ ms. ms) ls) x (subst P (sym p) k)
  | inr p ↦ Contains-append_right m (flat_map (λ ms. ms) ls) x (flat_in ls l x p k)
]

-- no constraint with the number has a colour
pub absent_from : {C : Type 0} (number : C → ℕ) (id : C) (lists : List (List (Member C))) → ((x : Member C) → Contains (all_members lists) x → number x.id ≢ number id) → colour_of number id lists ≡ None
unfolding colour_of has_id
absent_from number id lists none = none_passing (has_id number id) lists (λ k d lt.
    list_any_none (λ m. number m.id == number id) (get_or lists k d) (λ j e short.
    not_same (number (get_or (get_or lists k d) j e).id) (number id) (none (get_or (get_or lists k d) j e) (flat_in lists (get_or lists k d) (get_or (get_or lists k d) j e) (Contains-get_or lists k d lt) (Contains-get_or (get_or lists k d) j e short)))))

placed_in : {C : Type 0} (number : C → ℕ) (m : Member C) (lists : List (List (Member C))) (x : Member C) → IsColouring number lists → Contains (all_members (with_placed number m lists)) x → (m ≡ x) ⊎ Contains (all_members lists) x
placed_in number m lists x w h = contains_cases m (all_members lists) x (Contains-permutation (all_members (with_placed number m lists)) (m ∷ all_members lists) x (IsPermutation-sym (m ∷ all_members lists) (all_members (with_placed number m lists)) (placed_members number m lists w)) h)

in_placed : {C : Type 0} (number : C → ℕ) (m : Member C) (lists : List (List (Member C))) (x : Member C) → IsColouring number lists → (m ≡ x) ⊎ Contains (all_members lists) x → Contains (all_members (with_placed number m lists)) x
in_placed {C} number m lists x w h = Contains-permutation (m ∷ all_members lists) (all_members (with_placed number m lists)) x (placed_members number m lists w) (elim h [
  | inl k ↦ let P : Member C → Type 0 = λ v. Contains (m ∷ all_members lists) v in subst P k (contains_head m (all_members lists))
  | inr k ↦ contains_tail m (all_members lists) x k
])

pub record PlacesOne {C : Type 0} (number : C → ℕ) (lists : List (List (Member C))) (m : Member C) : Type 0 where
  pub colouring : IsColouring number (with_placed number m lists)
  pub members : (x : Member C) → Contains (all_members (with_placed number m lists)) x ↔ ((m ≡ x) ⊎ Contains (all_members lists) x)

pub places_one : {C : Type 0} (number : C → ℕ) (lists : List (List (Member C))) (m : Member C) → IsColouring number lists → colour_of number m.id lists ≡ None → PlacesOne number lists m
places_one number lists m w e = record {
  colouring = placed_keeps number m lists w e;
  members = λ x. ((λ h. placed_in number m lists x w h), (λ h. in_placed number m lists x w h));
}

pub record Places {C : Type 0} (number : C → ℕ) (lists : List (List (Member C))) (ms : List (Member C)) : Type 0 where
  pub colouring : IsColouring number (placed_all number lists ms)
  pub members : (x : Member C) → Contains (all_members (placed_all number lists ms)) x ↔ (Contains ms x ⊎ Contains (all_members lists) x)

pub places : {C : Type 0} (number : C → ℕ) (ms : List (Member C)) (lists : List (List (Member C))) → IsColouring number lists → AreRising number ms → ((x : Member C) → Contains ms x → colour_of number x.id lists ≡ None) → Places number lists ms
places {C} number [] lists w r none = record { colouring = w; members = λ x. ((λ h. inr h), (λ h. elim h [ inl k ↦ absurd (none_in x k) | inr k ↦ k ])) }
places {C} number (m ∷ ms) lists w r none =
    let one = places_one number lists m w (none m (contains_head m ms)) in
    let rest = places number ms (with_placed number m lists) one.colouring (pairs_tail (λ a b. number a.id < number b.id) m ms r)
    (λ x h. let lt : number m.id < number x.id = above_head number m ms x r h in
    placed_others number m lists x.id (λ e. omega (arith, lt, e)) ∙ none x (contains_tail m ms x h)) in
    record {
      colouring = rest.colouring;
      members = λ x. (
        (λ h. elim ((rest.members x).0 h) [
          | inl k ↦ inl (contains_tail m ms x k)
          | inr k ↦ elim ((one.members x).0 k) [ inl q ↦ inl (let P : Member C → Type 0 = λ v. Contains (m ∷ ms) v in subst P q (contains_head m ms)) | inr q ↦ inr q ]
        ]),
        (λ h. (rest.members x).1 (elim h [
          | inl k ↦ elim (contains_cases m ms x k) [ inl q ↦ inr ((one.members x).1 (inl q)) | inr q ↦ inl q ]
          | inr k ↦ inr ((one.members x).1 (inr k))
        ])),
      );
    }

pub record Releases {C : Type 0} (number : C → ℕ) (lists : List (List (Member C))) (ms : List (Member C)) : Type 0 where
  pub colouring : IsColouring number (released_all number lists ms)
  pub members : (x : Member C) → Contains (all_members (released_all number lists ms)) x ↔ (Contains (all_members lists) x × ((y : Member C) → Contains ms y → number x.id ≢ number y.id))

pub released_in : {C : Type 0} (number : C → ℕ) (id : C) (lists : List (List (Member C))) (x : Member C) → Contains (all_members (released number id lists)) x → Contains (all_members lists) x × (number x.id ≢ number id)
released_in {C} number id lists x h = let P : List (Member C) → Type 0 = λ v. Contains v x in without_in number id (all_members lists) x (subst P (released_members number id lists) h)

pub in_released : {C : Type 0} (number : C → ℕ) (id : C) (lists : List (List (Member C))) (x : Member C) → Contains (all_members lists) x → number x.id ≢ number id → Contains (all_members (released number id lists)) x
in_released {C} number id lists x h k = let P : List (Member C) → Type 0 = λ v. Contains v x in subst P (sym (released_members number id lists)) (in_without number id (all_members lists) x h k)

pub releases : {C : Type 0} (number : C → ℕ) (ms : List (Member C)) (lists : List (List (Member C))) → IsColouring number lists → Releases number lists ms
releases number [] lists w = record { colouring = w; members = λ x. ((λ h. (h, λ y k. absurd (none_in y k))), (λ h. h.0)) }
releases number (m ∷ ms) lists w =
    let rest = releases number ms (released number m.id lists) (released_keeps number m.id lists w) in
    record {
      colouring = rest.colouring;
      members = λ x. (
        (λ h. let o = (rest.members x).0 h in let p = released_in number m.id lists x o.0 in
            (p.0, λ y k. elim (contains_cases m ms y k) [ inl q ↦ (λ e. p.1 (e ∙ ap (λ v. number v.id) (sym q))) | inr q ↦ o.1 y q ])),
        (λ h. (rest.members x).1 (in_released number m.id lists x h.0 (h.1 m (contains_head m ms)), λ y k. h.1 y (contains_tail m ms y k))),
      );
    }

pub rising_filter : {C : Type 0} (number : C → ℕ) (p : Member C → Bool) (ms : List (Member C)) → AreRising number ms → AreRising number (filter p ms)
rising_filter number p ms r = AllPairs-filter (λ a b. number a.id < number b.id) p ms r

-- ---- links

cons_in : (o : Option (ℕ × ℕ)) (es : Edges) (e : ℕ × ℕ) → Contains (cons_option o es) e → (o ≡ Some e) ⊎ Contains es e
cons_in None es e h = inr h
cons_in (Some d) es e h = elim (contains_cases d es e h) [ inl k ↦ inl (ap (λ v. Some v) k) | inr k ↦ inr k ]

in_cons : (o : Option (ℕ × ℕ)) (es : Edges) (e : ℕ × ℕ) → (o ≡ Some e) ⊎ Contains es e → Contains (cons_option o es) e
in_cons None es e h = elim h [ inl k ↦ absurd (let no : None ≡ Some e = k in cc) | inr k ↦ k ]
in_cons (Some d) es e h = elim h [ inl k ↦ (let q : d ≡ e = cc in let P : ℕ × ℕ → Type 0 = λ v. Contains (d ∷ es) v in subst P q (contains_head d es)) | inr k ↦ contains_tail d es e k ]

link_is : (first : ℕ) (o : Option ℕ) (a b : ℕ) → option_map {U = ℕ × ℕ} (λ c. (first, c)) o ≡ Some (a, b) → (first ≡ a) × (o ≡ Some b)
link_is first None a b h = absurd (let no : None ≡ Some (a, b) = h in cc)
link_is first (Some c) a b h = let q : (first, c) ≡ (a, b) = cc in (ap (λ (p : ℕ × ℕ). p.0) q, ap (λ (p : ℕ × ℕ). Some p.1) q)

is_link : (first : ℕ) (o : Option ℕ) (a b : ℕ) → first ≡ a → o ≡ Some b → option_map {U = ℕ × ℕ} (λ c. (first, c)) o ≡ Some (a, b)
is_link first o a b h k = rw (h, k) refl

-- a link is made by a constraint
pub link_in : {C : Type 0} (ms : List (Member C)) (a b : ℕ) → Contains (links_of ms) (a, b) → (m : Member C) × Contains ms m × (m.movers.first ≡ a) × (m.movers.second ≡ Some b)
link_in [] a b h = absurd (none_in (a, b) h)
link_in (m ∷ ms) a b h = elim (cons_in (link_of m) (links_of ms) (a, b) h) [
  | inl k ↦ let o = link_is m.movers.first m.movers.second a b k in (m, contains_head m ms, o.0, o.1)
  | inr k ↦ let o = link_in ms a b k in (o.0, contains_tail m ms o.0 o.1, o.2, o.3)
]

pub in_links : {C : Type 0} (ms : List (Member C)) (m : Member C) (a b : ℕ) → Contains ms m → m.movers.first ≡ a → m.movers.second ≡ Some b → Contains (links_of ms) (a, b)
in_links {C} [] m a b h e f = absurd (none_in m h)
in_links {C} (n ∷ ms) m a b h e f = in_cons (link_of n) (links_of ms) (a, b) (elim (contains_cases n ms m h) [
  | inl k ↦ let P : Member C → Type 0 = λ v. link_of v ≡ Some (a, b) in inl (subst P (sym k) (is_link m.movers.first m.movers.second a b e f))
  | inr k ↦ inr (in_links ms m a b k e f)
])

-- links of more constraints, or of the same
pub links_more : {C : Type 0} (ms ns : List (Member C)) → ((m : Member C) → Contains ms m → Contains ns m) → (s t : ℕ) → Linked (links_of ms) s t → Linked (links_of ns) s t
links_more ms ns f s t h = elim h [
  | inl k ↦ let o = link_in ms s t k in inl (in_links ns o.0 s t (f o.0 o.1) o.2 o.3)
  | inr k ↦ let o = link_in ms t s k in inr (in_links ns o.0 t s (f o.0 o.1) o.2 o.3)
]
