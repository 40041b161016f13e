-- The constraints of an island are those of which its movers are the first, put in order.
use Rattle.std.proofs.Common.{◌≡◌, ◌≢◌, ◌↔◌, ℕ, ◌+◌, ◌<◌, ◌≤◌, ◌==◌, ◌||◌, ◌++◌, Bool, true, false, cond, List, [], ◌∷◌, Option, Some, None, option_map, drop, get_or, length, inl, inr, refl, sym, ap, ◌∙◌, arith, subst, append_assoc, eq-eqb, eqb-true}
use Rattle.std.specs.Prelude.{filter, Contains, nat_eq}
use Rattle.std.specs.List.{All, AllPairs, IsDistinct, cons_option}
use Rattle.std.specs.List.Sorted.{IsPermutation, IsNonDecreasingBy}
use Rattle.std.specs.Cmp.{nat_eq_equiv}
use Rattle.std.proofs.lemmas.Bool.{cases_eq, ne_eqb, eqb-false, false≢true}
use Rattle.std.proofs.lemmas.List.{append-nil, drop_all, drop_more, length-append}
use Rattle.std.proofs.lemmas.List.Elements.{All-head, All-tail}
use Rattle.std.proofs.lemmas.List.Sorted.{IsPermutation-refl, IsPermutation-sym, IsPermutation-trans, IsPermutation-cons, IsPermutation-middle, IsPermutation-append_left, IsPermutation-append_right, Contains-permutation, length_permutation}
use Rattle.std.proofs.lemmas.List.Sums.{length-filter, count_by-le-length}
use Rattle.std.proofs.lemmas.Map.Keys.{IsDistinct-from_apart, IsDistinct-IsPermutation, apart_from_distinct}
use Rattle.graph_colours.specs.declared.member.Member.{Member}
use Rattle.graph_colours.specs.Members.{AreRising}
use Rattle.graph_colours.proofs.Cases.{or_left}
use Rattle.graph_colours.proofs.ListLemmas.{pairs_head, pairs_tail}
use Rattle.islands.specs.Links.{Edges, Linked}
use Rattle.islands.specs.Labels.{Labels, label_at, is_in, IsIn, rested, woken}
use Rattle.islands.specs.Partition.{AreIslands}
use Rattle.islands.proofs.JoinLemmas.{contains_cases, contains_head, contains_tail}
use Rattle.sleep_wake.specs.Acting.{Acting, acting, link_of, links_of}
use Rattle.sleep_wake.specs.Waking.{second_in, has_mover_of, ties_of_mover, placed_all, released_all, set_woken, put_to_rest}
use Rattle.sleep_wake.specs.SleepPhase.{edges_in}
use Rattle.sleep_wake.specs.Gathered.{is_first_of}
use Rattle.sleep_wake.specs.Sources.{first_ties, is_first}
use Rattle.sleep_wake.proofs.ListLemmas.{none_in, above_head, in_links}

-- ---- filters

-- two tests that agree
pub filter_as : {X : Type 0} (p q : X → Bool) (xs : List X) → ((x : X) → Contains xs x → p x ≡ q x) → filter p xs ≡ filter q xs
filter_as p q [] h = refl
filter_as p q (x ∷ xs) h = rw (h x (contains_head x xs), filter_as p q xs (λ y k. h y (contains_tail x xs y k))) refl

within_one : {X : Type 0} (p q : X → Bool) (x : X) (xs : List X) (a b : Bool) → p x ≡ a → (a ≡ true → b ≡ true) → filter p (filter q xs) ≡ filter p xs → filter p (cond b (x ∷ filter q xs) (filter q xs)) ≡ cond a (x ∷ filter p xs) (filter p xs)
within_one p q x xs true true e h rest = rw e (ap (λ l. x ∷ l) rest)
within_one p q x xs true false e h rest = absurd (false≢true (h refl))
within_one p q x xs false true e h rest = rw e rest
within_one p q x xs false false e h rest = rest

-- a test that is passed only by those that pass another
pub filter_within : {X : Type 0} (p q : X → Bool) (xs : List X) → ((x : X) → Contains xs x → p x ≡ true → q x ≡ true) → filter p (filter q xs) ≡ filter p xs
filter_within p q [] h = refl
filter_within p q (x ∷ xs) h = within_one p q x xs (p x) (q x) refl (h x (contains_head x xs)) (filter_within p q xs (λ y k. h y (contains_tail x xs y k)))

-- a loop over a list: what is left shrinks by its front
front_of : {X : Type 0} (x : X) (ps : List X) (a : Bool) → cond a (x ∷ ps) ps ≡ cond a (x ∷ []) [] ++ ps
front_of x ps true = refl
front_of x ps false = refl

pub passed_on : {X : Type 0} (p : X → Bool) (x : X) (rest old now all : List X) → now ≡ old ++ filter p (x ∷ []) → old ++ filter p (x ∷ rest) ≡ all → now ++ filter p rest ≡ all
passed_on {X} p x rest old now all is h = ap (λ (l : List X). l ++ filter p rest) is ∙ append_assoc old (filter p (x ∷ [])) (filter p rest) ∙ ap (λ (l : List X). old ++ l) (sym (front_of x (filter p rest) (p x))) ∙ h

pub filter_few : {X : Type 0} (p : X → Bool) (xs : List X) → length (filter p xs) ≤ length xs
filter_few p xs = let counted = length-filter p xs in let few = count_by-le-length p xs in omega (arith, counted, few)

filter_none : {X : Type 0} (xs : List X) → filter (λ x. false) xs ≡ []
filter_none [] = refl
filter_none (x ∷ xs) = filter_none xs

parts_one : {X : Type 0} (x : X) (all ps qs : List X) (a b : Bool) → (a ≡ true → b ≡ false) → IsPermutation all (ps ++ qs) → IsPermutation (cond (a || b) (x ∷ all) all) (cond a (x ∷ ps) ps ++ cond b (x ∷ qs) qs)
parts_one x all ps qs true true off rest = absurd (false≢true (sym (off refl)))
parts_one x all ps qs true false off rest = IsPermutation-cons x all (ps ++ qs) rest
parts_one x all ps qs false true off rest = IsPermutation-trans (x ∷ all) (x ∷ (ps ++ qs)) (ps ++ x ∷ qs) (IsPermutation-cons x all (ps ++ qs) rest) (IsPermutation-sym (ps ++ x ∷ qs) (x ∷ (ps ++ qs)) (IsPermutation-middle ps x qs))
parts_one x all ps qs false false off rest = rest

-- those that pass one of two tests, of which none passes both
parts : {X : Type 0} (p q : X → Bool) (xs : List X) → ((x : X) → p x ≡ true → q x ≡ false) → IsPermutation (filter (λ x. p x || q x) xs) (filter p xs ++ filter q xs)
parts p q [] off = IsPermutation-refl []
parts p q (x ∷ xs) off = parts_one x (filter (λ x. p x || q x) xs) (filter p xs) (filter q xs) (p x) (q x) (off x) (parts p q xs off)

-- ---- the constraints by their first movers

-- no two are the same
abbrev pub AreApart : List ℕ → Type 0
AreApart slots = AllPairs (λ s t. (s == t) ≡ false) slots

-- the first mover is in one slot only
first_once : {C : Type 0} (slot : ℕ) (slots : List ℕ) (m : Member C) → All (λ t. (slot == t) ≡ false) slots → is_first slot m ≡ true → is_first_of slots m ≡ false
first_once slot [] m apart e = refl
first_once slot (t ∷ slots) m apart e =
    let is : m.movers.first ≡ slot = eqb-true m.movers.first slot e in
    let off : is_first t m ≡ false = ap (λ (n : ℕ). n == t) is ∙ All-head (λ (u : ℕ). (slot == u) ≡ false) t slots apart in
    rw (off, first_once slot slots m (All-tail (λ (u : ℕ). (slot == u) ≡ false) t slots apart) e) refl

-- the constraints of some movers are those of the first of them, and those of the others
firsts_parted : {C : Type 0} (ties : List (Member C)) (slot : ℕ) (slots : List ℕ) → AreApart (slot ∷ slots) → IsPermutation (filter (is_first_of (slot ∷ slots)) ties) (first_ties slot ties ++ filter (is_first_of slots) ties)
firsts_parted ties slot slots apart = parts (is_first slot) (is_first_of slots) ties (λ m e. first_once slot slots m (pairs_head (λ s t. (s == t) ≡ false) slot slots apart) e)

slots_apart : (slots : List ℕ) → IsDistinct nat_eq slots → AreApart slots
slots_apart slots once i j d lt l = apart_from_distinct nat_eq slots i j d once lt l

-- Once the constraints of some movers were added to a list: with those of the movers that are left, they are all that
-- are to be added.
pub record ArePushed {C : Type 0} (ties : List (Member C)) (left : List ℕ) (old all now : List (Member C)) : Type 0 where
  pub apart : AreApart left
  pub pushed : IsPermutation (old ++ all) (now ++ filter (is_first_of left) ties)

pub pushed_first : {C : Type 0} (ties old : List (Member C)) (slots : List ℕ) → IsDistinct nat_eq slots → ArePushed ties slots old (filter (is_first_of slots) ties) old
pushed_first ties old slots once = record { apart = slots_apart slots once; pushed = IsPermutation-refl (old ++ filter (is_first_of slots) ties) }

left_at : {C : Type 0} (ties old all now : List (Member C)) (slots : List ℕ) (place slot d : ℕ) → place < length slots → slot ≡ get_or slots place d → ArePushed ties (drop place slots) old all now → ArePushed ties (slot ∷ drop (place + 1) slots) old all now
left_at ties old all now slots place slot d lt at h =
    let front : drop place slots ≡ slot ∷ drop (place + 1) slots = drop_more slots place d lt ∙ ap (λ (s : ℕ). s ∷ drop (place + 1) slots) (sym at) in
    subst (λ (l : List ℕ). ArePushed ties l old all now) front h

-- there is room for those of the next mover
pub pushed_room : {C : Type 0} (ties old all now : List (Member C)) (slots : List ℕ) (place slot d capacity : ℕ) → place < length slots → slot ≡ get_or slots place d → ArePushed ties (drop place slots) old all now → length old + length all ≤ capacity → length now + length (first_ties slot ties) ≤ capacity
pushed_room {C} ties old all now slots place slot d capacity lt at h room =
    let rest : List ℕ = drop (place + 1) slots in
    let own : List (Member C) = first_ties slot ties in
    let others : List (Member C) = filter (is_first_of rest) ties in
    let both : List (Member C) = filter (is_first_of (slot ∷ rest)) ties in
    let was = left_at ties old all now slots place slot d lt at h in
    let whole : length (now ++ both) ≡ length (old ++ all) = length_permutation (old ++ all) (now ++ both) was.pushed in
    let part : length (own ++ others) ≡ length both = length_permutation both (own ++ others) (firsts_parted ties slot rest was.apart) in
    let a : length (old ++ all) ≡ length old + length all = length-append old all in
    let b : length (now ++ both) ≡ length now + length both = length-append now both in
    let c : length (own ++ others) ≡ length own + length others = length-append own others in
    omega (arith, room, whole, part, a, b, c)

pub pushed_more : {C : Type 0} (ties old all now next : List (Member C)) (slots : List ℕ) (place slot d : ℕ) → place < length slots → slot ≡ get_or slots place d → ArePushed ties (drop place slots) old all now → IsPermutation (now ++ first_ties slot ties) next → ArePushed ties (drop (place + 1) slots) old all next
pushed_more {C} ties old all now next slots place slot d lt at h moved =
    let rest : List ℕ = drop (place + 1) slots in
    let own : List (Member C) = first_ties slot ties in
    let others : List (Member C) = filter (is_first_of rest) ties in
    let both : List (Member C) = filter (is_first_of (slot ∷ rest)) ties in
    let was = left_at ties old all now slots place slot d lt at h in
    let parted : IsPermutation (now ++ both) (now ++ (own ++ others)) = IsPermutation-append_right now both (own ++ others) (firsts_parted ties slot rest was.apart) in
    let added : IsPermutation ((now ++ own) ++ others) (next ++ others) = IsPermutation-append_left others (now ++ own) next moved in
    let after : IsPermutation (now ++ (own ++ others)) (next ++ others) = subst (λ (l : List (Member C)). IsPermutation l (next ++ others)) (append_assoc now own others) added in
    record {
      apart = pairs_tail (λ s t. (s == t) ≡ false) slot rest was.apart;
      pushed = IsPermutation-trans (old ++ all) (now ++ both) (next ++ others) was.pushed (IsPermutation-trans (now ++ both) (now ++ (own ++ others)) (next ++ others) parted after);
    }

pub pushed_all : {C : Type 0} (ties old all now : List (Member C)) (slots : List ℕ) (place : ℕ) → length slots ≤ place → ArePushed ties (drop place slots) old all now → IsPermutation (old ++ all) now
pushed_all {C} ties old all now slots place le h =
    let done : IsPermutation (old ++ all) (now ++ filter (is_first_of []) ties) = subst (λ (l : List ℕ). IsPermutation (old ++ all) (now ++ filter (is_first_of l) ties)) (drop_all place slots le) h.pushed in
    let none : filter (is_first_of []) ties ≡ [] = filter_none ties in
    subst (λ (l : List (Member C)). IsPermutation (old ++ all) l) (ap (λ (l : List (Member C)). now ++ l) none ∙ append-nil now) done

-- ---- lists that ascend

-- two that have the same members
pub same_rising : {C : Type 0} (number : C → ℕ) (xs ys : List (Member C)) → AreRising number xs → AreRising number ys → ((m : Member C) → Contains xs m → Contains ys m) → ((m : Member C) → Contains ys m → Contains xs m) → xs ≡ ys
same_rising number [] [] a b f g = refl
same_rising number [] (y ∷ ys) a b f g = absurd (none_in y (g y (contains_head y ys)))
same_rising number (x ∷ xs) [] a b f g = absurd (none_in x (f x (contains_head x xs)))
same_rising {C} number (x ∷ xs) (y ∷ ys) a b f g =
    let e : x ≡ y = elim (contains_cases y ys x (f x (contains_head x xs))) [
      | inl k ↦ sym k
      | inr k ↦ elim (contains_cases x xs y (g y (contains_head y ys))) [
        | inl q ↦ q
        | inr q ↦ let up : number x.id < number y.id = above_head number x xs y a q in let down : number y.id < number x.id = above_head number y ys x b k in absurd (omega (arith, up, down))
      ]
    ] in
    let there : (m : Member C) → Contains xs m → Contains ys m = λ m h. elim (contains_cases y ys m (f m (contains_tail x xs m h))) [
      | inl k ↦ let up : number x.id < number m.id = above_head number x xs m a h in let same : number x.id ≡ number m.id = ap (λ (v : Member C). number v.id) (e ∙ k) in absurd (omega (arith, up, same))
      | inr k ↦ k
    ] in
    let back : (m : Member C) → Contains ys m → Contains xs m = λ m h. elim (contains_cases x xs m (g m (contains_tail y ys m h))) [
      | inl k ↦ let up : number y.id < number m.id = above_head number y ys m b h in let same : number y.id ≡ number m.id = ap (λ (v : Member C). number v.id) (sym e ∙ k) in absurd (omega (arith, up, same))
      | inr k ↦ k
    ] in
    let rest : xs ≡ ys = same_rising number xs ys (pairs_tail (λ v w. number v.id < number w.id) x xs a) (pairs_tail (λ v w. number v.id < number w.id) y ys b) there back in
    λ i. e i ∷ rest i

same_number : {C : Type 0} → (C → ℕ) → Member C → Member C → Bool
same_number number x y = number x.id == number y.id

sorted_rises : {C : Type 0} (number : C → ℕ) (xs ys : List (Member C)) → AreRising number xs → IsPermutation xs ys → IsNonDecreasingBy (λ m. number m.id) ys → AreRising number ys
unfolding same_number
sorted_rises {C} number xs ys rising moved order i j d lt l =
    let apart : IsDistinct (same_number number) xs = IsDistinct-from_apart (same_number number) xs (λ s t v less short. let up = rising s t v less short in ne_eqb (number (get_or xs s v).id) (number (get_or xs t v).id) (λ q. omega (arith, up, q))) in
    let still : IsDistinct (same_number number) ys = IsDistinct-IsPermutation (same_number number) (λ v w. nat_eq_equiv.symm (number v.id) (number w.id)) xs ys moved apart in
    let off : (number (get_or ys i d).id == number (get_or ys j d).id) ≡ false = apart_from_distinct (same_number number) ys i j d still lt l in
    let away : number (get_or ys i d).id ≢ number (get_or ys j d).id = eqb-false (number (get_or ys i d).id) (number (get_or ys j d).id) off in
    let le : number (get_or ys i d).id ≤ number (get_or ys j d).id = order i j d (omega (arith, lt)) l in
    omega (arith, le, away)

-- the members of a list that ascends, put in order
pub sorted_is : {C : Type 0} (number : C → ℕ) (xs ys : List (Member C)) → AreRising number xs → IsPermutation xs ys → IsNonDecreasingBy (λ m. number m.id) ys → ys ≡ xs
sorted_is number xs ys rising moved order = same_rising number ys xs (sorted_rises number xs ys rising moved order) rising
    (λ m h. Contains-permutation ys xs m (IsPermutation-sym xs ys moved) h)
    (λ m h. Contains-permutation xs ys m moved h)

-- ---- which constraints are the island's

or_true : (t : Bool) → (t || true) ≡ true
or_true true = refl
or_true false = refl

first_among : {C : Type 0} (slots : List ℕ) (m : Member C) → Contains slots m.movers.first → is_first_of slots m ≡ true
first_among [] m h = absurd (none_in m.movers.first h)
first_among (t ∷ slots) m h = elim (contains_cases t slots m.movers.first h) [
  | inl e ↦ rw (eq-eqb m.movers.first t (sym e)) refl
  | inr k ↦ rw (first_among slots m k) (or_true (is_first t m))
]

among_first : {C : Type 0} (slots : List ℕ) (m : Member C) → is_first_of slots m ≡ true → Contains slots m.movers.first
among_first [] m h = absurd (false≢true h)
among_first (t ∷ slots) m h = elim (cases_eq m.movers.first t) [
  | inl e ↦ let P : ℕ → Type 0 = λ v. Contains (t ∷ slots) v in subst P (sym e) (contains_head t slots)
  | inr away ↦ contains_tail t slots m.movers.first (among_first slots m (rw (ne_eqb m.movers.first t away) at h))
]

same_test : (a b : Bool) → (a ≡ true → b ≡ true) → (b ≡ true → a ≡ true) → a ≡ b
same_test true true f g = refl
same_test true false f g = absurd (false≢true (f refl))
same_test false true f g = absurd (false≢true (g refl))
same_test false false f g = refl

pub or_first : (a b : Bool) → (b ≡ true → a ≡ true) → a ≡ (a || b)
or_first true b f = refl
or_first false true f = f refl
or_first false false f = refl

-- a constraint's second mover is in the island only if the first is
pub second_with_first : {C : Type 0} (ties : List (Member C)) (labels : Labels) (name : ℕ) (m : Member C) (o : Option ℕ) → AreIslands (Linked (links_of ties)) labels → Contains ties m → m.movers.second ≡ o → second_in labels name o ≡ true → is_in (label_at labels m.movers.first) name ≡ true
second_with_first ties labels name m None w h e q = absurd (false≢true q)
second_with_first ties labels name m (Some b) w h e q =
    let t = w.together m.movers.first b (inl (in_links ties m m.movers.first b h refl e)) in
    ap (λ v. is_in v name) (t.1 ∙ sym t.2) ∙ q

-- those whose first mover is one of the island's are the island's
pub firsts_own : {C : Type 0} (ties : List (Member C)) (labels : Labels) (name : ℕ) (slots : List ℕ) → AreIslands (Linked (links_of ties)) labels → ((s : ℕ) → Contains slots s ↔ IsIn labels name s) → filter (is_first_of slots) ties ≡ filter (has_mover_of labels name) ties
firsts_own ties labels name slots w all = filter_as (is_first_of slots) (has_mover_of labels name) ties (λ m h.
    same_test (is_first_of slots m) (is_in (label_at labels m.movers.first) name) (λ q. (all m.movers.first).0 (among_first slots m q)) (λ q. first_among slots m ((all m.movers.first).1 q))
    ∙ or_first (is_in (label_at labels m.movers.first) name) (second_in labels name m.movers.second) (second_with_first ties labels name m m.movers.second w h refl))

-- what becomes of the sets, by the list that was gathered
pub woken_by_list : {C : Type 0} (number : C → ℕ) (name : ℕ) (s : Acting C) (list : List (Member C)) (labels : Labels) (lists : List (List (Member C))) → list ≡ ties_of_mover s name → labels ≡ woken s.labels name → lists ≡ placed_all number s.lists list → acting s.ties labels lists ≡ set_woken number name s
unfolding set_woken
woken_by_list {C} number name s list labels lists own named placed =
    let all : lists ≡ placed_all number s.lists (ties_of_mover s name) = placed ∙ ap (λ (l : List (Member C)). placed_all number s.lists l) own in
    λ i. record { ties = s.ties; labels = named i; lists = all i }

pub rested_by_list : {C : Type 0} (number : C → ℕ) (name : ℕ) (s : Acting C) (list : List (Member C)) (labels : Labels) (lists : List (List (Member C))) → list ≡ ties_of_mover s name → labels ≡ rested s.labels name → lists ≡ released_all number s.lists list → acting s.ties labels lists ≡ put_to_rest number name s
unfolding put_to_rest
rested_by_list {C} number name s list labels lists own named released =
    let all : lists ≡ released_all number s.lists (ties_of_mover s name) = released ∙ ap (λ (l : List (Member C)). released_all number s.lists l) own in
    λ i. record { ties = s.ties; labels = named i; lists = all i }

-- ---- links

link_out : (labels : Labels) (name first : ℕ) (o : Option ℕ) (es : Edges) → is_in (label_at labels first) name ≡ false → filter (λ e. is_in (label_at labels e.0) name) (cons_option (option_map {U = ℕ × ℕ} (λ b. (first, b)) o) es) ≡ filter (λ e. is_in (label_at labels e.0) name) es
link_out labels name first None es off = refl
link_out labels name first (Some b) es off = rw off refl

link_front : (p : ℕ × ℕ → Bool) (o : Option (ℕ × ℕ)) (es fs : Edges) → filter p es ≡ filter p fs → filter p (cons_option o es) ≡ filter p (cons_option o fs)
link_front p None es fs h = h
link_front p (Some d) es fs h = ap (λ (l : Edges). cond (p d) (d ∷ l) l) h

edges_by : {C : Type 0} (labels : Labels) (name : ℕ) (m : Member C) (ms own : List (Member C)) (t : Bool) → has_mover_of labels name m ≡ t → edges_in labels name own ≡ edges_in labels name ms → edges_in labels name (cond t (m ∷ own) own) ≡ edges_in labels name (m ∷ ms)
edges_by labels name m ms own true e rest = link_front (λ e. is_in (label_at labels e.0) name) (link_of m) (links_of own) (links_of ms) rest
edges_by labels name m ms own false e rest = rest ∙ sym (link_out labels name m.movers.first m.movers.second (links_of ms) (or_left (is_in (label_at labels m.movers.first) name) (second_in labels name m.movers.second) e))

-- the links of an island are those of its constraints
edges_own : {C : Type 0} (labels : Labels) (name : ℕ) (ties : List (Member C)) → edges_in labels name (filter (has_mover_of labels name) ties) ≡ edges_in labels name ties
edges_own labels name [] = refl
edges_own labels name (m ∷ ms) = edges_by labels name m ms (filter (has_mover_of labels name) ms) (has_mover_of labels name m) refl (edges_own labels name ms)

pub edges_listed : {C : Type 0} (labels : Labels) (name : ℕ) (ties list : List (Member C)) (edges : Edges) → list ≡ filter (has_mover_of labels name) ties → edges ≡ edges_in labels name list → edges ≡ edges_in labels name ties
edges_listed {C} labels name ties list edges own h = h ∙ ap (λ (l : List (Member C)). edges_in labels name l) own ∙ edges_own labels name ties
