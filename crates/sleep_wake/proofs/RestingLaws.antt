-- To put islands to rest one after the other is to take the colours of all their constraints in one pass, and to rest
-- their movers.
use Rattle.std.proofs.Common.{◌≡◌, ℕ, zero, suc, ◌+◌, ◌<◌, ◌==◌, ◌&&◌, ◌||◌, Bool, true, false, not, cond, List, [], ◌∷◌, Option, Some, None, length, map, refl, sym, ap, ◌∙◌, arith}
use Rattle.std.specs.Prelude.{filter, fold}
use Rattle.std.specs.List.{list_any}
use Rattle.std.proofs.lemmas.Bool.{false≢true, eqb-true, eq-eqb}
use Rattle.graph_colours.proofs.PlaceLemmas.{not_same}
use Rattle.graph_colours.specs.declared.member.Member.{Member}
use Rattle.graph_colours.specs.Members.{without_member}
use Rattle.graph_colours.specs.FoundMembers.{has_id}
use Rattle.graph_colours.specs.Colours.{released}
use Rattle.islands.specs.declared.label.Label.{Label}
use Rattle.islands.specs.Labels.{Labels, label_at, is_in, is_loose, is_asleep, rested}
use Rattle.islands.specs.Partition.{IsPartition}
use Rattle.islands.proofs.LabelLemmas.{relabel_at, some_short}
use Rattle.islands.specs.declared.label.IslandState.TheVariants.{Asleep}
use Rattle.sleep_wake.specs.Acting.{Acting, acting}
use Rattle.sleep_wake.specs.Waking.{second_in, has_mover_of, ties_of_mover, released_all, put_to_rest}
use Rattle.sleep_wake.specs.SleepPhase.{is_time_to_sleep, ready_put_to_rest}
use Rattle.sleep_wake.specs.Resting.{least_at, AreLeast, is_ready_island, ready_after, ready_names, rests_by, second_rests, is_to_rest, all_rested}
use Rattle.sleep_wake.proofs.LeastLemmas.{timer_in, ready_names_are}
use Rattle.sleep_wake.proofs.AgreeLaws.{alike_ready, same_rests}
use Rattle.sleep_wake.proofs.RestLemmas.{asleep_in, in_rested}

-- ---- constraints taken out of the colours together

-- without those that have the id of one of these
abbrev pub Others : {C : Type 0} → (C → ℕ) → List (Member C) → List (Member C) → List (Member C)
Others number ms l = filter (λ m. not (has_id number m.id ms)) l

abbrev pub cleared : {C : Type 0} → (C → ℕ) → List (Member C) → List (List (Member C)) → List (List (Member C))
cleared number ms lists = map (Others number ms) lists

same_back : (a b : ℕ) (t : Bool) → (a == b) ≡ t → (b == a) ≡ t
same_back a b true e = eq-eqb b a (sym (eqb-true a b e))
same_back a b false e = not_same b a (λ k. false≢true (sym e ∙ eq-eqb a b (sym k)))

all_stay : {C : Type 0} (number : C → ℕ) (l : List (Member C)) → Others number [] l ≡ l
unfolding has_id
all_stay number [] = refl
all_stay {C} number (x ∷ l) = ap (λ (v : List (Member C)). x ∷ v) (all_stay number l)

one_more_by : {C : Type 0} (number : C → ℕ) (m x : Member C) (ms l : List (Member C)) (t : Bool) → Others number ms (cond (not t) (x ∷ l) l) ≡ cond (not (t || has_id number x.id ms)) (x ∷ Others number ms l) (Others number ms l)
one_more_by number m x ms l true = refl
one_more_by number m x ms l false = refl

one_more : {C : Type 0} (number : C → ℕ) (m : Member C) (ms l : List (Member C)) → Others number ms (without_member number m.id l) ≡ Others number (m ∷ ms) l
unfolding has_id without_member
one_more number m ms [] = refl
one_more {C} number m ms (x ∷ l) =
    let rest : List (Member C) = filter (λ y. not (number y.id == number m.id)) l in
    let back : (number x.id == number m.id) ≡ (number m.id == number x.id) = same_back (number m.id) (number x.id) (number m.id == number x.id) refl in
    one_more_by number m x ms rest (number x.id == number m.id)
    ∙ ap (λ (v : List (Member C)). cond (not ((number x.id == number m.id) || list_any (λ y. number y.id == number x.id) ms)) (x ∷ v) v) (one_more number m ms l)
    ∙ ap (λ (t : Bool). cond (not (t || list_any (λ y. number y.id == number x.id) ms)) (x ∷ Others number (m ∷ ms) l) (Others number (m ∷ ms) l)) back

map_stays : {X : Type 0} (f : X → X) → ((x : X) → f x ≡ x) → (xs : List X) → map f xs ≡ xs
map_stays f h [] = refl
map_stays f h (x ∷ xs) = rw (h x, map_stays f h xs) refl

map_twice : {X : Type 0} (f g h : X → X) → ((x : X) → f (g x) ≡ h x) → (xs : List X) → map f (map g xs) ≡ map h xs
map_twice f g h e [] = refl
map_twice f g h e (x ∷ xs) = rw (e x, map_twice f g h e xs) refl

pub cleared_is : {C : Type 0} (number : C → ℕ) (ms : List (Member C)) (lists : List (List (Member C))) → released_all number lists ms ≡ cleared number ms lists
unfolding released
cleared_is number [] lists = sym (map_stays (Others number []) (all_stay number) lists)
cleared_is number (m ∷ ms) lists =
    cleared_is number ms (map (without_member number m.id) lists)
    ∙ map_twice (Others number ms) (without_member number m.id) (Others number (m ∷ ms)) (one_more number m ms) lists

-- ---- those of two tests are those of either

abbrev Either : {C : Type 0} → (Member C → Bool) → (Member C → Bool) → Member C → Bool
Either p q m = p m || q m

or_later : (a p q x y z : Bool) → z ≡ (x || y) → cond (p || q) (a || z) z ≡ (cond p (a || x) x || cond q (a || y) y)
or_later true true q x y z e = refl
or_later true false true true y z e = refl
or_later true false true false y z e = refl
or_later true false false x y z e = e
or_later false true true x y z e = e
or_later false true false x y z e = e
or_later false false true x y z e = e
or_later false false false x y z e = e

any_cond : {C : Type 0} (f : Member C → Bool) (t : Bool) (m : Member C) (ms : List (Member C)) → list_any f (cond t (m ∷ ms) ms) ≡ cond t (f m || list_any f ms) (list_any f ms)
any_cond f true m ms = refl
any_cond f false m ms = refl

any_either : {C : Type 0} (f p q : Member C → Bool) (ms : List (Member C)) → list_any f (filter (Either p q) ms) ≡ (list_any f (filter p ms) || list_any f (filter q ms))
any_either f p q [] = refl
any_either f p q (m ∷ ms) =
    any_cond f (p m || q m) m (filter (Either p q) ms)
    ∙ or_later (f m) (p m) (q m) (list_any f (filter p ms)) (list_any f (filter q ms)) (list_any f (filter (Either p q) ms)) (any_either f p q ms)
    ∙ ap (λ (v : Bool). v || cond (q m) (f m || list_any f (filter q ms)) (list_any f (filter q ms))) (sym (any_cond f (p m) m (filter p ms)))
    ∙ ap (λ (v : Bool). list_any f (cond (p m) (m ∷ filter p ms) (filter p ms)) || v) (sym (any_cond f (q m) m (filter q ms)))

filter_twice_by : {C : Type 0} (g : Member C → Bool) (x : Member C) (l : List (Member C)) (s t u : Bool) → u ≡ (s || t) → g x ≡ not t → filter g (cond (not s) (x ∷ l) l) ≡ cond (not u) (x ∷ filter g l) (filter g l)
filter_twice_by g x l true t u e h = rw e refl
filter_twice_by g x l false t u e h = rw (e, h) refl

both_cleared_one : {C : Type 0} (number : C → ℕ) (p q : Member C → Bool) (ms l : List (Member C)) → Others number (filter q ms) (Others number (filter p ms) l) ≡ Others number (filter (Either p q) ms) l
unfolding has_id
both_cleared_one number p q ms [] = refl
both_cleared_one {C} number p q ms (x ∷ l) =
    let f : Member C → Bool = λ m. number m.id == number x.id in
    filter_twice_by (λ y. not (has_id number y.id (filter q ms))) x (Others number (filter p ms) l) (list_any f (filter p ms)) (list_any f (filter q ms)) (list_any f (filter (Either p q) ms)) (any_either f p q ms) refl
    ∙ ap (λ (v : List (Member C)). cond (not (list_any f (filter (Either p q) ms))) (x ∷ v) v) (both_cleared_one number p q ms l)

pub both_cleared : {C : Type 0} (number : C → ℕ) (p q : Member C → Bool) (ms : List (Member C)) (lists : List (List (Member C))) → cleared number (filter q ms) (cleared number (filter p ms) lists) ≡ cleared number (filter (Either p q) ms) lists
both_cleared number p q ms lists = map_twice (Others number (filter q ms)) (Others number (filter p ms)) (Others number (filter (Either p q) ms)) (both_cleared_one number p q ms) lists

-- ---- one island after the other

-- the constraint has a mover of one of these islands
abbrev pub of_any : {C : Type 0} → Labels → List ℕ → Member C → Bool
of_any labels names m = list_any (λ n. has_mover_of labels n m) names

none_of : {C : Type 0} (ms : List (Member C)) → filter (λ m. false) ms ≡ []
none_of [] = refl
none_of (m ∷ ms) = none_of ms

in_after : (labels : Labels) (name n slot : ℕ) → is_in (label_at (map (asleep_in name) labels) slot) n ≡ is_in (label_at labels slot) n
in_after labels name n slot = ap (λ (o : Option Label). is_in o n) (relabel_at name name (record { name = name; state = Asleep }) labels slot) ∙ in_rested name n (label_at labels slot)

second_after : (labels : Labels) (name n : ℕ) (o : Option ℕ) → second_in (map (asleep_in name) labels) n o ≡ second_in labels n o
second_after labels name n None = refl
second_after labels name n (Some slot) = in_after labels name n slot

mover_after : {C : Type 0} (labels : Labels) (name n : ℕ) (m : Member C) → has_mover_of (map (asleep_in name) labels) n m ≡ has_mover_of labels n m
mover_after labels name n m = rw (in_after labels name n m.movers.first, second_after labels name n m.movers.second) refl

any_after : {C : Type 0} (labels : Labels) (name : ℕ) (names : List ℕ) (m : Member C) → of_any (map (asleep_in name) labels) names m ≡ of_any labels names m
any_after labels name [] m = refl
any_after labels name (n ∷ names) m = rw (mover_after labels name n m, any_after labels name names m) refl

pub all_lists : {C : Type 0} (number : C → ℕ) (names : List ℕ) (s : Acting C) → (fold (λ now name. put_to_rest number name now) s names).lists ≡ cleared number (filter (of_any s.labels names) s.ties) s.lists
unfolding put_to_rest rested
all_lists {C} number [] s =
    sym (ap (λ (v : List (Member C)). cleared number v s.lists) (none_of s.ties) ∙ map_stays (Others number []) (all_stay number) s.lists)
all_lists {C} number (n ∷ names) s =
    let new : Labels = map (asleep_in n) s.labels in
    let same : of_any {C = C} new names ≡ of_any s.labels names = λ i m. any_after s.labels n names m i in
    all_lists number names (put_to_rest number n s)
    ∙ ap (λ (p : Member C → Bool). cleared number (filter p s.ties) (released_all number s.lists (ties_of_mover s n))) same
    ∙ ap (λ (v : List (List (Member C))). cleared number (filter (of_any s.labels names) s.ties) v) (cleared_is number (ties_of_mover s n) s.lists)
    ∙ both_cleared number (has_mover_of s.labels n) (of_any s.labels names) s.ties s.lists

pub all_labels : {C : Type 0} (number : C → ℕ) (names : List ℕ) (s : Acting C) → (fold (λ now name. put_to_rest number name now) s names).labels ≡ all_rested names s.labels
unfolding put_to_rest
all_labels number [] s = refl
all_labels number (n ∷ names) s = all_labels number names (put_to_rest number n s)

pub all_ties : {C : Type 0} (number : C → ℕ) (names : List ℕ) (s : Acting C) → (fold (λ now name. put_to_rest number name now) s names).ties ≡ s.ties
unfolding put_to_rest
all_ties number [] s = refl
all_ties number (n ∷ names) s = all_ties number names (put_to_rest number n s)

-- ---- a mover of an island that is ready, by its own label

no_more : (x slot : ℕ) (names : List ℕ) (t : Bool) → (x == slot) ≡ false → list_any (λ n. x == n) (cond t (slot ∷ names) names) ≡ list_any (λ n. x == n) names
no_more x slot names true e = rw e refl
no_more x slot names false e = refl

below_none : (loose : Bool) (timer : ℕ → Option ℕ) (x slot : ℕ) (rest : Labels) → x < slot → list_any (λ n. x == n) (ready_after loose timer slot rest) ≡ false
below_none loose timer x slot [] lt = refl
below_none loose timer x slot (o ∷ rest) lt =
    no_more x slot (ready_after loose timer (suc slot) rest) (is_ready_island loose timer slot o) (not_same x slot (λ e. omega (arith, e, lt)))
    ∙ below_none loose timer x (suc slot) rest (omega (arith, lt))

here_first : (x slot : ℕ) (names : List ℕ) (t : Bool) → x ≡ slot → list_any (λ n. x == n) names ≡ false → list_any (λ n. x == n) (cond t (slot ∷ names) names) ≡ t
here_first x slot names true e none = rw (eq-eqb x slot e) refl
here_first x slot names false e none = none

named_ready : (loose : Bool) (timer : ℕ → Option ℕ) (x slot k : ℕ) (rest : Labels) → x ≡ slot + k → k < length rest → list_any (λ n. x == n) (ready_after loose timer slot rest) ≡ is_ready_island loose timer x (label_at rest k)
named_ready loose timer x slot k [] e lt = absurd (omega (arith, lt))
named_ready loose timer x slot zero (o ∷ rest) e lt =
    let here : x ≡ slot = omega (arith, e) in
    here_first x slot (ready_after loose timer (suc slot) rest) (is_ready_island loose timer slot o) here (below_none loose timer x (suc slot) rest (omega (arith, here)))
    ∙ ap (λ (n : ℕ). is_ready_island loose timer n o) (sym here)
named_ready loose timer x slot (suc k) (o ∷ rest) e lt =
    let off : (x == slot) ≡ false = not_same x slot (λ q. omega (arith, q, e)) in
    no_more x slot (ready_after loose timer (suc slot) rest) (is_ready_island loose timer slot o) off
    ∙ named_ready loose timer x (suc slot) k rest (omega (arith, e)) (omega (arith, lt))

none_any : (names : List ℕ) → list_any (λ n. false) names ≡ false
none_any [] = refl
none_any (n ∷ names) = none_any names

rests_label : (timer : ℕ → Option ℕ) (labels : Labels) (slot : ℕ) (o : Option Label) → label_at labels slot ≡ o → IsPartition labels → list_any (λ n. is_in o n) (ready_names false timer labels) ≡ rests_by timer o
rests_label timer labels slot None e p = none_any (ready_names false timer labels)
rests_label timer labels slot (Some l) e p =
    let home : label_at labels l.name ≡ Some l = p.named slot l e in
    let lt : l.name < length labels = some_short labels l.name l home in
    named_ready false timer l.name 0 l.name labels (omega arith) lt
    ∙ ap (λ (o : Option Label). is_ready_island false timer l.name o) home
    ∙ ap (λ (t : Bool). (t && (not (is_loose l.state) && not (is_asleep l.state))) && is_time_to_sleep (timer l.name)) (eq-eqb l.name l.name refl)

rests_slot : (timer : ℕ → Option ℕ) (labels : Labels) (slot : ℕ) → IsPartition labels → list_any (λ n. is_in (label_at labels slot) n) (ready_names false timer labels) ≡ rests_by timer (label_at labels slot)
rests_slot timer labels slot p = rests_label timer labels slot (label_at labels slot) refl p

rests_second : (timer : ℕ → Option ℕ) (labels : Labels) (o : Option ℕ) → IsPartition labels → list_any (λ n. second_in labels n o) (ready_names false timer labels) ≡ second_rests timer labels o
rests_second timer labels None p = none_any (ready_names false timer labels)
rests_second timer labels (Some slot) p = rests_slot timer labels slot p

or_swap : (a b x y : Bool) → ((a || b) || (x || y)) ≡ ((a || x) || (b || y))
or_swap true b x y = refl
or_swap false true true y = refl
or_swap false true false y = refl
or_swap false false x y = refl

any_or : (f g : ℕ → Bool) (names : List ℕ) → list_any (λ n. f n || g n) names ≡ (list_any f names || list_any g names)
any_or f g [] = refl
any_or f g (n ∷ names) = ap (λ (v : Bool). (f n || g n) || v) (any_or f g names) ∙ or_swap (f n) (g n) (list_any f names) (list_any g names)

pub rests_are : {C : Type 0} (timer : ℕ → Option ℕ) (labels : Labels) (m : Member C) → IsPartition labels → of_any labels (ready_names false timer labels) m ≡ is_to_rest timer labels m
rests_are timer labels m p =
    any_or (λ n. is_in (label_at labels m.movers.first) n) (λ n. second_in labels n m.movers.second) (ready_names false timer labels)
    ∙ rw (rests_slot timer labels m.movers.first p, rests_second timer labels m.movers.second p) refl

-- ---- all together

pub rests_together : {C : Type 0} (number : C → ℕ) (timers : List ℕ) (leasts : List (Option ℕ)) (s : Acting C) (labels : Labels) (lists : List (List (Member C))) → IsPartition s.labels → AreLeast s.labels timers leasts
    → lists ≡ released_all number s.lists (filter (is_to_rest (least_at leasts) s.labels) s.ties)
    → labels ≡ all_rested (ready_names false (least_at leasts) s.labels) s.labels
    → acting s.ties labels lists ≡ ready_put_to_rest number timers s
rests_together {C} number timers leasts s labels lists p w is_lists is_labels =
    let timer : ℕ → Option ℕ = timer_in s.labels timers in
    let names : List ℕ = ready_names false timer s.labels in
    let test : of_any {C = C} s.labels names ≡ is_to_rest timer s.labels = λ i m. rests_are timer s.labels m p i in
    let told : is_to_rest {C = C} (least_at leasts) s.labels ≡ is_to_rest timer s.labels = same_rests s.labels (least_at leasts) timer w.each in
    let now : Acting C = fold (λ now name. put_to_rest number name now) s names in
    let t : s.ties ≡ now.ties = sym (all_ties number names s) in
    let l : labels ≡ now.labels = is_labels
    ∙ ap (λ (ns : List ℕ). all_rested ns s.labels) (alike_ready false s.labels (least_at leasts) timer w.each)
    ∙ sym (all_labels number names s) in
    let c : lists ≡ now.lists = is_lists
    ∙ ap (λ (q : Member C → Bool). released_all number s.lists (filter q s.ties)) told
    ∙ cleared_is number (filter (is_to_rest timer s.labels) s.ties) s.lists
    ∙ ap (λ (q : Member C → Bool). cleared number (filter q s.ties) s.lists) (sym test)
    ∙ sym (all_lists number names s) in
    let each : acting s.ties labels lists ≡ now = λ i. record { ties = t i; labels = l i; lists = c i } in
    each ∙ ap (λ (ns : List ℕ). fold (λ now name. put_to_rest number name now) s ns) (ready_names_are false s.labels timers)
