-- One item after another is listed where it stands, and what that makes is the census.
use Rattle.std.proofs.Common.{◌≡◌, ◌⊎◌, ℕ, zero, suc, ◌+◌, ◌<◌, ◌≤◌, ◌==◌, Bool, true, false, cond, nat_lt, ltb-true, ltb-false, List, [], ◌∷◌, ◌++◌, length, drop, get_or, map, filter, slice_set, Option, Some, None, inl, inr, refl, sym, ap, ap₂, ◌∙◌, subst, arith}
use Rattle.std.specs.List.{cons_option, insert, sum_by}
use Rattle.std.proofs.lemmas.List.Sums.{sum_by-append, sum_by-cons}
use Rattle.std.specs.List.Sorted.{IsNonDecreasingBy}
use Rattle.std.proofs.Math.Numerals.{add-one}
use Rattle.std.proofs.lemmas.List.{append-nil, append_assoc}
use Rattle.body_handles.specs.declared.handle.Handle.{Handle}
use Rattle.body_handles.specs.declared.slot_table.SlotEntry.{SlotEntry}
use Rattle.graph_colours.proofs.Cases.{true_or_false}
use Rattle.graph_colours.proofs.PlaceLemmas.{is_lower, is_same, not_lower, not_same, same_from}
use Rattle.contacts_base.proofs.Members.{IsIn}
use Rattle.contacts_base.specs.declared.contact.ContactEntry.{ContactEntry}
use Rattle.sleep_wake.specs.Sleeping.{with_one_name}
use Rattle.plain_world.specs.declared.body.Body.{Body}
use Rattle.plain_world.specs.declared.body.SetName.{SetName}
use Rattle.plain_world.specs.declared.body.SetName.TheVariants as sets
use Rattle.solver_sets.specs.declared.census.Item.{Item}
use Rattle.solver_sets.specs.declared.census.Item.TheVariants as items
use Rattle.solver_sets.specs.Laws as laws
use Rattle.solver_sets.specs.Census.{AreNamed, Census, Sleepers, Standing, census_in, contact_standings, in_set, in_sleepers, is_same_set, items_of, listed, set_names, names_with, sleepers_of, standing_if, standing_of_contact, standings_from, with_name_of}
use Rattle.solver_sets.specs.CensusListing.{alone, empty_census, listed_in, with_all, with_item, with_listed, with_sleeper}
use Rattle.solver_sets.proofs.ListLaws.{Rises, pairs_from_rises, rises_from_pairs}
use Rattle.solver_sets.proofs.ListingLaws.{drop_is, drop_past}

-- ---- the place of a sleeping set

pub not_falling : (sleeping : List Sleepers) → AreNamed sleeping → IsNonDecreasingBy (λ (s : Sleepers). s.name) sleeping
not_falling sleeping rising i j d le lj = grind (arith, rising i j d)

pub with_sleeper-in : (name : ℕ) (item : Item) (sleeping : List Sleepers) (place : ℕ) (d : Sleepers) → ((k : ℕ) (e : Sleepers) → k < place → (get_or sleeping k e).name < name) → place < length sleeping → (get_or sleeping place d).name ≡ name
    → with_sleeper name item sleeping ≡ slice_set sleeping place (with_item (get_or sleeping place d) item)
with_sleeper-in name item [] place d before lt at = absurd (omega arith)
with_sleeper-in name item (s ∷ ss) zero d before lt at = rw (not_lower s.name name (omega (arith, at)), is_same s.name name at) refl
with_sleeper-in name item (s ∷ ss) (suc place) d before lt at =
    rw (is_lower s.name name (before 0 s (omega arith))) (ap (λ (l : List Sleepers). s ∷ l) (with_sleeper-in name item ss place d (λ k e l. before (suc k) e (omega arith)) (omega arith) at))

pub with_sleeper-new : (name : ℕ) (item : Item) (sleeping : List Sleepers) (place : ℕ) → ((k : ℕ) (e : Sleepers) → k < place → (get_or sleeping k e).name < name) → place ≤ length sleeping → ((e : Sleepers) → place < length sleeping → name < (get_or sleeping place e).name)
    → with_sleeper name item sleeping ≡ insert sleeping place (alone name item)
with_sleeper-new name item [] zero before le after = refl
with_sleeper-new name item [] (suc place) before le after = absurd (omega arith)
with_sleeper-new name item (s ∷ ss) zero before le after =
    let lt : name < s.name = after s (omega arith) in
    rw (not_lower s.name name (omega arith), not_same s.name name (λ e. absurd (omega arith))) refl
with_sleeper-new name item (s ∷ ss) (suc place) before le after =
    rw (is_lower s.name name (before 0 s (omega arith))) (ap (λ (l : List Sleepers). s ∷ l) (with_sleeper-new name item ss place (λ k e l. before (suc k) e (omega arith)) (omega arith) (λ e l. after e (omega arith))))

-- ---- the names of the sets ascend

apart_above : (a b : ℕ) → a ≤ b → (b == a) ≡ false → a < b
apart_above a b le f = let other : (b ≡ a → ⊥) = λ e. true_or_false (b == a) (is_same b a e) f in omega (arith, other)

above_by : (m n : ℕ) (item : Item) (s : Sleepers) (ss : List Sleepers) (t u : Bool) → m < n → ((x : Sleepers) → (x ≡ s) ⊎ IsIn x ss → m < x.name) → ((x : Sleepers) → IsIn x (with_sleeper n item ss) → m < x.name)
    → (x : Sleepers) → IsIn x (cond t (s ∷ with_sleeper n item ss) (cond u (with_item s item ∷ ss) (alone n item ∷ s ∷ ss))) → m < x.name
above_by m n item s ss true u lt all later x h = elim h [ inl p ↦ all x (inl p) | inr q ↦ later x q ]
above_by m n item s ss false true lt all later x h = elim h [ inl p ↦ subst (λ (k : ℕ). m < k) (sym (ap (λ (z : Sleepers). z.name) p)) (all s (inl refl)) | inr q ↦ all x (inr q) ]
above_by m n item s ss false false lt all later x h = elim h [ inl p ↦ subst (λ (k : ℕ). m < k) (sym (ap (λ (z : Sleepers). z.name) p)) lt | inr q ↦ all x q ]

above : (m n : ℕ) (item : Item) (ss : List Sleepers) → m < n → ((x : Sleepers) → IsIn x ss → m < x.name) → (x : Sleepers) → IsIn x (with_sleeper n item ss) → m < x.name
above m n item [] lt all x h = elim h [ inl p ↦ subst (λ (k : ℕ). m < k) (sym (ap (λ (z : Sleepers). z.name) p)) lt | inr q ↦ absurd q ]
above m n item (s ∷ ss) lt all x h = above_by m n item s ss (nat_lt s.name n) (s.name == n) lt all (above m n item ss lt (λ y q. all y (inr q))) x h

abbrev name : Sleepers → ℕ
name s = s.name

rises_by : (n : ℕ) (item : Item) (s : Sleepers) (ss : List Sleepers) (t u : Bool) → nat_lt s.name n ≡ t → (s.name == n) ≡ u → ((x : Sleepers) → IsIn x ss → s.name < x.name) → Rises name ss → Rises name (with_sleeper n item ss)
    → Rises name (cond t (s ∷ with_sleeper n item ss) (cond u (with_item s item ∷ ss) (alone n item ∷ s ∷ ss)))
rises_by n item s ss true u e f all r later = (above s.name n item ss (ltb-true s.name n e) all, later)
rises_by n item s ss false true e f all r later = (all, r)
rises_by n item s ss false false e f all r later =
    let le : n ≤ s.name = ltb-false s.name n e in
    let lt : n < s.name = apart_above n s.name le f in
    (λ x h. elim h [ inl p ↦ subst (λ (k : ℕ). n < k) (sym (ap name p)) lt | inr q ↦ let more : s.name < x.name = all x q in omega arith ], (all, r))

rises_with : (n : ℕ) (item : Item) (ss : List Sleepers) → Rises name ss → Rises name (with_sleeper n item ss)
rises_with n item [] r = (λ x h. absurd h, tt)
rises_with n item (s ∷ ss) r = rises_by n item s ss (nat_lt s.name n) (s.name == n) refl refl r.0 r.1 (rises_with n item ss r.1)

pub named_listed : (c : Census) (item : Item) (set : SetName) → AreNamed c.sleeping → AreNamed (listed_in c item set).sleeping
named_listed c item sets.Static h = h
named_listed c item sets.Disabled h = h
named_listed c item sets.Awake h = h
named_listed c item (sets.Sleeping n) h = pairs_from_rises name (with_sleeper n item c.sleeping) (rises_with n item c.sleeping (rises_from_pairs name c.sleeping h))

-- ---- what is in slots

pub standings_step : {X : Type 0} (item : Handle → Item) (set : X → SetName) (slot_entries : List SlotEntry) (xs : List (Option X)) (i : ℕ) (p : SlotEntry) (d : Option X) → i < length slot_entries → i < length xs
    → standings_from item set i (drop i slot_entries) (drop i xs) ≡ cons_option (standing_if item set (record { slot = i; generation = (get_or slot_entries i p).generation }) (get_or xs i d)) (standings_from item set (i + 1) (drop (i + 1) slot_entries) (drop (i + 1) xs))
standings_step {X} item set slot_entries xs i p d lt short =
    let h : Handle = record { slot = i; generation = (get_or slot_entries i p).generation } in
    rw (drop_is slot_entries i p lt, drop_is xs i d short) (ap (λ (k : ℕ). cons_option (standing_if item set h (get_or xs i d)) (standings_from item set k (drop (i + 1) slot_entries) (drop (i + 1) xs))) (sym (add-one i)))

pub slot_listed : {X : Type 0} (item : Handle → Item) (set : X → SetName) (slot_entries : List SlotEntry) (xs : List (Option X)) (i : ℕ) (p : SlotEntry) (x : X) (c next : Census) → i < length slot_entries → i < length xs → get_or xs i (Some x) ≡ Some x
    → next ≡ listed_in c (item (record { slot = i; generation = (get_or slot_entries i p).generation })) (set x)
    → with_all next (standings_from item set (i + 1) (drop (i + 1) slot_entries) (drop (i + 1) xs)) ≡ with_all c (standings_from item set i (drop i slot_entries) (drop i xs))
slot_listed {X} item set slot_entries xs i p x c next lt short here is =
    let h : Handle = record { slot = i; generation = (get_or slot_entries i p).generation } in
    let rest : List Standing = standings_from item set (i + 1) (drop (i + 1) slot_entries) (drop (i + 1) xs) in
    ap (λ (k : Census). with_all k rest) is
    ∙ sym (ap (with_all c) (standings_step item set slot_entries xs i p (Some x) lt short ∙ ap (λ (o : Option X). cons_option (standing_if item set h o) rest) here))

pub slot_passed : {X : Type 0} (item : Handle → Item) (set : X → SetName) (slot_entries : List SlotEntry) (xs : List (Option X)) (i : ℕ) (p : SlotEntry) (c : Census) → i < length slot_entries → i < length xs → get_or xs i None ≡ None
    → with_all c (standings_from item set (i + 1) (drop (i + 1) slot_entries) (drop (i + 1) xs)) ≡ with_all c (standings_from item set i (drop i slot_entries) (drop i xs))
slot_passed {X} item set slot_entries xs i p c lt short here =
    let h : Handle = record { slot = i; generation = (get_or slot_entries i p).generation } in
    let rest : List Standing = standings_from item set (i + 1) (drop (i + 1) slot_entries) (drop (i + 1) xs) in
    sym (ap (with_all c) (standings_step item set slot_entries xs i p None lt short ∙ ap (λ (o : Option X). cons_option (standing_if item set h o) rest) here))

pub slots_end : {X : Type 0} (item : Handle → Item) (set : X → SetName) (slot_entries : List SlotEntry) (xs : List (Option X)) (i : ℕ) (c all : Census) → length slot_entries ≤ i → with_all c (standings_from item set i (drop i slot_entries) (drop i xs)) ≡ all → c ≡ all
slots_end item set slot_entries xs i c all le e = ap (λ (ps : List SlotEntry). with_all c (standings_from item set i ps (drop i xs))) (sym (drop_past slot_entries i le)) ∙ e

-- ---- one item more

in_set-more : (set : SetName) (xs : List Standing) (s : Standing) → in_set set (xs ++ s ∷ []) ≡ in_set set xs ++ cond (is_same_set set s.set) (s.item ∷ []) []
in_set-more set [] s = by_test (is_same_set set s.set)
  where
    by_test : (t : Bool) → map (λ (z : Standing). z.item) (cond t (s ∷ []) []) ≡ cond t (s.item ∷ []) []
    by_test true = refl
    by_test false = refl
in_set-more set (x ∷ xs) s = by_test (is_same_set set x.set) (filter (λ (z : Standing). is_same_set set z.set) (xs ++ s ∷ [])) (filter (λ (z : Standing). is_same_set set z.set) xs) (cond (is_same_set set s.set) (s.item ∷ []) []) (in_set-more set xs s)
  where
    by_test : (t : Bool) (ys zs : List Standing) (last : List Item) → map (λ (z : Standing). z.item) ys ≡ map (λ (z : Standing). z.item) zs ++ last → map (λ (z : Standing). z.item) (cond t (x ∷ ys) ys) ≡ map (λ (z : Standing). z.item) (cond t (x ∷ zs) zs) ++ last
    by_test true ys zs last e = ap (λ (l : List Item). x.item ∷ l) e
    by_test false ys zs last e = e

in_set-other : (set : SetName) (xs : List Standing) (s : Standing) → is_same_set set s.set ≡ false → in_set set (xs ++ s ∷ []) ≡ in_set set xs
in_set-other set xs s e = in_set-more set xs s ∙ ap (λ (t : Bool). in_set set xs ++ cond t (s.item ∷ []) []) e ∙ append-nil (in_set set xs)

in_set-own : (set : SetName) (xs : List Standing) (s : Standing) → is_same_set set s.set ≡ true → in_set set (xs ++ s ∷ []) ≡ in_set set xs ++ s.item ∷ []
in_set-own set xs s e = in_set-more set xs s ∙ ap (λ (t : Bool). in_set set xs ++ cond t (s.item ∷ []) []) e

names-more : (names : List ℕ) (xs : List Standing) (s : Standing) → names_with names (xs ++ s ∷ []) ≡ with_name_of s.set (names_with names xs)
names-more names [] s = refl
names-more names (x ∷ xs) s = names-more (with_name_of x.set names) xs s

-- ---- names

in_with_by : (n m y : ℕ) (ms : List ℕ) (t u : Bool) → (IsIn y (with_one_name n ms) → (y ≡ n) ⊎ IsIn y ms) → IsIn y (cond t (m ∷ with_one_name n ms) (cond u (m ∷ ms) (n ∷ m ∷ ms))) → (y ≡ n) ⊎ ((y ≡ m) ⊎ IsIn y ms)
in_with_by n m y ms true u rest h = elim h [ inl p ↦ inr (inl p) | inr q ↦ elim (rest q) [ inl p ↦ inl p | inr r ↦ inr (inr r) ] ]
in_with_by n m y ms false true rest h = inr h
in_with_by n m y ms false false rest h = h

pub in_with : (n y : ℕ) (ms : List ℕ) → IsIn y (with_one_name n ms) → (y ≡ n) ⊎ IsIn y ms
in_with n y [] h = h
in_with n y (m ∷ ms) h = in_with_by n m y ms (nat_lt m n) (m == n) (in_with n y ms) h

rise_by : (n m : ℕ) (ms : List ℕ) (t u : Bool) → nat_lt m n ≡ t → (m == n) ≡ u → ((y : ℕ) → IsIn y ms → m < y) → Rises (λ (k : ℕ). k) ms → Rises (λ (k : ℕ). k) (with_one_name n ms) → Rises (λ (k : ℕ). k) (cond t (m ∷ with_one_name n ms) (cond u (m ∷ ms) (n ∷ m ∷ ms)))
rise_by n m ms true u e f all r later = (λ y h. elim (in_with n y ms h) [ inl p ↦ subst (λ (k : ℕ). m < k) (sym p) (ltb-true m n e) | inr q ↦ all y q ], later)
rise_by n m ms false true e f all r later = (all, r)
rise_by n m ms false false e f all r later =
    let lt : n < m = apart_above n m (ltb-false m n e) f in
    (λ y h. elim h [ inl p ↦ subst (λ (k : ℕ). n < k) (sym p) lt | inr q ↦ let more : m < y = all y q in omega arith ], (all, r))

rise_with : (n : ℕ) (ms : List ℕ) → Rises (λ (k : ℕ). k) ms → Rises (λ (k : ℕ). k) (with_one_name n ms)
rise_with n [] r = (λ x h. absurd h, tt)
rise_with n (m ∷ ms) r = rise_by n m ms (nat_lt m n) (m == n) refl refl r.0 r.1 (rise_with n ms r.1)

rise_with_of : (set : SetName) (ms : List ℕ) → Rises (λ (k : ℕ). k) ms → Rises (λ (k : ℕ). k) (with_name_of set ms)
rise_with_of sets.Static ms r = r
rise_with_of sets.Disabled ms r = r
rise_with_of sets.Awake ms r = r
rise_with_of (sets.Sleeping n) ms r = rise_with n ms r

pub names_rise : (names : List ℕ) (xs : List Standing) → Rises (λ (k : ℕ). k) names → Rises (λ (k : ℕ). k) (names_with names xs)
names_rise names [] r = r
names_rise names (x ∷ xs) r = names_rise (with_name_of x.set names) xs (rise_with_of x.set names r)

own_by : (n m : ℕ) (ms : List ℕ) (t u : Bool) → (m == n) ≡ u → IsIn n (with_one_name n ms) → IsIn n (cond t (m ∷ with_one_name n ms) (cond u (m ∷ ms) (n ∷ m ∷ ms)))
own_by n m ms true u f rest = inr rest
own_by n m ms false true f rest = inl (sym (same_from m n f))
own_by n m ms false false f rest = inl refl

pub own_name : (n : ℕ) (ms : List ℕ) → IsIn n (with_one_name n ms)
own_name n [] = inl refl
own_name n (m ∷ ms) = own_by n m ms (nat_lt m n) (m == n) refl (own_name n ms)

kept_by : (n m y : ℕ) (ms : List ℕ) (t u : Bool) → (IsIn y ms → IsIn y (with_one_name n ms)) → (y ≡ m) ⊎ IsIn y ms → IsIn y (cond t (m ∷ with_one_name n ms) (cond u (m ∷ ms) (n ∷ m ∷ ms)))
kept_by n m y ms true u rest h = elim h [ inl p ↦ inl p | inr q ↦ inr (rest q) ]
kept_by n m y ms false true rest h = h
kept_by n m y ms false false rest h = inr h

kept_name : (n y : ℕ) (ms : List ℕ) → IsIn y ms → IsIn y (with_one_name n ms)
kept_name n y [] h = absurd h
kept_name n y (m ∷ ms) h = kept_by n m y ms (nat_lt m n) (m == n) (kept_name n y ms) h

kept_name_of : (set : SetName) (y : ℕ) (ms : List ℕ) → IsIn y ms → IsIn y (with_name_of set ms)
kept_name_of sets.Static y ms h = h
kept_name_of sets.Disabled y ms h = h
kept_name_of sets.Awake y ms h = h
kept_name_of (sets.Sleeping n) y ms h = kept_name n y ms h

pub names_kept : (names : List ℕ) (xs : List Standing) (y : ℕ) → IsIn y names → IsIn y (names_with names xs)
names_kept names [] y h = h
names_kept names (x ∷ xs) y h = names_kept (with_name_of x.set names) xs y (kept_name_of x.set y names h)

named_own : (set : SetName) (n : ℕ) (names : List ℕ) → is_same_set (sets.Sleeping n) set ≡ true → IsIn n (with_name_of set names)
named_own sets.Static n names e = cc
named_own sets.Disabled n names e = cc
named_own sets.Awake n names e = cc
named_own (sets.Sleeping m) n names e = subst (λ (k : ℕ). IsIn k (with_one_name m names)) (sym (same_from n m e)) (own_name m names)

-- nothing stands in a sleeping set whose name isn't there
pub unnamed : (names : List ℕ) (xs : List Standing) (n : ℕ) → (IsIn n (names_with names xs) → ⊥) → in_set (sets.Sleeping n) xs ≡ []
unnamed names [] n absent = refl
unnamed names (x ∷ xs) n absent = by_test (is_same_set (sets.Sleeping n) x.set) refl (filter (λ (z : Standing). is_same_set (sets.Sleeping n) z.set) xs) (unnamed (with_name_of x.set names) xs n absent)
  where
    by_test : (t : Bool) → is_same_set (sets.Sleeping n) x.set ≡ t → (ys : List Standing) → map (λ (z : Standing). z.item) ys ≡ [] → map (λ (z : Standing). z.item) (cond t (x ∷ ys) ys) ≡ []
    by_test true e ys h = absurd (absent (names_kept (with_name_of x.set names) xs n (named_own x.set n names e)))
    by_test false e ys h = h

-- ---- the sleeping sets with one item more

abbrev named : (ℕ → List Item) → ℕ → Sleepers
named g m = record { name = m; items = g m }

same_later : (g f : ℕ → List Item) (n : ℕ) (ms : List ℕ) → ((m : ℕ) → (m == n) ≡ false → f m ≡ g m) → ((m : ℕ) → IsIn m ms → n < m) → map (named f) ms ≡ map (named g) ms
same_later g f n [] other all = refl
same_later g f n (m ∷ ms) other all =
    let lt : n < m = all m (inl refl) in
    ap₂ (λ (l : List Item) (rest : List Sleepers). record { name = m; items = l } ∷ rest) (other m (not_same m n (λ e. absurd (omega arith)))) (same_later g f n ms other (λ k h. all k (inr h)))

more_by : (g f : ℕ → List Item) (n : ℕ) (item : Item) (m : ℕ) (ms : List ℕ) (t u : Bool) → nat_lt m n ≡ t → (m == n) ≡ u → ((y : ℕ) → IsIn y ms → m < y) → ((k : ℕ) → (k == n) ≡ false → f k ≡ g k) → f n ≡ g n ++ item ∷ []
    → (((n ≡ m) ⊎ IsIn n ms → ⊥) → g n ≡ []) → (((IsIn n ms → ⊥) → g n ≡ []) → map (named f) (with_one_name n ms) ≡ with_sleeper n item (map (named g) ms))
    → map (named f) (cond t (m ∷ with_one_name n ms) (cond u (m ∷ ms) (n ∷ m ∷ ms))) ≡ cond t (named g m ∷ with_sleeper n item (map (named g) ms)) (cond u (with_item (named g m) item ∷ map (named g) ms) (alone n item ∷ named g m ∷ map (named g) ms))
more_by g f n item m ms true u e h all other own none later =
    let lt : m < n = ltb-true m n e in
    ap₂ (λ (l : List Item) (rest : List Sleepers). record { name = m; items = l } ∷ rest) (other m (not_same m n (λ q. absurd (omega arith)))) (later (λ absent. none (λ p. elim p [ inl q ↦ absurd (omega (arith, q, lt)) | inr q ↦ absent q ])))
more_by g f n item m ms false true e h all other own none later =
    let is : m ≡ n = same_from m n h in
    ap₂ (λ (l : List Item) (rest : List Sleepers). record { name = m; items = l } ∷ rest) (ap f is ∙ own ∙ ap (λ (k : ℕ). g k ++ item ∷ []) (sym is)) (same_later g f n ms other (λ k q. subst (λ (j : ℕ). j < k) is (all k q)))
more_by g f n item m ms false false e h all other own none later =
    let lt : n < m = apart_above n m (ltb-false m n e) h in
    let absent : (n ≡ m) ⊎ IsIn n ms → ⊥ = λ p. elim p [ inl q ↦ absurd (omega (arith, q, lt)) | inr q ↦ let more : m < n = all n q in absurd (omega arith) ] in
    ap₂ (λ (l : List Item) (rest : List Sleepers). record { name = n; items = l } ∷ rest) (own ∙ ap (λ (l : List Item). l ++ item ∷ []) (none absent))
    (same_later g f n (m ∷ ms) other (λ k p. elim p [ inl q ↦ subst (λ (j : ℕ). n < j) (sym q) lt | inr q ↦ let more : m < k = all k q in omega arith ]))

sleeper_more : (g f : ℕ → List Item) (n : ℕ) (item : Item) (ms : List ℕ) → Rises (λ (k : ℕ). k) ms → ((k : ℕ) → (k == n) ≡ false → f k ≡ g k) → f n ≡ g n ++ item ∷ [] → ((IsIn n ms → ⊥) → g n ≡ []) → map (named f) (with_one_name n ms) ≡ with_sleeper n item (map (named g) ms)
sleeper_more g f n item [] r other own none = ap (λ (l : List Item). record { name = n; items = l } ∷ []) (own ∙ ap (λ (l : List Item). l ++ item ∷ []) (none (λ h. h)))
sleeper_more g f n item (m ∷ ms) r other own none = more_by g f n item m ms (nat_lt m n) (m == n) refl refl r.0 other own none (sleeper_more g f n item ms r.1 other own)

sleepers_same : (g f : ℕ → List Item) (ms : List ℕ) → ((k : ℕ) → f k ≡ g k) → map (named f) ms ≡ map (named g) ms
sleepers_same g f [] h = refl
sleepers_same g f (m ∷ ms) h = ap₂ (λ (l : List Item) (rest : List Sleepers). record { name = m; items = l } ∷ rest) (h m) (sleepers_same g f ms h)

same_number : (n : ℕ) → (n == n) ≡ true
same_number n = is_same n n refl

-- ---- the census with one item more

abbrev with_lists : List Item → List Item → List Item → List Sleepers → Census
with_lists a b c l = record { static_set = a; disabled = b; awake = c; sleeping = l }

built : (a b c d e f : List Item) (l k : List Sleepers) → a ≡ b → c ≡ d → e ≡ f → l ≡ k → with_lists a c e l ≡ with_lists b d f k
built a b c d e f l k p q r s = rw (p, q, r, s) refl

unslept : (xs : List Standing) (s : Standing) → ((k : ℕ) → is_same_set (sets.Sleeping k) s.set ≡ false) → with_name_of s.set (set_names xs) ≡ set_names xs → map (sleepers_of (xs ++ s ∷ [])) (set_names (xs ++ s ∷ [])) ≡ map (sleepers_of xs) (set_names xs)
unslept xs s other names =
    ap (map (sleepers_of (xs ++ s ∷ []))) (names-more [] xs s ∙ names)
    ∙ sleepers_same (λ k. in_set (sets.Sleeping k) xs) (λ k. in_set (sets.Sleeping k) (xs ++ s ∷ [])) (set_names xs) (λ k. in_set-other (sets.Sleeping k) xs s (other k))

census-more : (xs : List Standing) (item : Item) (set : SetName) → census_in (xs ++ record { item = item; set = set } ∷ []) ≡ listed_in (census_in xs) item set
census-more xs item sets.Static =
    let s : Standing = record { item = item; set = sets.Static } in
    built _ _ _ _ _ _ _ _ (in_set-own sets.Static xs s refl) (in_set-other sets.Disabled xs s refl) (in_set-other sets.Awake xs s refl) (unslept xs s (λ k. refl) refl)
census-more xs item sets.Disabled =
    let s : Standing = record { item = item; set = sets.Disabled } in
    built _ _ _ _ _ _ _ _ (in_set-other sets.Static xs s refl) (in_set-own sets.Disabled xs s refl) (in_set-other sets.Awake xs s refl) (unslept xs s (λ k. refl) refl)
census-more xs item sets.Awake =
    let s : Standing = record { item = item; set = sets.Awake } in
    built _ _ _ _ _ _ _ _ (in_set-other sets.Static xs s refl) (in_set-other sets.Disabled xs s refl) (in_set-own sets.Awake xs s refl) (unslept xs s (λ k. refl) refl)
census-more xs item (sets.Sleeping n) =
    let s : Standing = record { item = item; set = sets.Sleeping n } in
    built _ _ _ _ _ _ _ _ (in_set-other sets.Static xs s refl) (in_set-other sets.Disabled xs s refl) (in_set-other sets.Awake xs s refl)
    (ap (map (sleepers_of (xs ++ s ∷ []))) (names-more [] xs s)
    ∙ sleeper_more (λ k. in_set (sets.Sleeping k) xs) (λ k. in_set (sets.Sleeping k) (xs ++ s ∷ [])) n item (set_names xs) (names_rise [] xs tt)
    (λ k e. in_set-other (sets.Sleeping k) xs s e) (in_set-own (sets.Sleeping n) xs s (same_number n)) (unnamed [] xs n))

all-more : (xs ys : List Standing) → with_all (census_in xs) ys ≡ census_in (xs ++ ys)
all-more xs [] = ap census_in (sym (append-nil xs))
all-more xs (y ∷ ys) =
    ap (λ (c : Census). with_all c ys) (sym (census-more xs y.item y.set))
    ∙ all-more (xs ++ y ∷ []) ys
    ∙ ap census_in (append_assoc xs (y ∷ []) ys)

all-append : (c : Census) (xs ys : List Standing) → with_all c (xs ++ ys) ≡ with_all (with_all c xs) ys
all-append c [] ys = refl
all-append c (x ∷ xs) ys = all-append (with_listed c x) xs ys

-- bodies, joints and contacts listed one after another are the census
pub listed_are : (bodies joints contacts : List Standing) → with_all (with_all (with_all empty_census bodies) joints) contacts ≡ census_in (bodies ++ (joints ++ contacts))
listed_are bodies joints contacts =
    sym (all-append (with_all empty_census bodies) joints contacts)
    ∙ sym (all-append empty_census bodies (joints ++ contacts))
    ∙ all-more [] (bodies ++ (joints ++ contacts))

-- ---- one contact more

pub contact_step : (bodies : List (Option Body)) (contacts : List ContactEntry) (i : ℕ) (d : ContactEntry) (c next : Census) → i < length contacts → next ≡ listed_in c (items.Contact (get_or contacts i d).key) (standing_of_contact bodies (get_or contacts i d))
    → with_all next (contact_standings bodies (drop (i + 1) contacts)) ≡ with_all c (contact_standings bodies (drop i contacts))
contact_step bodies contacts i d c next lt is =
    ap (λ (k : Census). with_all k (contact_standings bodies (drop (i + 1) contacts))) is
    ∙ sym (ap (λ (l : List ContactEntry). with_all c (contact_standings bodies l)) (drop_is contacts i d lt))

-- ---- each item is listed once

sleepers_count : (f : Item → ℕ) (n : ℕ) (item : Item) (ss : List Sleepers) → sum_by f (in_sleepers (with_sleeper n item ss)) ≡ sum_by f (in_sleepers ss) + f item
sleepers_count f n item [] = omega (arith, sum_by-cons f item [])
sleepers_count f n item (s ∷ ss) = by_place (nat_lt s.name n) (s.name == n) (with_sleeper n item ss) (sleepers_count f n item ss)
  where
    by_place : (t u : Bool) (later : List Sleepers) → sum_by f (in_sleepers later) ≡ sum_by f (in_sleepers ss) + f item → sum_by f (in_sleepers (cond t (s ∷ later) (cond u (with_item s item ∷ ss) (alone n item ∷ s ∷ ss)))) ≡ sum_by f (s.items ++ in_sleepers ss) + f item
    by_place true u later h = omega (arith, h, sum_by-append f s.items (in_sleepers later), sum_by-append f s.items (in_sleepers ss))
    by_place false true later h = omega (arith, sum_by-append f (s.items ++ item ∷ []) (in_sleepers ss), sum_by-append f s.items (item ∷ []), sum_by-cons f item [], sum_by-append f s.items (in_sleepers ss))
    by_place false false later h = omega (arith, sum_by-cons f item (s.items ++ in_sleepers ss))

-- four lists, one after another
four : (f : Item → ℕ) (a b c d : List Item) → sum_by f (a ++ (b ++ (c ++ d))) ≡ sum_by f a + (sum_by f b + (sum_by f c + sum_by f d))
four f a b c d = omega (arith, sum_by-append f a (b ++ (c ++ d)), sum_by-append f b (c ++ d), sum_by-append f c d)

one_more : (f : Item → ℕ) (xs : List Item) (item : Item) → sum_by f (xs ++ item ∷ []) ≡ sum_by f xs + f item
one_more f xs item = omega (arith, sum_by-append f xs (item ∷ []), sum_by-cons f item [])

listed_count : (f : Item → ℕ) (c : Census) (item : Item) (set : SetName) → sum_by f (listed (listed_in c item set)) ≡ sum_by f (listed c) + f item
listed_count f c item sets.Static = omega (arith, four f (c.static_set ++ item ∷ []) c.disabled c.awake (in_sleepers c.sleeping), four f c.static_set c.disabled c.awake (in_sleepers c.sleeping), one_more f c.static_set item)
listed_count f c item sets.Disabled = omega (arith, four f c.static_set (c.disabled ++ item ∷ []) c.awake (in_sleepers c.sleeping), four f c.static_set c.disabled c.awake (in_sleepers c.sleeping), one_more f c.disabled item)
listed_count f c item sets.Awake = omega (arith, four f c.static_set c.disabled (c.awake ++ item ∷ []) (in_sleepers c.sleeping), four f c.static_set c.disabled c.awake (in_sleepers c.sleeping), one_more f c.awake item)
listed_count f c item (sets.Sleeping n) = omega (arith, four f c.static_set c.disabled c.awake (in_sleepers (with_sleeper n item c.sleeping)), four f c.static_set c.disabled c.awake (in_sleepers c.sleeping), sleepers_count f n item c.sleeping)

all_count : (f : Item → ℕ) (c : Census) (ys : List Standing) → sum_by f (listed (with_all c ys)) ≡ sum_by f (listed c) + sum_by f (items_of ys)
all_count f c [] = omega arith
all_count f c (y ∷ ys) = omega (arith, all_count f (with_listed c y) ys, listed_count f c y.item y.set, sum_by-cons f y.item (items_of ys))

all_named : (c : Census) (ys : List Standing) → AreNamed c.sleeping → AreNamed (with_all c ys).sleeping
all_named c [] h = h
all_named c (y ∷ ys) h = all_named (with_listed c y) ys (named_listed c y.item y.set h)

from_none : (n : ℕ) → 0 + n ≡ n
from_none n = omega arith

pub lists_are_census : laws.ListsAreCensus
lists_are_census standings = record {
  once = λ is. let f : Item → ℕ = λ x. cond (is x) 1 0 in ap (λ (c : Census). sum_by f (listed c)) (sym (all-more [] standings)) ∙ all_count f empty_census standings ∙ from_none (sum_by f (items_of standings));
  static_set = refl;
  disabled = refl;
  awake = refl;
  sleeping = refl;
  named = subst (λ (c : Census). AreNamed c.sleeping) (all-more [] standings) (all_named empty_census standings (λ i j d lt short. absurd (omega arith)));
}
