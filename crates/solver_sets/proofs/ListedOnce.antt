-- Where no item stands twice, the lists of the census have each once, and just what stands in their sets.
use Rattle.std.proofs.Common.{◌≡◌, ◌≢◌, ◌⊎◌, ℕ, ◌<◌, ◌==◌, Bool, true, false, cond, List, [], ◌∷◌, ◌++◌, map, filter, AllPairs, inl, inr, refl, sym, ap, ◌∙◌, subst, arith}
use Rattle.std.proofs.lemmas.List.{get_or_default}
use Rattle.std.proofs.lemmas.List.Kept.{AllPairs-cons}
use Rattle.contacts_base.proofs.Members.{IsIn, in_append, in_left, in_right, in_from_place}
use Rattle.graph_colours.proofs.Cases.{true_or_false}
use Rattle.graph_colours.proofs.ListLemmas.{pairs_none}
use Rattle.graph_colours.proofs.PlaceLemmas.{is_same, same_from}
use Rattle.plain_world.specs.declared.body.SetName.{SetName}
use Rattle.plain_world.specs.declared.body.SetName.TheVariants as sets
use Rattle.solver_sets.specs.declared.census.Item.{Item}
use Rattle.solver_sets.specs.Census.{Sleepers, Standing, census_in, in_set, in_sleepers, is_same_set, listed, set_names, names_with, sleepers_of, with_name_of}
use Rattle.solver_sets.specs.EachOnce.{items_named, list_of, sleeping_set_names}
use Rattle.solver_sets.proofs.CensusLaws.{in_with, names_kept, names_rise, own_name, unnamed}
use Rattle.solver_sets.proofs.ListLaws.{Rises, filter_in, in_filter, in_mapped, mapped_in}

-- ---- lists in which nothing occurs twice

abbrev pub Distinct : {X : Type 0} → List X → Type 0
Distinct [] = Unit {0}
Distinct (x ∷ xs) = (IsIn x xs → ⊥) × Distinct xs

pub pairs_from_distinct : {X : Type 0} (xs : List X) → Distinct xs → AllPairs (λ (a b : X). a ≢ b) xs
pairs_from_distinct {X} [] d = pairs_none (λ (a b : X). a ≢ b)
pairs_from_distinct {X} (x ∷ xs) d = AllPairs-cons (λ (a b : X). a ≢ b) x xs (λ k e lt same. d.0 (in_from_place x xs k lt (get_or_default xs k x e lt ∙ sym same))) (pairs_from_distinct xs d.1)

distinct_append : {X : Type 0} (xs ys : List X) → Distinct xs → Distinct ys → ((x : X) → IsIn x xs → IsIn x ys → ⊥) → Distinct (xs ++ ys)
distinct_append [] ys a b apart = b
distinct_append (x ∷ xs) ys a b apart = (
  λ h. elim (in_append x xs ys h) [ inl p ↦ a.0 p | inr q ↦ apart x (inl refl) q ],
  distinct_append xs ys a.1 b (λ y p q. apart y (inr p) q),
)

-- ---- standings, each of an item of its own

abbrev thing : Standing → Item
thing s = s.item

abbrev place : Standing → SetName
place s = s.set

-- no item stands twice
abbrev pub Apart : List Standing → Type 0
Apart [] = Unit {0}
Apart (x ∷ xs) = ((y : Standing) → IsIn y xs → x.item ≡ y.item → ⊥) × Apart xs

pub apart_append : (xs ys : List Standing) → Apart xs → Apart ys → ((x y : Standing) → IsIn x xs → IsIn y ys → x.item ≡ y.item → ⊥) → Apart (xs ++ ys)
apart_append [] ys a b other = b
apart_append (x ∷ xs) ys a b other = (
  λ y h. elim (in_append y xs ys h) [ inl p ↦ a.0 y p | inr q ↦ other x y (inl refl) q ],
  apart_append xs ys a.1 b (λ z y p q. other z y (inr p) q),
)

only_standing : (xs : List Standing) (x y : Standing) → Apart xs → IsIn x xs → IsIn y xs → x.item ≡ y.item → x ≡ y
only_standing [] x y a h k e = absurd h
only_standing (z ∷ zs) x y a h k e = elim h [
  | inl p ↦ elim k [
    | inl q ↦ p ∙ sym q
    | inr q ↦ absurd (a.0 y q (sym (ap thing p) ∙ e))
  ]
  | inr p ↦ elim k [
    | inl q ↦ absurd (a.0 x p (sym (ap thing q) ∙ sym e))
    | inr q ↦ only_standing zs x y a.1 p q e
  ]
]

-- ---- the list of a set

-- the item stands in the set
pub record StandsIn (xs : List Standing) (wanted : SetName) (i : Item) : Type 0 where
  pub of : Standing
  pub there : IsIn of xs
  pub item : of.item ≡ i
  pub set : of.set ≡ wanted

same_set : (a b : SetName) → is_same_set a b ≡ true → a ≡ b
same_set sets.Static sets.Static e = refl
same_set sets.Static sets.Disabled e = cc
same_set sets.Static sets.Awake e = cc
same_set sets.Static (sets.Sleeping m) e = cc
same_set sets.Disabled sets.Static e = cc
same_set sets.Disabled sets.Disabled e = refl
same_set sets.Disabled sets.Awake e = cc
same_set sets.Disabled (sets.Sleeping m) e = cc
same_set sets.Awake sets.Static e = cc
same_set sets.Awake sets.Disabled e = cc
same_set sets.Awake sets.Awake e = refl
same_set sets.Awake (sets.Sleeping m) e = cc
same_set (sets.Sleeping n) sets.Static e = cc
same_set (sets.Sleeping n) sets.Disabled e = cc
same_set (sets.Sleeping n) sets.Awake e = cc
same_set (sets.Sleeping n) (sets.Sleeping m) e = ap (λ (k : ℕ). sets.Sleeping k) (same_from n m e)

same_self : (a : SetName) → is_same_set a a ≡ true
same_self sets.Static = refl
same_self sets.Disabled = refl
same_self sets.Awake = refl
same_self (sets.Sleeping n) = is_same n n refl

pub in_list : (set : SetName) (xs : List Standing) (i : Item) → IsIn i (in_set set xs) → StandsIn xs set i
in_list set xs i h =
    let o = in_mapped thing (filter (λ (s : Standing). is_same_set set s.set) xs) i h in
    let p = in_filter (λ (s : Standing). is_same_set set s.set) xs o.of o.there in
    record { of = o.of; there = p.0; item = sym o.is; set = sym (same_set set o.of.set p.1) }

pub list_in : (set : SetName) (xs : List Standing) (z : Standing) → IsIn z xs → z.set ≡ set → IsIn z.item (in_set set xs)
list_in set xs z h e = mapped_in thing (filter (λ (s : Standing). is_same_set set s.set) xs) z (filter_in (λ (s : Standing). is_same_set set s.set) xs z h (ap (is_same_set set) e ∙ same_self set))

with_test : (set : SetName) (x : Standing) (xs : List Standing) (t : Bool) → Apart (x ∷ xs) → Distinct (in_set set xs) → Distinct (map thing (cond t (x ∷ filter (λ (s : Standing). is_same_set set s.set) xs) (filter (λ (s : Standing). is_same_set set s.set) xs)))
with_test set x xs true a d = (λ h. let o = in_list set xs x.item h in a.0 o.of o.there (sym o.item), d)
with_test set x xs false a d = d

list_distinct : (set : SetName) (xs : List Standing) → Apart xs → Distinct (in_set set xs)
list_distinct set [] a = tt
list_distinct set (x ∷ xs) a = with_test set x xs (is_same_set set x.set) a (list_distinct set xs a.1)

-- an item is in the list of one set alone
one_list : (xs : List Standing) (a b : SetName) (i : Item) → Apart xs → IsIn i (in_set a xs) → IsIn i (in_set b xs) → a ≡ b
one_list xs a b i apart h k =
    let p = in_list a xs i h in
    let q = in_list b xs i k in
    let same : p.of ≡ q.of = only_standing xs p.of q.of apart p.there q.there (p.item ∙ sym q.item) in
    sym p.set ∙ ap place same ∙ q.set

-- ---- the sleeping sets

-- the item is in the list of a sleeping set with one of these names
pub record IsAsleepIn (xs : List Standing) (names : List ℕ) (i : Item) : Type 0 where
  pub name : ℕ
  pub there : IsIn name names
  pub listed : IsIn i (in_set (sets.Sleeping name) xs)

in_sleeping : (xs : List Standing) (names : List ℕ) (i : Item) → IsIn i (in_sleepers (map (sleepers_of xs) names)) → IsAsleepIn xs names i
in_sleeping xs [] i h = absurd h
in_sleeping xs (n ∷ names) i h = elim (in_append i (in_set (sets.Sleeping n) xs) (in_sleepers (map (sleepers_of xs) names)) h) [
  | inl p ↦ record { name = n; there = inl refl; listed = p }
  | inr q ↦ let o = in_sleeping xs names i q in record { name = o.name; there = inr o.there; listed = o.listed }
]

sleeping_in : (xs : List Standing) (names : List ℕ) (n : ℕ) (i : Item) → IsIn n names → IsIn i (in_set (sets.Sleeping n) xs) → IsIn i (in_sleepers (map (sleepers_of xs) names))
sleeping_in xs [] n i h k = absurd h
sleeping_in xs (m ∷ names) n i h k = elim h [
  | inl p ↦ in_left i (in_set (sets.Sleeping m) xs) (in_sleepers (map (sleepers_of xs) names)) (subst (λ (j : ℕ). IsIn i (in_set (sets.Sleeping j) xs)) p k)
  | inr q ↦ in_right i (in_set (sets.Sleeping m) xs) (in_sleepers (map (sleepers_of xs) names)) (sleeping_in xs names n i q k)
]

abbrev number : SetName → ℕ
number sets.Static = 0
number sets.Disabled = 0
number sets.Awake = 0
number (sets.Sleeping n) = n

not_below : (n m : ℕ) → n ≡ m → n < m → ⊥
not_below n m e lt = omega (arith, e, lt)

sleeping_distinct : (xs : List Standing) (names : List ℕ) → Apart xs → Rises (λ (k : ℕ). k) names → Distinct (in_sleepers (map (sleepers_of xs) names))
sleeping_distinct xs [] a r = tt
sleeping_distinct xs (n ∷ names) a r = distinct_append (in_set (sets.Sleeping n) xs) (in_sleepers (map (sleepers_of xs) names)) (list_distinct (sets.Sleeping n) xs a) (sleeping_distinct xs names a r.1)
    (λ i p q. let o = in_sleeping xs names i q in not_below n o.name (ap number (one_list xs (sets.Sleeping n) (sets.Sleeping o.name) i a p o.listed)) (r.0 o.name o.there))

-- ---- their names

name_there : (names : List ℕ) (xs : List Standing) (z : Standing) (n : ℕ) → IsIn z xs → z.set ≡ sets.Sleeping n → IsIn n (names_with names xs)
name_there names [] z n h e = absurd h
name_there names (x ∷ xs) z n h e = elim h [
  | inl p ↦ names_kept (with_name_of x.set names) xs n (subst (λ (s : SetName). IsIn n (with_name_of s names)) (sym (sym (ap place p) ∙ e)) (own_name n names))
  | inr q ↦ name_there (with_name_of x.set names) xs z n q e
]

-- something stands in the sleeping set of this name
pub record IsNameOf (xs : List Standing) (n : ℕ) : Type 0 where
  pub of : Standing
  pub there : IsIn of xs
  pub set : of.set ≡ sets.Sleeping n

with_name_from : (set : SetName) (names : List ℕ) (n : ℕ) → IsIn n (with_name_of set names) → (set ≡ sets.Sleeping n) ⊎ IsIn n names
with_name_from sets.Static names n h = inr h
with_name_from sets.Disabled names n h = inr h
with_name_from sets.Awake names n h = inr h
with_name_from (sets.Sleeping m) names n h = elim (in_with m n names h) [ inl p ↦ inl (ap (λ (k : ℕ). sets.Sleeping k) (sym p)) | inr q ↦ inr q ]

name_from : (names : List ℕ) (xs : List Standing) (n : ℕ) → IsIn n (names_with names xs) → IsIn n names ⊎ IsNameOf xs n
name_from names [] n h = inl h
name_from names (x ∷ xs) n h = elim (name_from (with_name_of x.set names) xs n h) [
  | inl p ↦ elim (with_name_from x.set names n p) [ inl e ↦ inr (record { of = x; there = inl refl; set = e }) | inr q ↦ inl q ]
  | inr o ↦ inr (record { of = o.of; there = inr o.there; set = o.set })
]

names_are : (xs : List Standing) (names : List ℕ) → map (λ (s : Sleepers). s.name) (map (sleepers_of xs) names) ≡ names
names_are xs [] = refl
names_are xs (n ∷ names) = ap (λ (l : List ℕ). n ∷ l) (names_are xs names)

pub in_names : (xs : List Standing) (n : ℕ) → IsIn n (sleeping_set_names (census_in xs)) → IsNameOf xs n
in_names xs n h = elim (name_from [] xs n (subst (λ (l : List ℕ). IsIn n l) (names_are xs (set_names xs)) h)) [ inl p ↦ absurd p | inr o ↦ o ]

pub names_in : (xs : List Standing) (z : Standing) (n : ℕ) → IsIn z xs → z.set ≡ sets.Sleeping n → IsIn n (sleeping_set_names (census_in xs))
names_in xs z n h e = subst (λ (l : List ℕ). IsIn n l) (sym (names_are xs (set_names xs))) (name_there [] xs z n h e)

-- ---- the list of each set is what stands in it

named_by : (xs : List Standing) (names : List ℕ) (m n : ℕ) (t : Bool) → (m == n) ≡ t → ((IsIn n (m ∷ names) → ⊥) → in_set (sets.Sleeping n) xs ≡ []) → (((IsIn n names → ⊥) → in_set (sets.Sleeping n) xs ≡ []) → items_named (map (sleepers_of xs) names) n ≡ in_set (sets.Sleeping n) xs)
    → cond t (in_set (sets.Sleeping m) xs) (items_named (map (sleepers_of xs) names) n) ≡ in_set (sets.Sleeping n) xs
named_by xs names m n true e none rest = ap (λ (k : ℕ). in_set (sets.Sleeping k) xs) (same_from m n e)
named_by xs names m n false e none rest = rest (λ absent. none (λ p. elim p [ inl q ↦ true_or_false (m == n) (is_same m n (sym q)) e | inr q ↦ absent q ]))

items_are : (xs : List Standing) (names : List ℕ) (n : ℕ) → ((IsIn n names → ⊥) → in_set (sets.Sleeping n) xs ≡ []) → items_named (map (sleepers_of xs) names) n ≡ in_set (sets.Sleeping n) xs
items_are xs [] n none = sym (none (λ h. h))
items_are xs (m ∷ names) n none = named_by xs names m n (m == n) refl none (items_are xs names n)

pub list_is : (xs : List Standing) (set : SetName) → list_of (census_in xs) set ≡ in_set set xs
list_is xs sets.Static = refl
list_is xs sets.Disabled = refl
list_is xs sets.Awake = refl
list_is xs (sets.Sleeping n) = items_are xs (set_names xs) n (unnamed [] xs n)

-- ---- all lists, one after another

-- where the item stands
pub record IsSomewhere (xs : List Standing) (i : Item) : Type 0 where
  pub of : Standing
  pub there : IsIn of xs
  pub item : of.item ≡ i

somewhere : (set : SetName) (xs : List Standing) (i : Item) → IsIn i (in_set set xs) → IsSomewhere xs i
somewhere set xs i h = let o = in_list set xs i h in record { of = o.of; there = o.there; item = o.item }

abbrev asleep_in : List Standing → List Item
asleep_in xs = in_sleepers (map (sleepers_of xs) (set_names xs))

pub in_all : (xs : List Standing) (i : Item) → IsIn i (listed (census_in xs)) → IsSomewhere xs i
in_all xs i h = elim (in_append i (in_set sets.Static xs) (in_set sets.Disabled xs ++ (in_set sets.Awake xs ++ asleep_in xs)) h) [
  | inl p ↦ somewhere sets.Static xs i p
  | inr q ↦ elim (in_append i (in_set sets.Disabled xs) (in_set sets.Awake xs ++ asleep_in xs) q) [
    | inl p ↦ somewhere sets.Disabled xs i p
    | inr r ↦ elim (in_append i (in_set sets.Awake xs) (asleep_in xs) r) [
      | inl p ↦ somewhere sets.Awake xs i p
      | inr s ↦ let o = in_sleeping xs (set_names xs) i s in somewhere (sets.Sleeping o.name) xs i o.listed
    ]
  ]
]

all_by : (xs : List Standing) (z : Standing) (set : SetName) → IsIn z xs → z.set ≡ set → IsIn z.item (listed (census_in xs))
all_by xs z sets.Static h e = in_left z.item (in_set sets.Static xs) (in_set sets.Disabled xs ++ (in_set sets.Awake xs ++ asleep_in xs)) (list_in sets.Static xs z h e)
all_by xs z sets.Disabled h e =
    in_right z.item (in_set sets.Static xs) (in_set sets.Disabled xs ++ (in_set sets.Awake xs ++ asleep_in xs))
    (in_left z.item (in_set sets.Disabled xs) (in_set sets.Awake xs ++ asleep_in xs) (list_in sets.Disabled xs z h e))
all_by xs z sets.Awake h e =
    in_right z.item (in_set sets.Static xs) (in_set sets.Disabled xs ++ (in_set sets.Awake xs ++ asleep_in xs))
    (in_right z.item (in_set sets.Disabled xs) (in_set sets.Awake xs ++ asleep_in xs)
    (in_left z.item (in_set sets.Awake xs) (asleep_in xs) (list_in sets.Awake xs z h e)))
all_by xs z (sets.Sleeping n) h e =
    in_right z.item (in_set sets.Static xs) (in_set sets.Disabled xs ++ (in_set sets.Awake xs ++ asleep_in xs))
    (in_right z.item (in_set sets.Disabled xs) (in_set sets.Awake xs ++ asleep_in xs)
    (in_right z.item (in_set sets.Awake xs) (asleep_in xs) (sleeping_in xs (set_names xs) n z.item (name_there [] xs z n h e) (list_in (sets.Sleeping n) xs z h e))))

pub all_in : (xs : List Standing) (z : Standing) → IsIn z xs → IsIn z.item (listed (census_in xs))
all_in xs z h = all_by xs z z.set h refl

no_sleeper : (xs : List Standing) (set : SetName) (i : Item) → Apart xs → ((n : ℕ) → set ≡ sets.Sleeping n → ⊥) → IsIn i (in_set set xs) → IsIn i (asleep_in xs) → ⊥
no_sleeper xs set i a other h k = let o = in_sleeping xs (set_names xs) i k in other o.name (one_list xs set (sets.Sleeping o.name) i a h o.listed)

pub all_distinct : (xs : List Standing) → Apart xs → Distinct (listed (census_in xs))
all_distinct xs a =
    distinct_append (in_set sets.Static xs) (in_set sets.Disabled xs ++ (in_set sets.Awake xs ++ asleep_in xs)) (list_distinct sets.Static xs a)
    (distinct_append (in_set sets.Disabled xs) (in_set sets.Awake xs ++ asleep_in xs) (list_distinct sets.Disabled xs a)
    (distinct_append (in_set sets.Awake xs) (asleep_in xs) (list_distinct sets.Awake xs a) (sleeping_distinct xs (set_names xs) a (names_rise [] xs tt))
    (λ i h k. no_sleeper xs sets.Awake i a (λ n e. cc) h k))
    (λ i h k. elim (in_append i (in_set sets.Awake xs) (asleep_in xs) k) [
      | inl p ↦ let e : sets.Disabled ≡ sets.Awake = one_list xs sets.Disabled sets.Awake i a h p in cc
      | inr q ↦ no_sleeper xs sets.Disabled i a (λ n e. cc) h q
    ]))
    (λ i h k. elim (in_append i (in_set sets.Disabled xs) (in_set sets.Awake xs ++ asleep_in xs) k) [
      | inl p ↦ let e : sets.Static ≡ sets.Disabled = one_list xs sets.Static sets.Disabled i a h p in cc
      | inr q ↦ elim (in_append i (in_set sets.Awake xs) (asleep_in xs) q) [
        | inl p ↦ let e : sets.Static ≡ sets.Awake = one_list xs sets.Static sets.Awake i a h p in cc
        | inr r ↦ no_sleeper xs sets.Static i a (λ n e. cc) h r
      ]
    ])
