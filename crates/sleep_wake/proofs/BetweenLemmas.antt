-- What begins and what ends between two lists of constraints.
use Rattle.std.proofs.Common.{◌≡◌, ◌≢◌, ◌⊎◌, ℕ, ◌<◌, Bool, true, false, not, cond, nat_lt, List, [], ◌∷◌, inl, inr, refl, sym, ap, ◌∙◌, subst, arith, get_or}
use Rattle.std.specs.Prelude.{Contains, AllPairs, map}
use Rattle.std.proofs.lemmas.Bool.{false≢true, cases_eq}
use Rattle.graph_colours.specs.declared.member.Member.{Member}
use Rattle.graph_colours.specs.Members.{AreRising}
use Rattle.graph_colours.specs.FoundMembers.{has_id}
use Rattle.islands.proofs.JoinLemmas.{contains_cases, contains_head, contains_tail}
use Rattle.std.proofs.lemmas.List.Elements.{All-contains, Contains-get_or}
use Rattle.std.proofs.lemmas.List.Kept.{AllPairs-cons}
use Rattle.graph_colours.proofs.ListLemmas.{pairs_none, pairs_head, pairs_tail}
use Rattle.graph_colours.proofs.PlaceLemmas.{not_same}
use Rattle.islands.specs.Labels.{Labels}
use Rattle.sleep_wake.specs.Acting.{AreMovers, IsConsistent}
use Rattle.sleep_wake.specs.declared.change.Change.{Change}
use Rattle.sleep_wake.specs.declared.change.Change.TheVariants.{Begin, End}
use Rattle.sleep_wake.specs.Changes.{after_changes, change_number, change_inserted, begins_inserted}
use Rattle.sleep_wake.specs.ChangeLists.{IsChange, AreChangesOf, only_in, changes_between}
use Rattle.sleep_wake.specs.Laws.{ChangesLeadTo}
use Rattle.sleep_wake.proofs.ListLemmas.{filter_in, in_filter, has_from, rising_filter}
use Rattle.sleep_wake.proofs.ChangeLemmas.{changes_fold, ties_after_all, one_order, begin_is, end_is}
use Rattle.sleep_wake.proofs.KeptLemmas.{changing_keeps}

none_in : {X : Type 0} (x : X) → Contains [] x → ⊥
none_in x h = omega (arith, h.1)

not_is : (t : Bool) → not t ≡ true → t ≡ false
not_is true h = absurd (false≢true h)
not_is false h = refl

-- ---- pairs that are all apart, each with each

abbrev AreApart : {C : Type 0} → (C → ℕ) → List (Change C) → Type 0
AreApart number [] = Unit {0}
AreApart {C} number (c ∷ cs) = ((d : Change C) → Contains cs d → change_number number c ≢ change_number number d) × AreApart number cs

pairs_from : {C : Type 0} (number : C → ℕ) (cs : List (Change C)) → AreApart number cs → AllPairs (λ c d. change_number number c ≢ change_number number d) cs
pairs_from number [] h = pairs_none (λ c d. change_number number c ≢ change_number number d)
pairs_from number (c ∷ cs) h = AllPairs-cons (λ a b. change_number number a ≢ change_number number b) c cs (λ k d lt. h.0 (get_or cs k d) (Contains-get_or cs k d lt)) (pairs_from number cs h.1)

apart_all : {C : Type 0} (number : C → ℕ) (cs : List (Change C)) → AreApart number cs → AllPairs (λ c d. change_number number c ≢ change_number number d) cs
apart_all {C} number cs h = pairs_from number cs h

put_in_by : {C : Type 0} (number : C → ℕ) (c d : Change C) (ds : List (Change C)) (x : Change C) (t : Bool) → Contains (cond t (d ∷ change_inserted number c ds) (c ∷ d ∷ ds)) x → (Contains (change_inserted number c ds) x → (c ≡ x) ⊎ Contains ds x) → (c ≡ x) ⊎ Contains (d ∷ ds) x
put_in_by {C} number c d ds x true h f = elim (contains_cases d (change_inserted number c ds) x h) [
  | inl k ↦ let P : Change C → Type 0 = λ v. Contains (d ∷ ds) v in inr (subst P k (contains_head d ds))
  | inr k ↦ elim (f k) [ inl m ↦ inl m | inr m ↦ inr (contains_tail d ds x m) ]
]
put_in_by number c d ds x false h f = contains_cases c (d ∷ ds) x h

put_in : {C : Type 0} (number : C → ℕ) (c : Change C) (ds : List (Change C)) (x : Change C) → Contains (change_inserted number c ds) x → (c ≡ x) ⊎ Contains ds x
put_in number c [] x h = contains_cases c [] x h
put_in number c (d ∷ ds) x h = put_in_by number c d ds x (nat_lt (change_number number d) (change_number number c)) h (λ k. put_in number c ds x k)

in_put_by : {C : Type 0} (number : C → ℕ) (c d : Change C) (ds : List (Change C)) (x : Change C) (t : Bool) → (c ≡ x) ⊎ Contains (d ∷ ds) x → ((c ≡ x) ⊎ Contains ds x → Contains (change_inserted number c ds) x) → Contains (cond t (d ∷ change_inserted number c ds) (c ∷ d ∷ ds)) x
in_put_by {C} number c d ds x true h f = elim h [
  | inl k ↦ contains_tail d (change_inserted number c ds) x (f (inl k))
  | inr k ↦ elim (contains_cases d ds x k) [
    | inl m ↦ let P : Change C → Type 0 = λ v. Contains (d ∷ change_inserted number c ds) v in subst P m (contains_head d (change_inserted number c ds))
    | inr m ↦ contains_tail d (change_inserted number c ds) x (f (inr m))
  ]
]
in_put_by {C} number c d ds x false h f = elim h [
  | inl k ↦ let P : Change C → Type 0 = λ v. Contains (c ∷ d ∷ ds) v in subst P k (contains_head c (d ∷ ds))
  | inr k ↦ contains_tail c (d ∷ ds) x k
]

in_put : {C : Type 0} (number : C → ℕ) (c : Change C) (ds : List (Change C)) (x : Change C) → (c ≡ x) ⊎ Contains ds x → Contains (change_inserted number c ds) x
in_put {C} number c [] x h = elim h [
  | inl k ↦ let P : Change C → Type 0 = λ v. Contains (c ∷ []) v in subst P k (contains_head c [])
  | inr k ↦ absurd (none_in x k)
]
in_put number c (d ∷ ds) x h = in_put_by number c d ds x (nat_lt (change_number number d) (change_number number c)) h (λ k. in_put number c ds x k)

apart_put_by : {C : Type 0} (number : C → ℕ) (c d : Change C) (ds : List (Change C)) (t : Bool) → ((x : Change C) → Contains (d ∷ ds) x → change_number number c ≢ change_number number x) → AreApart number (d ∷ ds) → AreApart number (change_inserted number c ds) → AreApart number (cond t (d ∷ change_inserted number c ds) (c ∷ d ∷ ds))
apart_put_by number c d ds true far h f = (
  λ x k e. elim (put_in number c ds x k) [
    | inl m ↦ far d (contains_head d ds) (ap (change_number number) m ∙ sym e)
    | inr m ↦ h.0 x m e
  ],
  f,
)
apart_put_by number c d ds false far h f = (far, h)

apart_put : {C : Type 0} (number : C → ℕ) (c : Change C) (ds : List (Change C)) → ((x : Change C) → Contains ds x → change_number number c ≢ change_number number x) → AreApart number ds → AreApart number (change_inserted number c ds)
apart_put number c [] far h = (λ x k. absurd (none_in x k), tt)
apart_put number c (d ∷ ds) far h = apart_put_by number c d ds (nat_lt (change_number number d) (change_number number c)) far h (apart_put number c ds (λ x k. far x (contains_tail d ds x k)) h.1)

-- ---- those that begin among those that end

all_in : {C : Type 0} (number : C → ℕ) (ms : List (Member C)) (ds : List (Change C)) (x : Change C) → Contains (begins_inserted number ms ds) x → ((m : Member C) × Contains ms m × (Begin m ≡ x)) ⊎ Contains ds x
all_in number [] ds x h = inr h
all_in number (m ∷ ms) ds x h = elim (put_in number (Begin m) (begins_inserted number ms ds) x h) [
  | inl k ↦ inl (m, contains_head m ms, k)
  | inr k ↦ elim (all_in number ms ds x k) [ inl p ↦ inl (p.0, contains_tail m ms p.0 p.1, p.2) | inr p ↦ inr p ]
]

begin_in : {C : Type 0} (number : C → ℕ) (ms : List (Member C)) (ds : List (Change C)) (x : Member C) → Contains ms x → Contains (begins_inserted number ms ds) (Begin x)
begin_in number [] ds x h = absurd (none_in x h)
begin_in number (m ∷ ms) ds x h = in_put number (Begin m) (begins_inserted number ms ds) (Begin x) (elim (contains_cases m ms x h) [ inl k ↦ inl (ap (λ v. Begin v) k) | inr k ↦ inr (begin_in number ms ds x k) ])

other_in : {C : Type 0} (number : C → ℕ) (ms : List (Member C)) (ds : List (Change C)) (x : Change C) → Contains ds x → Contains (begins_inserted number ms ds) x
other_in number [] ds x h = h
other_in number (m ∷ ms) ds x h = in_put number (Begin m) (begins_inserted number ms ds) x (inr (other_in number ms ds x h))

ends_in : {C : Type 0} (ms : List (Member C)) (x : Change C) → Contains (map (λ m. End m) ms) x → (m : Member C) × Contains ms m × (End m ≡ x)
ends_in [] x h = absurd (none_in x h)
ends_in (m ∷ ms) x h = elim (contains_cases (End m) (map (λ v. End v) ms) x h) [
  | inl k ↦ (m, contains_head m ms, k)
  | inr k ↦ let o = ends_in ms x k in (o.0, contains_tail m ms o.0 o.1, o.2)
]

in_ends : {C : Type 0} (ms : List (Member C)) (x : Member C) → Contains ms x → Contains (map (λ m. End m) ms) (End x)
in_ends [] x h = absurd (none_in x h)
in_ends {C} (m ∷ ms) x h = elim (contains_cases m ms x h) [
  | inl k ↦ let P : Member C → Type 0 = λ v. Contains (End m ∷ map (λ w. End w) ms) (End v) in subst P k (contains_head (End m) (map (λ w. End w) ms))
  | inr k ↦ contains_tail (End m) (map (λ w. End w) ms) (End x) (in_ends ms x k)
]

above : {C : Type 0} (number : C → ℕ) (m : Member C) (ms : List (Member C)) (x : Member C) → AreRising number (m ∷ ms) → Contains ms x → number m.id < number x.id
above number m ms x r h = All-contains (λ y. number m.id < number y.id) ms x (pairs_head (λ a b. number a.id < number b.id) m ms r) h

apart_ends : {C : Type 0} (number : C → ℕ) (ms : List (Member C)) → AreRising number ms → AreApart number (map (λ m. End m) ms)
apart_ends number [] r = tt
apart_ends number (m ∷ ms) r = (
  λ d h e. let o = ends_in ms d h in let lt : number m.id < number o.0.id = above number m ms o.0 r o.1 in let same : number m.id ≡ number o.0.id = e ∙ ap (change_number number) (sym o.2) in omega (arith, lt, same),
  apart_ends number ms (pairs_tail (λ a b. number a.id < number b.id) m ms r),
)

apart_begins : {C : Type 0} (number : C → ℕ) (ms : List (Member C)) (ds : List (Change C)) → AreRising number ms → AreApart number ds → ((m : Member C) (d : Change C) → Contains ms m → Contains ds d → number m.id ≢ change_number number d) → AreApart number (begins_inserted number ms ds)
apart_begins number [] ds r h far = h
apart_begins number (m ∷ ms) ds r h far = apart_put number (Begin m) (begins_inserted number ms ds)
    (λ x k e. elim (all_in number ms ds x k) [
      | inl p ↦ let lt : number m.id < number p.0.id = above number m ms p.0 r p.1 in let same : number m.id ≡ number p.0.id = e ∙ ap (change_number number) (sym p.2) in omega (arith, lt, same)
      | inr p ↦ far m x (contains_head m ms) p e
    ])
    (apart_begins number ms ds (pairs_tail (λ a b. number a.id < number b.id) m ms r) h (λ n d p q. far n d (contains_tail m ms n p) q))

-- ---- the changes

pub changes_are : {C : Type 0} (number : C → ℕ) (labels : Labels) (old new : List (Member C)) → AreRising number old → AreRising number new → ((m : Member C) → Contains new m → AreMovers labels m.movers) → AreChangesOf number labels old (changes_between number old new)
changes_are {C} number labels old new r q movers =
    let news : List (Member C) = only_in number old new in
    let olds : List (Member C) = only_in number new old in
    let ends : List (Change C) = map (λ m. End m) olds in
    let fresh : (m : Member C) → Contains news m → Contains new m × (has_id number m.id old ≡ false) = λ m h. let o = filter_in (λ v. not (has_id number v.id old)) new m h in (o.0, not_is (has_id number m.id old) o.1) in
    record {
      apart = apart_all number (changes_between number old new) (apart_begins number news ends (rising_filter number (λ v. not (has_id number v.id old)) new q) (apart_ends number olds (rising_filter number (λ v. not (has_id number v.id new)) old r))
          (λ m d h k e. let p = fresh m h in let o = ends_in olds d k in
          has_from number m.id old o.0 p.1 (filter_in (λ v. not (has_id number v.id new)) old o.0 o.1).0 (sym (e ∙ ap (change_number number) (sym o.2)))));
      each = λ d h. elim (all_in number news ends d h) [
        | inl p ↦ let o = fresh p.0 p.1 in let P : Change C → Type 0 = λ v. IsChange number labels old v in subst P p.2 (o.1, movers p.0 o.0)
        | inr p ↦ let o = ends_in olds d p in let P : Change C → Type 0 = λ v. IsChange number labels old v in subst P o.2 (filter_in (λ v. not (has_id number v.id new)) old o.0 o.1).0
      ];
    }

has_case : {C : Type 0} (number : C → ℕ) (id : C) (ms : List (Member C)) → (has_id number id ms ≡ false) ⊎ ((x : Member C) × Contains ms x × (number x.id ≡ number id))
unfolding has_id
has_case number id [] = inl refl
has_case number id (m ∷ ms) = elim (cases_eq (number m.id) (number id)) [
  | inl e ↦ inr (m, contains_head m ms, e)
  | inr e ↦ elim (has_case number id ms) [
    | inl k ↦ inl (rw (not_same (number m.id) (number id) e, k) refl)
    | inr k ↦ inr (k.0, contains_tail m ms k.0 k.1, k.2)
  ]
]

pub changes_lead_to : {C : Type 0} (number : C → ℕ) → ChangesLeadTo number
changes_lead_to {C} number s new w r one movers =
    let changes : List (Change C) = changes_between number s.ties new in
    let ends : List (Change C) = map (λ m. End m) (only_in number new s.ties) in
    let are : AreChangesOf number s.labels s.ties changes = changes_are number s.labels s.ties new w.rising r movers in
    let consistent : IsConsistent number (after_changes number changes s) = changing_keeps number s changes w (changes_fold number s.labels s.ties changes are) in (
      consistent,
      one_order number (after_changes number changes s).ties new consistent.rising r (λ x. (
        (λ h. elim ((ties_after_all number s.labels changes s x w.rising are).0 h) [
          | inl k ↦ elim (has_case number x.id new) [
            | inl m ↦ absurd (k.1 (other_in number (only_in number s.ties new) ends (End x) (in_ends (only_in number new s.ties) x (in_filter (λ v. not (has_id number v.id new)) s.ties x k.0 (ap not m)))))
            | inr m ↦ let same : x ≡ m.0 = one x m.0 k.0 m.1 (sym m.2) in let P : Member C → Type 0 = λ v. Contains new v in subst P (sym same) m.1
          ]
          | inr k ↦ elim (all_in number (only_in number s.ties new) ends (Begin x) k) [
            | inl p ↦ let P : Member C → Type 0 = λ v. Contains new v in subst P (begin_is p.0 x p.2) (filter_in (λ v. not (has_id number v.id s.ties)) new p.0 p.1).0
            | inr p ↦ let o = ends_in (only_in number new s.ties) (Begin x) p in absurd (let no = o.2 in cc)
          ]
        ]),
        (λ h. (ties_after_all number s.labels changes s x w.rising are).1 (elim (has_case number x.id s.ties) [
          | inl m ↦ inr (begin_in number (only_in number s.ties new) ends x (in_filter (λ v. not (has_id number v.id s.ties)) new x h (ap not m)))
          | inr m ↦ let same : m.0 ≡ x = one m.0 x m.1 h m.2 in
              let P : Member C → Type 0 = λ v. Contains s.ties v in
              inl (
                subst P same m.1,
                λ k. elim (all_in number (only_in number s.ties new) ends (End x) k) [
                  | inl p ↦ let no = p.2 in absurd cc
                  | inr p ↦ let o = ends_in (only_in number new s.ties) (End x) p in
                      let q = filter_in (λ v. not (has_id number v.id new)) s.ties o.0 o.1 in
                      let is : o.0 ≡ x = end_is o.0 x o.2 in
                      has_from number o.0.id new x (not_is (has_id number o.0.id new) q.1) h (ap (λ v. number v.id) (sym is))
                ],
              )
        ])),
      )),
    )
