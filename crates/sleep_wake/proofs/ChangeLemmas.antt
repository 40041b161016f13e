-- Which constraints there are after begins and ends.
use Rattle.std.proofs.Common.{◌≡◌, ◌≢◌, ◌↔◌, ◌⊎◌, ℕ, ◌<◌, Bool, true, false, cond, List, [], ◌∷◌, Option, Some, None, inl, inr, refl, sym, ap, ◌∙◌, subst, arith}
use Rattle.std.specs.Prelude.{Contains, AllPairs}
use Rattle.std.proofs.lemmas.List.Elements.{All-contains}
use Rattle.std.specs.Option.{option_map_or}
use Rattle.graph_colours.specs.declared.member.Member.{Member}
use Rattle.graph_colours.specs.Members.{AreRising, inserted, without_member}
use Rattle.graph_colours.specs.FoundMembers.{has_id}
use Rattle.graph_colours.proofs.SearchLemmas.{has_inserted}
use Rattle.graph_colours.proofs.PlaceLemmas.{not_same}
use Rattle.graph_colours.proofs.ListLemmas.{pairs_head, pairs_tail, rising_inserted, rising_without}
use Rattle.islands.specs.declared.label.Label.{Label}
use Rattle.islands.specs.Labels.{Labels, label_at, is_asleep}
use Rattle.islands.proofs.JoinLemmas.{contains_cases, contains_head, contains_tail}
use Rattle.sleep_wake.specs.Acting.{Acting}
use Rattle.sleep_wake.specs.declared.change.Change.{Change}
use Rattle.sleep_wake.specs.declared.change.Change.TheVariants.{Begin, End}
use Rattle.sleep_wake.specs.Changes.{ended, begun, after_changes, change_number}
use Rattle.sleep_wake.specs.ChangeLists.{IsChange, AreChangesOf}
use Rattle.sleep_wake.specs.Waking.{set_woken, woken_at, movers_woken}
use Rattle.sleep_wake.specs.Laws.{ChangesFold, TiesAfter, OneOrder}
use Rattle.sleep_wake.proofs.ListLemmas.{without_in, in_without, inserted_in, in_inserted, one_of, has_from}

none_in : {X : Type 0} (x : X) → Contains [] x → ⊥
none_in x h = omega (arith, h.1)

-- ---- a change leaves what other changes ask for

apart_head : {C : Type 0} (number : C → ℕ) (c : Change C) (cs : List (Change C)) (d : Change C) → AllPairs (λ a b. change_number number a ≢ change_number number b) (c ∷ cs) → Contains cs d → change_number number c ≢ change_number number d
apart_head number c cs d h k = All-contains (λ e. change_number number c ≢ change_number number e) cs d (pairs_head (λ a b. change_number number a ≢ change_number number b) c cs h) k

fresh_inserted : {C : Type 0} (number : C → ℕ) (m x : Member C) (ties : List (Member C)) → number m.id ≢ number x.id → has_id number x.id ties ≡ false → has_id number x.id (inserted number m ties) ≡ false
fresh_inserted number m x ties far h = has_inserted number x.id m ties ∙ rw (not_same (number m.id) (number x.id) far, h) refl

pub fresh_from : {C : Type 0} (number : C → ℕ) (id : C) (ms : List (Member C)) → ((x : Member C) → Contains ms x → number x.id ≢ number id) → has_id number id ms ≡ false
unfolding has_id
fresh_from number id [] h = refl
fresh_from number id (m ∷ ms) h = rw (not_same (number m.id) (number id) (h m (contains_head m ms))) (fresh_from number id ms (λ x k. h x (contains_tail m ms x k)))

fresh_without : {C : Type 0} (number : C → ℕ) (m x : Member C) (ties : List (Member C)) → has_id number x.id ties ≡ false → has_id number x.id (without_member number m.id ties) ≡ false
fresh_without number m x ties h = fresh_from number x.id (without_member number m.id ties) (λ y k. has_from number x.id ties y h (without_in number m.id ties y k).0)

after_begin : {C : Type 0} (number : C → ℕ) (labels : Labels) (m : Member C) (ties : List (Member C)) (d : Change C) → number m.id ≢ change_number number d → IsChange number labels ties d → IsChange number labels (inserted number m ties) d
after_begin number labels m ties (Begin x) far h = (fresh_inserted number m x ties far h.0, h.1)
after_begin number labels m ties (End x) far h = in_inserted number m ties x (inr h)

after_end : {C : Type 0} (number : C → ℕ) (labels : Labels) (m : Member C) (ties : List (Member C)) (d : Change C) → number m.id ≢ change_number number d → IsChange number labels ties d → IsChange number labels (without_member number m.id ties) d
after_end number labels m ties (Begin x) far h = (fresh_without number m x ties h.0, h.1)
after_end number labels m ties (End x) far h = in_without number m.id ties x h (λ e. far (sym e))

rest_begin : {C : Type 0} (number : C → ℕ) (labels : Labels) (m : Member C) (ties : List (Member C)) (cs : List (Change C)) → AreChangesOf number labels ties (Begin m ∷ cs) → AreChangesOf number labels (inserted number m ties) cs
rest_begin number labels m ties cs h = record {
  apart = pairs_tail (λ a b. change_number number a ≢ change_number number b) (Begin m) cs h.apart;
  each = λ d k. after_begin number labels m ties d (apart_head number (Begin m) cs d h.apart k) (h.each d (contains_tail (Begin m) cs d k));
}

rest_end : {C : Type 0} (number : C → ℕ) (labels : Labels) (m : Member C) (ties : List (Member C)) (cs : List (Change C)) → AreChangesOf number labels ties (End m ∷ cs) → AreChangesOf number labels (without_member number m.id ties) cs
rest_end number labels m ties cs h = record {
  apart = pairs_tail (λ a b. change_number number a ≢ change_number number b) (End m) cs h.apart;
  each = λ d k. after_end number labels m ties d (apart_head number (End m) cs d h.apart k) (h.each d (contains_tail (End m) cs d k));
}

pub changes_fold : {C : Type 0} (number : C → ℕ) → ChangesFold number
changes_fold number labels ties [] h = tt
changes_fold number labels ties (Begin m ∷ cs) h = let one = h.each (Begin m) (contains_head (Begin m) cs) in (one.0, one.1, changes_fold number labels (inserted number m ties) cs (rest_begin number labels m ties cs h))
changes_fold number labels ties (End m ∷ cs) h = (h.each (End m) (contains_head (End m) cs), changes_fold number labels (without_member number m.id ties) cs (rest_end number labels m ties cs h))

-- ---- waking changes no constraints

ties_if : {C : Type 0} (number : C → ℕ) (name : ℕ) (t : Bool) (s : Acting C) → (cond t (set_woken number name s) s).ties ≡ s.ties
unfolding set_woken
ties_if number name true s = refl
ties_if number name false s = refl

ties_by : {C : Type 0} (number : C → ℕ) (o : Option Label) (s : Acting C) → (option_map_or (λ (l : Label). cond (is_asleep l.state) (set_woken number l.name s) s) o s).ties ≡ s.ties
ties_by number None s = refl
ties_by number (Some l) s = ties_if number l.name (is_asleep l.state) s

ties_at : {C : Type 0} (number : C → ℕ) (slot : ℕ) (s : Acting C) → (woken_at number slot s).ties ≡ s.ties
unfolding woken_at
ties_at number slot s = ties_by number (label_at s.labels slot) s

ties_both : {C : Type 0} (number : C → ℕ) (first : ℕ) (o : Option ℕ) (s : Acting C) → (option_map_or (λ slot. woken_at number slot (woken_at number first s)) o (woken_at number first s)).ties ≡ s.ties
ties_both number first None s = ties_at number first s
ties_both number first (Some b) s = ties_at number b (woken_at number first s) ∙ ties_at number first s

-- ---- who is there

abbrev After : {C : Type 0} → List (Member C) → List (Change C) → Member C → Type 0
After ties changes x = (Contains ties x × (Contains changes (End x) → ⊥)) ⊎ Contains changes (Begin x)

pub begin_is : {C : Type 0} (m x : Member C) → let a : Change C = Begin m in let b : Change C = Begin x in a ≡ b → m ≡ x
begin_is m x h = cc

pub end_is : {C : Type 0} (m x : Member C) → let a : Change C = End m in let b : Change C = End x in a ≡ b → m ≡ x
end_is m x h = cc

after_begins : {C : Type 0} (number : C → ℕ) (labels : Labels) (m : Member C) (ties : List (Member C)) (cs : List (Change C)) (x : Member C) → AreChangesOf number labels ties (Begin m ∷ cs) → After (inserted number m ties) cs x ↔ After ties (Begin m ∷ cs) x
after_begins {C} number labels m ties cs x h = (
  λ k. elim k [
    | inl p ↦ elim (inserted_in number m ties x p.0) [
      | inl q ↦ let P : Member C → Type 0 = λ v. Contains (Begin m ∷ cs) (Begin v) in inr (subst P q (contains_head (Begin m) cs))
      | inr q ↦ inl (q, λ r. elim (contains_cases (Begin m) cs (End x) r) [ inl f ↦ absurd cc | inr f ↦ p.1 f ])
    ]
    | inr p ↦ inr (contains_tail (Begin m) cs (Begin x) p)
  ],
  λ k. elim k [
    | inl p ↦ inl (in_inserted number m ties x (inr p.0), λ r. p.1 (contains_tail (Begin m) cs (End x) r))
    | inr p ↦ elim (contains_cases (Begin m) cs (Begin x) p) [
      | inl q ↦ let same : m ≡ x = begin_is m x q in inl (
        in_inserted number m ties x (inl same),
        λ r.
            apart_head number (Begin m) cs (End x) h.apart r (ap (λ v. number v.id) same),
      )
      | inr q ↦ inr q
    ]
  ],
)

after_ends : {C : Type 0} (number : C → ℕ) (labels : Labels) (m : Member C) (ties : List (Member C)) (cs : List (Change C)) (x : Member C) → AreRising number ties → AreChangesOf number labels ties (End m ∷ cs) → After (without_member number m.id ties) cs x ↔ After ties (End m ∷ cs) x
after_ends {C} number labels m ties cs x rising h = (
  λ k. elim k [
    | inl p ↦ let o = without_in number m.id ties x p.0 in inl (
      o.0,
      λ r. elim (contains_cases (End m) cs (End x) r) [
        | inl f ↦ o.1 (ap (λ v. number v.id) (sym (end_is m x f)))
        | inr f ↦ p.1 f
      ],
    )
    | inr p ↦ inr (contains_tail (End m) cs (Begin x) p)
  ],
  λ k. elim k [
    | inl p ↦ inl (
      in_without number m.id ties x p.0 (λ e.
          let same : m ≡ x = one_of number ties m x rising (h.each (End m) (contains_head (End m) cs)) p.0 (sym e) in
          let P : Member C → Type 0 = λ v. Contains (End m ∷ cs) (End v) in
          p.1 (subst P same (contains_head (End m) cs))),
      λ r. p.1 (contains_tail (End m) cs (End x) r),
    )
    | inr p ↦ elim (contains_cases (End m) cs (Begin x) p) [ inl q ↦ absurd cc | inr q ↦ inr q ]
  ],
)

through : {A B D : Type 0} → (A ↔ B) → (B ↔ D) → A ↔ D
through f g = (λ a. g.0 (f.0 a), λ d. f.1 (g.1 d))

pub ties_after_all : {C : Type 0} (number : C → ℕ) (labels : Labels) (changes : List (Change C)) (s : Acting C) (x : Member C) → AreRising number s.ties → AreChangesOf number labels s.ties changes → Contains (after_changes number changes s).ties x ↔ After s.ties changes x
unfolding ended begun
ties_after_all number labels [] s x r h = (λ k. inl (k, λ q. none_in (End x) q), λ k. elim k [ inl p ↦ p.0 | inr p ↦ absurd (none_in (Begin x) p) ])
ties_after_all {C} number labels (Begin m ∷ cs) s x r h =
    let now : Acting C = movers_woken number m.movers s in
    let same : now.ties ≡ s.ties = ties_both number m.movers.first m.movers.second s in
    let P : List (Member C) → Type 0 = λ v. AreRising number (inserted number m v) in
    let Q : List (Member C) → Type 0 = λ v. AreChangesOf number labels (inserted number m v) cs in
    let R : List (Member C) → Type 0 = λ v. Contains (after_changes number cs (begun number m now)).ties x ↔ After (inserted number m v) cs x in
    let one = h.each (Begin m) (contains_head (Begin m) cs) in
    through (subst R same (ties_after_all number labels cs (begun number m now) x (subst P (sym same) (rising_inserted number m s.ties r one.0)) (subst Q (sym same) (rest_begin number labels m s.ties cs h))))
    (after_begins number labels m s.ties cs x h)
ties_after_all {C} number labels (End m ∷ cs) s x r h =
    let now : Acting C = movers_woken number m.movers s in
    let same : now.ties ≡ s.ties = ties_both number m.movers.first m.movers.second s in
    let P : List (Member C) → Type 0 = λ v. AreRising number (without_member number m.id v) in
    let Q : List (Member C) → Type 0 = λ v. AreChangesOf number labels (without_member number m.id v) cs in
    let R : List (Member C) → Type 0 = λ v. Contains (after_changes number cs (ended number m now)).ties x ↔ After (without_member number m.id v) cs x in
    through (subst R same (ties_after_all number labels cs (ended number m now) x (subst P (sym same) (rising_without number m.id s.ties r)) (subst Q (sym same) (rest_end number labels m s.ties cs h))))
    (after_ends number labels m s.ties cs x r h)

pub ties_after : {C : Type 0} (number : C → ℕ) → TiesAfter number
ties_after number s labels changes x r h = ties_after_all number labels changes s x r h

-- ---- one order

head_above : {C : Type 0} (number : C → ℕ) (m : Member C) (ms : List (Member C)) (x : Member C) → AreRising number (m ∷ ms) → Contains ms x → number m.id < number x.id
head_above number m ms x r h = All-contains (λ y. number m.id < number y.id) ms x (pairs_head (λ a b. number a.id < number b.id) m ms r) h

pub one_order : {C : Type 0} (number : C → ℕ) → OneOrder number
one_order number [] [] r q same = refl
one_order number [] (y ∷ ys) r q same = absurd (none_in y ((same y).1 (contains_head y ys)))
one_order number (x ∷ xs) [] r q same = absurd (none_in x ((same x).0 (contains_head x xs)))
one_order {C} number (x ∷ xs) (y ∷ ys) r q same =
    let first : x ≡ y = elim (contains_cases y ys x ((same x).0 (contains_head x xs))) [
      | inl k ↦ sym k
      | inr k ↦ elim (contains_cases x xs y ((same y).1 (contains_head y ys))) [
        | inl m ↦ m
        | inr m ↦ let a : number y.id < number x.id = head_above number y ys x q k in let b : number x.id < number y.id = head_above number x xs y r m in absurd (omega (arith, a, b))
      ]
    ] in
    let rest : xs ≡ ys = one_order number xs ys (pairs_tail (λ a b. number a.id < number b.id) x xs r) (pairs_tail (λ a b. number a.id < number b.id) y ys q) (λ z. (
      λ k. elim (contains_cases y ys z ((same z).0 (contains_tail x xs z k))) [
        | inl m ↦ let a : number x.id < number z.id = head_above number x xs z r k in let b : number x.id ≡ number z.id = ap (λ v. number v.id) (first ∙ m) in absurd (omega (arith, a, b))
        | inr m ↦ m
      ],
      λ k. elim (contains_cases x xs z ((same z).1 (contains_tail y ys z k))) [
        | inl m ↦ let a : number y.id < number z.id = head_above number y ys z q k in let b : number y.id ≡ number z.id = ap (λ v. number v.id) (sym first ∙ m) in absurd (omega (arith, a, b))
        | inr m ↦ m
      ],
    )) in
    rw (first, rest) refl
