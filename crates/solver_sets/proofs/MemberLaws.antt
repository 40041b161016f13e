-- Which constraints there are once some have come or gone, one after the other.
use Rattle.std.proofs.Common.{◌≡◌, ◌≢◌, ◌⊎◌, ℕ, ◌<◌, false, List, [], ◌∷◌, get_or, inl, inr, refl, sym, ap, arith}
use Rattle.std.proofs.lemmas.List.Elements.{Contains-get_or}
use Rattle.graph_colours.specs.declared.member.Member.{Member}
use Rattle.graph_colours.specs.Members.{AreRising, inserted, without_member}
use Rattle.graph_colours.specs.FoundMembers.{has_id}
use Rattle.graph_colours.proofs.ListLemmas.{rising_inserted, rising_without}
use Rattle.graph_colours.proofs.PlaceLemmas.{has_no_id}
use Rattle.contacts_base.proofs.Members.{IsIn, in_from_contains, contains_from_in}
use Rattle.sleep_wake.specs.ChangeLists.{each_inserted, each_without}
use Rattle.sleep_wake.proofs.ListLemmas.{in_inserted, in_without, inserted_in, without_in}
use Rattle.solver_sets.proofs.ListLaws.{Rises}

pub inserted_is : {C : Type 0} (number : C → ℕ) (m : Member C) (ms : List (Member C)) (x : Member C) → IsIn x (inserted number m ms) → (x ≡ m) ⊎ IsIn x ms
inserted_is number m ms x h = elim (inserted_in number m ms x (contains_from_in (inserted number m ms) x h)) [ inl p ↦ inl (sym p) | inr q ↦ inr (in_from_contains ms x q) ]

pub is_inserted : {C : Type 0} (number : C → ℕ) (m : Member C) (ms : List (Member C)) (x : Member C) → (x ≡ m) ⊎ IsIn x ms → IsIn x (inserted number m ms)
is_inserted number m ms x h = in_from_contains (inserted number m ms) x (in_inserted number m ms x (elim h [ inl p ↦ inl (sym p) | inr q ↦ inr (contains_from_in ms x q) ]))

pub without_is : {C : Type 0} (number : C → ℕ) (id : C) (ms : List (Member C)) (x : Member C) → IsIn x (without_member number id ms) → IsIn x ms × (number x.id ≢ number id)
without_is number id ms x h = let o = without_in number id ms x (contains_from_in (without_member number id ms) x h) in (in_from_contains ms x o.0, o.1)

pub is_without : {C : Type 0} (number : C → ℕ) (id : C) (ms : List (Member C)) (x : Member C) → IsIn x ms → number x.id ≢ number id → IsIn x (without_member number id ms)
is_without number id ms x h far = in_from_contains (without_member number id ms) x (in_without number id ms x (contains_from_in ms x h) far)

pub no_id : {C : Type 0} (number : C → ℕ) (ms : List (Member C)) (id : C) → ((x : Member C) → IsIn x ms → number x.id ≢ number id) → has_id number id ms ≡ false
no_id number ms id far = has_no_id number ms id (λ k d lt e. far (get_or ms k d) (in_from_contains ms (get_or ms k d) (Contains-get_or ms k d lt)) e)

-- ---- several that come

pub each_is : {C : Type 0} (number : C → ℕ) (ms ties : List (Member C)) (x : Member C) → IsIn x (each_inserted number ms ties) → IsIn x ms ⊎ IsIn x ties
each_is number [] ties x h = inr h
each_is number (m ∷ ms) ties x h = elim (each_is number ms (inserted number m ties) x h) [
  | inl p ↦ inl (inr p)
  | inr q ↦ elim (inserted_is number m ties x q) [ inl e ↦ inl (inl e) | inr k ↦ inr k ]
]

pub is_each : {C : Type 0} (number : C → ℕ) (ms ties : List (Member C)) (x : Member C) → IsIn x ms ⊎ IsIn x ties → IsIn x (each_inserted number ms ties)
is_each number [] ties x h = elim h [ inl p ↦ absurd p | inr q ↦ q ]
is_each number (m ∷ ms) ties x h = is_each number ms (inserted number m ties) x (elim h [
  | inl p ↦ elim p [ inl e ↦ inr (is_inserted number m ties x (inl e)) | inr k ↦ inl k ]
  | inr q ↦ inr (is_inserted number m ties x (inr q))
])

pub rising_each : {C : Type 0} (number : C → ℕ) (ms ties : List (Member C)) → AreRising number ties → Rises (λ (m : Member C). number m.id) ms → ((m x : Member C) → IsIn m ms → IsIn x ties → number x.id ≢ number m.id) → AreRising number (each_inserted number ms ties)
rising_each number [] ties r s far = r
rising_each number (m ∷ ms) ties r s far = rising_each number ms (inserted number m ties)
    (rising_inserted number m ties r (no_id number ties m.id (λ x h. far m x (inl refl) h))) s.1
    (λ n x h k e. elim (inserted_is number m ties x k) [
      | inl p ↦ let lt : number m.id < number n.id = s.0 n h in let same : number x.id ≡ number m.id = ap (λ v. number v.id) p in omega (arith, lt, same, e)
      | inr q ↦ far n x (inr h) q e
    ])

-- ---- several that go

pub each_left : {C : Type 0} (number : C → ℕ) (ms ties : List (Member C)) (x : Member C) → IsIn x (each_without number ms ties) → IsIn x ties × ((m : Member C) → IsIn m ms → number x.id ≢ number m.id)
each_left number [] ties x h = (h, (λ m k. absurd k))
each_left number (n ∷ ms) ties x h =
    let o = each_left number ms (without_member number n.id ties) x h in
    let p = without_is number n.id ties x o.0 in
    (p.0, (λ m k. elim k [ inl e ↦ rw e p.1 | inr q ↦ o.1 m q ]))

pub left_each : {C : Type 0} (number : C → ℕ) (ms ties : List (Member C)) (x : Member C) → IsIn x ties → ((m : Member C) → IsIn m ms → number x.id ≢ number m.id) → IsIn x (each_without number ms ties)
left_each number [] ties x h far = h
left_each number (n ∷ ms) ties x h far = left_each number ms (without_member number n.id ties) x (is_without number n.id ties x h (far n (inl refl))) (λ m k. far m (inr k))

pub rising_left : {C : Type 0} (number : C → ℕ) (ms ties : List (Member C)) → AreRising number ties → AreRising number (each_without number ms ties)
rising_left number [] ties r = r
rising_left number (m ∷ ms) ties r = rising_left number ms (without_member number m.id ties) (rising_without number m.id ties r)
