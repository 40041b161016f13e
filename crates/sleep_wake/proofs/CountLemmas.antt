-- There is room for the constraints of an island that sleeps: each constraint has a colour already, or takes one of the
-- room.
use Rattle.std.proofs.Common.{◌≡◌, ℕ, suc, ◌+◌, ◌<◌, ◌≤◌, ◌==◌, Bool, true, false, not, cond, List, [], ◌∷◌, length, arith, refl, sym, ap, ◌∙◌, inl, inr}
use Rattle.std.specs.Prelude.{Contains, filter}
use Rattle.std.specs.List.{count_by}
use Rattle.std.proofs.lemmas.Bool.{false≢true}
use Rattle.std.proofs.lemmas.List.Filters.{length-filter_both}
use Rattle.std.proofs.lemmas.List.Sums.{length-filter}
use Rattle.graph_colours.specs.declared.member.Member.{Member}
use Rattle.graph_colours.specs.Members.{AreRising, without_member}
use Rattle.graph_colours.specs.FoundMembers.{has_id}
use Rattle.graph_colours.proofs.ListLemmas.{pairs_tail}
use Rattle.graph_colours.proofs.PlaceLemmas.{without_same}
use Rattle.graph_colours.proofs.ColouringLemmas.{count_released}
use Rattle.islands.proofs.JoinLemmas.{contains_cases, contains_head}
use Rattle.sleep_wake.proofs.ListLemmas.{none_in, without_in, one_of}
use Rattle.sleep_wake.proofs.ChangeLemmas.{fresh_from}

-- no number stands twice
abbrev pub AreOnce : {C : Type 0} → (C → ℕ) → List (Member C) → Type 0
AreOnce number ms = (n : ℕ) → count_by (λ m. number m.id == n) ms ≤ 1

once_without : {C : Type 0} (number : C → ℕ) (id : C) (ms : List (Member C)) → AreOnce number ms → AreOnce number (without_member number id ms)
once_without number id ms h n = let a = h n in let b = count_released number id ms n in omega (arith, a, b)

-- without one number a list is shorter by one at most
shorter_by_one : {C : Type 0} (number : C → ℕ) (id : C) (ms : List (Member C)) → AreOnce number ms → length ms ≤ length (without_member number id ms) + 1
unfolding without_member
shorter_by_one {C} number id ms h =
    let p : Member C → Bool = λ m. number m.id == number id in
    let q : Member C → Bool = λ m. not (number m.id == number id) in
    let both : length (filter p ms) + length (filter q ms) ≡ length ms = length-filter_both p q (λ x. refl) ms in
    let few : length (filter p ms) ≡ count_by p ms = length-filter p ms in
    let one : count_by p ms ≤ 1 = h (number id) in
    omega (arith, both, few, one)

-- those with a colour and those that are wanted, by the test of the first
counted_by : {C : Type 0} (number : C → ℕ) (wanted : Member C → Bool) (t : Member C) (ts has : List (Member C)) (b : Bool) → wanted t ≡ b → AreRising number (t ∷ ts) → AreOnce number has
    → ((x : Member C) → Contains has x → Contains (t ∷ ts) x × (wanted x ≡ false))
    → length (without_member number t.id has) + length (filter wanted ts) ≤ length ts
    → length has + length (cond b (t ∷ filter wanted ts) (filter wanted ts)) ≤ suc (length ts)
counted_by {C} number wanted t ts has true e rising once there rest =
    let none : has_id number t.id has ≡ false = fresh_from number t.id has (λ x h k.
    let o = there x h in
    let same : x ≡ t = one_of number (t ∷ ts) x t rising o.0 (contains_head t ts) k in
    false≢true (sym o.1 ∙ ap wanted same ∙ e)) in
    let all : length (without_member number t.id has) ≡ length has = ap (λ (l : List (Member C)). length l) (without_same number t.id has none) in
    omega (arith, all, rest)
counted_by number wanted t ts has false e rising once there rest = let one = shorter_by_one number t.id has once in omega (arith, one, rest)

-- of constraints that ascend, those with a colour and those that are wanted and have none are no more than all
pub counted : {C : Type 0} (number : C → ℕ) (wanted : Member C → Bool) (ties has : List (Member C)) → AreRising number ties → AreOnce number has
    → ((x : Member C) → Contains has x → Contains ties x × (wanted x ≡ false)) → length has + length (filter wanted ties) ≤ length ties
counted number wanted [] [] rising once there = omega arith
counted number wanted [] (x ∷ xs) rising once there = absurd (none_in x (there x (contains_head x xs)).0)
counted {C} number wanted (t ∷ ts) has rising once there = counted_by number wanted t ts has (wanted t) refl rising once there
    (counted number wanted ts (without_member number t.id has) (pairs_tail (λ a b. number a.id < number b.id) t ts rising) (once_without number t.id has once) (λ x h.
    let o = without_in number t.id has x h in
    let p = there x o.0 in (
      elim (contains_cases t ts x p.0) [
        | inl k ↦ absurd (o.1 (ap (λ (v : Member C). number v.id) (sym k)))
        | inr k ↦ k
      ],
      p.1,
    )))
