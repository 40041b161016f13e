-- Two lists of slots, both ascending, passed from the lesser slot to the greater: those whose states pass a test are
-- listed in one.
use Rattle.std.proofs.Common.{◌≡◌, ℕ, zero, suc, ◌+◌, ◌<◌, ◌≤◌, Bool, true, false, cond, List, [], ◌∷◌, ◌++◌, length, get_or, take, nat_lt, arith, refl, sym, ap, ◌∙◌, inl, inr}
use Rattle.std.specs.Prelude.{◌⊎◌}
use Rattle.std.proofs.lemmas.Bool.{cases_Bool, cases_lt}
use Rattle.std.proofs.lemmas.Bool.Decides.{nat_tests}
use Rattle.std.proofs.lemmas.List.{append-nil}
use Rattle.momenta.specs.declared.state.BodyState.{BodyState}
use Rattle.colour_solver.specs.States.{nobody, places_from}
use Rattle.colour_solver.proofs.PlaceLaws.{length-places}
use Rattle.world_core_base.specs.Listing.{IsIn}
use Rattle.world_core_base.specs.Merging.{HavePassed, IsLeft, IsNext}
use Rattle.world_core_base.specs.declared.merging.Passed.{Passed}
use Rattle.world_core_base.specs.declared.merging.Next.{Next}

-- ---- what is left

pub from_there : (slots : List ℕ) (place slot : ℕ) → IsIn slots place slot → place < length slots
from_there slots place slot h = let from = h.from in let below = h.below in omega (arith, from, below)

-- ---- the places below one

-- where none passes between two places, the same are below both
pub places_still : {X : Type 0} (is : X → Bool) (xs : List X) (n a b : ℕ) (d : X) → a ≤ b → ((k : ℕ) → a ≤ k → k < b → is (get_or xs k d) ≡ true → ⊥) → places_from is n (take a xs) ≡ places_from is n (take b xs)
places_still is [] n zero zero d h none = refl
places_still is [] n zero (suc b) d h none = refl
places_still is [] n (suc a) zero d h none = refl
places_still is [] n (suc a) (suc b) d h none = refl
places_still is (x ∷ xs) n zero zero d h none = refl
places_still is (x ∷ xs) n zero (suc b) d h none = elim (cases_Bool (is x)) [
  | inl on1 ↦ absurd (none 0 (omega arith) (omega arith) on1)
  | inr off1 ↦ rw off1 (places_still is xs (suc n) zero b d (omega arith) (λ k low high on. none (suc k) (omega arith) (omega (arith, high)) on))
]
places_still is (x ∷ xs) n (suc a) zero d h none = absurd (omega (arith, h))
places_still is (x ∷ xs) n (suc a) (suc b) d h none =
    let rest = places_still is xs (suc n) a b d (omega (arith, h)) (λ k low high on. none (suc k) (omega (arith, low)) (omega (arith, high)) on) in
    elim (cases_Bool (is x)) [
      | inl on1 ↦ rw on1 (ap (λ (l : List ℕ). n ∷ l) rest)
      | inr off1 ↦ rw off1 rest
    ]

-- one place more
pub places_next : {X : Type 0} (is : X → Bool) (xs : List X) (n k slot : ℕ) (d : X) → is d ≡ false → slot ≡ n + k → places_from is n (take (suc k) xs) ≡ places_from is n (take k xs) ++ cond (is (get_or xs k d)) (slot ∷ []) []
places_next is [] n zero slot d none e = rw none refl
places_next is [] n (suc k) slot d none e = rw none refl
places_next is (x ∷ xs) n zero slot d none e = let same : slot ≡ n = omega (arith, e) in rw same (elim (cases_Bool (is x)) [
  | inl on1 ↦ rw on1 refl
  | inr off1 ↦ rw off1 refl
])
places_next is (x ∷ xs) n (suc k) slot d none e =
    let rest = places_next is xs (suc n) k slot d none (omega (arith, e)) in
    elim (cases_Bool (is x)) [
      | inl on1 ↦ rw on1 (ap (λ (l : List ℕ). n ∷ l) rest)
      | inr off1 ↦ rw off1 rest
    ]

few_below : {X : Type 0} (is : X → Bool) (xs : List X) (n k : ℕ) → length (places_from is n (take k xs)) ≤ k
few_below is xs n k = let few = length-places is (take k xs) n in let short = length-taken xs k in omega (arith, few, short)
  where
    length-taken : {Y : Type 0} (ys : List Y) (i : ℕ) → length (take i ys) ≤ i
    length-taken [] zero = omega arith
    length-taken [] (suc i) = omega arith
    length-taken (y ∷ ys) zero = omega arith
    length-taken (y ∷ ys) (suc i) = let rest = length-taken ys i in omega (arith, rest)

-- ---- the pass

-- the slots below `end` are listed, and all others that pass the test are left
pub record IsMerged (is : BodyState → Bool) (states : List BodyState) (slots added : List ℕ) (passed : Passed) (visit end : ℕ) (list : List ℕ) : Type 0 where
  pub passes : HavePassed slots added passed visit
  pub listed : list ≡ places_from is 0 (take end states)
  pub left : (slot : ℕ) → end ≤ slot → is (get_or states slot nobody) ≡ true → IsLeft slots added passed slot
  pub short : length list ≤ end

is_below : (a b : ℕ) → a < b → nat_lt a b ≡ true
is_below a b h = grind (arith, nat_tests)

not_below : (a b : ℕ) → b ≤ a → nat_lt a b ≡ false
not_below a b h = grind (arith, nat_tests)

pub merged_more : (is : BodyState → Bool) (states : List BodyState) (slots added : List ℕ) (passed : Passed) (next : Next) (visit visits end end_after : ℕ) (list list_after : List ℕ) → is nobody ≡ false → visits ≡ visit + 1 → IsMerged is states slots added passed visit end list
    → IsNext slots added passed next → HavePassed slots added next.passed visits → list_after ≡ list ++ cond (nat_lt next.slot end) [] (cond (is (get_or states next.slot nobody)) (next.slot ∷ []) []) → end_after ≡ cond (nat_lt next.slot end) end (next.slot + 1)
    → IsMerged is states slots added next.passed visits end_after list_after
merged_more is states slots added passed next visit visits end end_after list list_after none counts h is_next passes lists ends = elim (cases_lt next.slot end) [
  | inl less ↦
      (let here : end_after ≡ end = ends ∙ (λ j. cond (is_below next.slot end less j) end (next.slot + 1)) in
      let same : list_after ≡ list = lists ∙ (λ j. list ++ cond (is_below next.slot end less j) [] (cond (is (get_or states next.slot nobody)) (next.slot ∷ []) [])) ∙ append-nil list in
      let short = h.short in
      record {
        passes = passes;
        listed = same ∙ h.listed ∙ ap (λ (k : ℕ). places_from is 0 (take k states)) (sym here);
        left = λ slot from on. is_next.later slot (h.left slot (omega (arith, from, here)) on) (omega (arith, from, here, less));
        short = rw (same, here) short;
      })
  | inr more ↦
      (let here : end_after ≡ suc next.slot = ends ∙ (λ j. cond (not_below next.slot end more j) end (next.slot + 1)) ∙ plus_one next.slot in
      let still : places_from is 0 (take end states) ≡ places_from is 0 (take next.slot states) = places_still is states 0 end next.slot nobody more (λ k low high on. below_next k (is_next.low k (h.left k low on)) high) in
      let same : list_after ≡ places_from is 0 (take (suc next.slot) states) =
      lists ∙ (λ j. list ++ cond (not_below next.slot end more j) [] (cond (is (get_or states next.slot nobody)) (next.slot ∷ []) [])) ∙ ap (λ (l : List ℕ). l ++ cond (is (get_or states next.slot nobody)) (next.slot ∷ []) []) (h.listed ∙ still)
      ∙ sym (places_next is states 0 next.slot next.slot nobody none (omega arith)) in
      let few = few_below is states 0 (suc next.slot) in
      record {
        passes = passes;
        listed = same ∙ ap (λ (k : ℕ). places_from is 0 (take k states)) (sym here);
        left = λ slot from on. is_next.later slot (h.left slot (omega (arith, from, here, more)) on) (omega (arith, from, here));
        short = rw (same, here) few;
      })
]
  where
    plus_one : (n : ℕ) → n + 1 ≡ suc n
    plus_one n = omega arith

    below_next : (k : ℕ) → next.slot ≤ k → k < next.slot → ⊥
    below_next k low high = omega (arith, low, high)

-- when all are passed, all are listed
pub merged_last : (is : BodyState → Bool) (states : List BodyState) (slots added : List ℕ) (passed : Passed) (visit end : ℕ) (list : List ℕ) → length slots + length added ≤ visit → is nobody ≡ false → IsMerged is states slots added passed visit end list → list ≡ places_from is 0 states
merged_last is states slots added passed visit end list over none h = h.listed ∙ whole (cases_lt end (length states))
  where
    none_left : (slot : ℕ) → IsLeft slots added passed slot → ⊥
    none_left slot (inl i) = let there = from_there slots passed.slots slot i in let p = h.passes.in_added in let n = h.passes.count in omega (arith, there, p, n, over)
    none_left slot (inr i) = let there = from_there added passed.added slot i in let p = h.passes.in_slots in let n = h.passes.count in omega (arith, there, p, n, over)

    take_whole : (ss : List BodyState) (i : ℕ) → length ss ≤ i → take i ss ≡ ss
    take_whole [] zero e = refl
    take_whole [] (suc i) e = refl
    take_whole (s ∷ ss) zero e = absurd (omega (arith, e))
    take_whole (s ∷ ss) (suc i) e = ap (λ (l : List BodyState). s ∷ l) (take_whole ss i (omega (arith, e)))

    whole : (end < length states) ⊎ (length states ≤ end) → places_from is 0 (take end states) ≡ places_from is 0 states
    whole (inl less) = places_still is states 0 end (length states) nobody (omega (arith, less)) (λ k low high on. none_left k (h.left k low on)) ∙ ap (places_from is 0) (take_whole states (length states) (omega arith))
    whole (inr more) = ap (places_from is 0) (take_whole states end more)
