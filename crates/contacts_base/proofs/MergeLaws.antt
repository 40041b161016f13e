-- Two lists that ascend by a number, merged.
use Rattle.std.proofs.Common.{◌≡◌, ℕ, zero, suc, ◌<◌, ◌≤◌, true, false, List, [], ◌∷◌, ◌++◌, length, get_or, drop, nat_lt, arith, refl, sym, ap, ◌∙◌, subst, inl, inr}
use Rattle.std.proofs.lemmas.List.{append_assoc}
use Rattle.std.proofs.lemmas.Bool.{cases_lt}
use Rattle.std.proofs.lemmas.Bool.Decides.{nat_tests}
use Rattle.contacts_base.specs.Merge.{AreAscending, below_of, beyond_of, merged, put_in}

pub is_lower : (a b : ℕ) → a < b → nat_lt a b ≡ true
is_lower a b h = grind (arith, nat_tests)

pub not_lower : (a b : ℕ) → b ≤ a → nat_lt a b ≡ false
not_lower a b h = grind (arith, nat_tests)

-- ---- where an item comes in

abbrev pub IsAbove : {X : Type 0} → (X → ℕ) → X → List X → Type 0
IsAbove {X} number e l = (i : ℕ) (d : X) → i < length l → number e < number (get_or l i d)

with_first : {X : Type 0} (number : X → ℕ) (e : X) (l : List X) → IsAbove number e l → put_in number e l ≡ e ∷ l
with_first number e [] above = refl
with_first number e (x ∷ l) above = let first = above 0 x (omega arith) in rw (not_lower (number x) (number e) (omega (arith, first))) refl

merged_behind : {X : Type 0} (number : X → ℕ) (x : X) (l rest : List X) → IsAbove number x l → merged number l (x ∷ rest) ≡ x ∷ merged number l rest
merged_behind number x [] rest above = refl
merged_behind number x (e ∷ l) rest above =
    let first = above 0 e (omega arith) in
    ap (put_in number e) (merged_behind number x l rest (λ i d h. above (suc i) d (omega (arith, h)))) ∙ rw (is_lower (number x) (number e) first) refl

-- ---- one item of the first list further

abbrev pub IsAtLeast : {X : Type 0} → (X → ℕ) → X → List X → Type 0
IsAtLeast {X} number e l = (i : ℕ) (d : X) → i < length l → number e ≤ number (get_or l i d)

pub at_first : {X : Type 0} (number : X → ℕ) (e : X) (l : List X) → IsAtLeast number e l → put_in number e l ≡ e ∷ l
at_first number e [] least = refl
at_first number e (x ∷ l) least = let first = least 0 x (omega arith) in rw (not_lower (number x) (number e) first) refl

pub least_cons : {X : Type 0} (number : X → ℕ) (e x : X) (l : List X) → number e ≤ number x → IsAtLeast number e l → IsAtLeast number e (x ∷ l)
least_cons number e x l h least zero d k = h
least_cons number e x l h least (suc i) d k = least i d (omega (arith, k))

least_tail : {X : Type 0} (number : X → ℕ) (e x : X) (l : List X) → IsAtLeast number e (x ∷ l) → IsAtLeast number e l
least_tail number e x l least i d k = least (suc i) d (omega (arith, k))

least_with : {X : Type 0} (number : X → ℕ) (e x : X) (l : List X) → number e ≤ number x → IsAtLeast number e l → IsAtLeast number e (put_in number x l)
least_with number e x [] h least = least_cons number e x [] h least
least_with number e x (y ∷ l) h least = elim (cases_lt (number y) (number x)) [
  | inl less ↦ rw (is_lower (number y) (number x) less) (least_cons number e y (put_in number x l) (least 0 y (omega arith)) (least_with number e x l h (least_tail number e y l least)))
  | inr more ↦ rw (not_lower (number y) (number x) more) (least_cons number e x (y ∷ l) h least)
]

least_merged : {X : Type 0} (number : X → ℕ) (e : X) (es rs : List X) → IsAtLeast number e es → IsAtLeast number e rs → IsAtLeast number e (merged number es rs)
least_merged number e [] rs first second = second
least_merged number e (x ∷ es) rs first second = least_with number e x (merged number es rs) (first 0 x (omega arith)) (least_merged number e es rs (least_tail number e x es first) second)

pub tail_ascends : {X : Type 0} (number : X → ℕ) (x : X) (l : List X) → AreAscending number (x ∷ l) → AreAscending number l
tail_ascends number x l rising i j d h k = rising (suc i) (suc j) d (omega (arith, h)) (omega (arith, k))

pub least_later : {X : Type 0} (number : X → ℕ) (e : X) (l : List X) → AreAscending number (e ∷ l) → IsAtLeast number e l
least_later number e l rising i d h = let more = rising 0 (suc i) d (omega arith) (omega (arith, h)) in omega (arith, more)

pub least_on : {X : Type 0} (number : X → ℕ) (e x : X) (l : List X) → number e ≤ number x → IsAtLeast number x l → IsAtLeast number e l
least_on number e x l h least i d k = let more = least i d k in omega (arith, more, h)

above_both : {X : Type 0} (number : X → ℕ) (x e : X) (es : List X) → number x < number e → AreAscending number (e ∷ es) → IsAbove number x (e ∷ es)
above_both number x e es h rising zero d k = h
above_both number x e es h rising (suc i) d k = let more = least_later number e es rising i d (omega (arith, k)) in omega (arith, h, more)

pub merged_next : {X : Type 0} (number : X → ℕ) (e : X) (es l : List X) → AreAscending number (e ∷ es) → AreAscending number l → merged number (e ∷ es) l ≡ below_of number e l ++ e ∷ merged number es (beyond_of number e l)
merged_next {X} number e es [] first second = at_first number e (merged number es []) (least_merged number e es [] (least_later number e es first) (λ i d h. absurd (omega (arith, h))))
merged_next {X} number e es (x ∷ l) first second = elim (cases_lt (number x) (number e)) [
  | inl less ↦
      rw (is_lower (number x) (number e) less)
      (merged_behind number x (e ∷ es) l (above_both number x e es less first) ∙ ap (λ (k : List X). x ∷ k) (merged_next number e es l first (tail_ascends number x l second)))
  | inr more ↦
      rw (not_lower (number x) (number e) more)
      (at_first number e (merged number es (x ∷ l)) (least_merged number e es (x ∷ l) (least_later number e es first) (least_cons number e x l more (least_on number e x l more (least_later number x l second)))))
]

pub ascends_drop : {X : Type 0} (number : X → ℕ) (l : List X) (n : ℕ) → AreAscending number l → AreAscending number (drop n l)
ascends_drop number l zero rising = rising
ascends_drop number [] (suc n) rising = rising
ascends_drop number (x ∷ l) (suc n) rising = ascends_drop number l n (tail_ascends number x l rising)

pub drop_next : {X : Type 0} (l : List X) (n : ℕ) (d : X) → n < length l → drop n l ≡ get_or l n d ∷ drop (suc n) l
drop_next [] n d h = absurd (omega (arith, h))
drop_next (x ∷ l) zero d h = refl
drop_next (x ∷ l) (suc n) d h = drop_next l n d (omega (arith, h))

pub merged_more : {X : Type 0} (number : X → ℕ) (first second all made more whole : List X) (i place next : ℕ) (e d : X) → i < length first → e ≡ get_or first i d → AreAscending number first → AreAscending number second
    → (all ++ merged number (drop i first) (drop place second)) ≡ whole → made ≡ all ++ below_of number e (drop place second) → drop next second ≡ beyond_of number e (drop place second) → more ≡ made ++ e ∷ []
    → (more ++ merged number (drop (suc i) first) (drop next second)) ≡ whole
merged_more {X} number first second all made more whole i place next e d h is rises also known pushed left added =
    let rest : List X = drop place second in
    let later : List X = merged number (drop (suc i) first) (drop next second) in
    let head : drop i first ≡ e ∷ drop (suc i) first = drop_next first i d h ∙ ap (λ (x : X). x ∷ drop (suc i) first) (sym is) in
    let step : merged number (drop i first) rest ≡ below_of number e rest ++ e ∷ merged number (drop (suc i) first) (beyond_of number e rest) =
    ap (λ (l : List X). merged number l rest) head ∙ merged_next number e (drop (suc i) first) rest (subst (AreAscending number) head (ascends_drop number first i rises)) (ascends_drop number second place also) in
    let back : (below_of number e rest ++ e ∷ later) ≡ merged number (drop i first) rest = ap (λ (l : List X). below_of number e rest ++ e ∷ merged number (drop (suc i) first) l) left ∙ sym step in
    let grown : more ≡ all ++ (below_of number e rest ++ e ∷ []) = added ∙ ap (λ (l : List X). l ++ e ∷ []) pushed ∙ append_assoc all (below_of number e rest) (e ∷ []) in
    ap (λ (l : List X). l ++ later) grown ∙ append_assoc all (below_of number e rest ++ e ∷ []) later ∙ ap (λ (l : List X). all ++ l) (append_assoc (below_of number e rest) (e ∷ []) later ∙ back) ∙ known
