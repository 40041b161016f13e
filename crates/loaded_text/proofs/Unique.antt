-- The digits at the front of a text, up to the first byte that is none, are those of one number.
use Rattle.std.proofs.Common.{◌≡◌, ℕ, ◌+◌, ◌*◌, ◌%◌, ◌^◌, ◌<◌, ◌≤◌, ◌++◌, ◌∷◌, [], List, zero, suc, ◌⊎◌, inl, inr, ⊎_elim, false, true, true≢false, refl, sym, ap, subst, ◌∙◌, arith, length, length-append, get_or, decimal}
use Rattle.std.proofs.lemmas.Fmt.{decimal_by_steps_wide, decimal_digit, decimal_is_IsNumeral_wide}
use Rattle.std.proofs.lemmas.Str.Parse.{digit_from_value}
use Rattle.std.specs.Char.{digit_value, is_ascii_digit}
use Rattle.std.specs.Str.Parse.{AllDigits, digits_value, digits_value_after}
use borrow.Author.Tests.{le-leb}
use lib.ListN.{get_or-append}
use Rattle.loaded_text.specs.Leads.{StartsWithNoDigit}

-- ---- one byte

no_digit : (c : ℕ) → is_ascii_digit c ≡ false → digit_value c < 10 → ⊥
no_digit c test value =
    let r = digit_from_value c value in
    true≢false (rw (le-leb 48 c r.0, le-leb c 57 r.1) at test)

pub other_first : (byte : ℕ) (text rest : List ℕ) → text ≡ byte ∷ rest → is_ascii_digit byte ≡ false → StartsWithNoDigit text
other_first byte text rest is test = subst StartsWithNoDigit (sym is) test

-- ---- digits

le_value_after : (k : ℕ) (ds : List ℕ) → k ≤ digits_value_after 10 k ds
le_value_after k [] = omega arith
le_value_after k (c ∷ cs) = omega (arith, le_value_after (k * 10 + digit_value c) cs)

-- the two numbers and what stands after them are the same, or the other number goes on with the digit that stands after
-- the first
abbrev IsReached : ℕ → ℕ → List ℕ → List ℕ → Type 0
IsReached m n t u = ((n ≡ m) × (t ≡ u)) ⊎ ((m * 10 ≤ n) × (StartsWithNoDigit t → ⊥))

digits_reached : (k : ℕ) (a b t u : List ℕ) → AllDigits 10 a → AllDigits 10 b → StartsWithNoDigit u → a ++ t ≡ b ++ u → IsReached (digits_value_after 10 k a) (digits_value_after 10 k b) t u
digits_reached k [] [] t u first second ends is = inl (refl, is)
digits_reached k [] (y ∷ b) t u first second ends is =
    inr (omega (arith, le_value_after (k * 10 + digit_value y) b), λ none. no_digit y (subst StartsWithNoDigit is none) second.0)
digits_reached k (x ∷ a) [] t u first second ends is = absurd (no_digit x (subst StartsWithNoDigit (sym is) ends) first.0)
digits_reached k (x ∷ a) (y ∷ b) t u first second ends is =
    let head : x ≡ y = cc in
    let rest : a ++ t ≡ b ++ u = cc in
    subst (λ (c : ℕ). IsReached (digits_value_after 10 (k * 10 + digit_value x) a) (digits_value_after 10 (k * 10 + digit_value c) b) t u) head
    (digits_reached (k * 10 + digit_value x) a b t u first.1 second.1 ends rest)

module _ (m n : ℕ) (t u : List ℕ) (few : m < 10 ^ 64) (low : n < 10 ^ 64) (ends : StartsWithNoDigit u) (is : decimal m ++ t ≡ decimal n ++ u) where
  reached : IsReached m n t u
  reached =
      let first = decimal_is_IsNumeral_wide m few in
      let second = decimal_is_IsNumeral_wide n low in
      subst (λ (k : ℕ). IsReached m k t u) second.1
      (subst (λ (k : ℕ). IsReached k (digits_value 10 (decimal n)) t u) first.1 (digits_reached 0 (decimal m) (decimal n) t u first.0.1 second.0.1 ends is))

  -- digits at the front are those of no greater number
  pub no_less : m ≤ n
  no_less = ⊎_elim (λ same. omega (arith, same.0)) (λ more. omega (arith, more.0)) reached

  -- and with no digit after them they are the number's
  pub same_number : StartsWithNoDigit t → (n ≡ m) × (t ≡ u)
  same_number none = ⊎_elim (λ same. same) (λ more. absurd (more.1 none)) reached

-- ---- the first digit

first_high : (n : ℕ) → n < 10 ^ 64 → (0 < length (decimal n)) × (0 < n → 48 < get_or (decimal n) 0 0)
first_high n few =
    decimal_by_steps_wide (λ m ds. (0 < length ds) × (0 < m → 48 < get_or ds 0 0)) (λ m l. (omega arith, λ a. omega arith))
    (λ m ds l h. (omega (arith, length-append ds ((48 + m % 10) ∷ [])), λ a. omega (arith, get_or-append ds ((48 + m % 10) ∷ []) 0 0 h.0, h.1 (omega arith)))) n few

-- a zero stands before no other digit
pub zero_alone : (n : ℕ) (t u : List ℕ) → n < 10 ^ 64 → 48 ∷ t ≡ decimal n ++ u → (n ≡ 0) × (t ≡ u)
zero_alone n t u few is =
    let first = first_high n few in
    let head : get_or (decimal n ++ u) 0 0 ≡ 48 = ap (λ l. get_or l 0 0) (sym is) in
    let zero : n ≡ 0 = ⊎_elim (λ e. e) (λ some. absurd (omega (arith, first.1 some, head, get_or-append (decimal n) u 0 0 first.0))) (zero_or n) in
    let same : 48 ∷ t ≡ 48 ∷ u = is ∙ ap (λ (k : ℕ). decimal k ++ u) zero ∙ ap (λ l. l ++ u) (decimal_digit 0 (omega arith)) in
    (zero, cc)
  where
    zero_or : (k : ℕ) → (k ≡ 0) ⊎ (0 < k)
    zero_or zero = inl refl
    zero_or (suc k) = inr (omega arith)

digits_first : (ds text tail : List ℕ) → 0 < length ds → AllDigits 10 ds → StartsWithNoDigit text → text ≡ ds ++ tail → ⊥
digits_first [] text tail some digits none is = omega arith
digits_first (x ∷ xs) text tail some digits none is = no_digit x (subst StartsWithNoDigit is none) digits.0

-- a number begins with a digit
pub is_no_number : (n : ℕ) (text tail : List ℕ) → n < 10 ^ 64 → StartsWithNoDigit text → text ≡ decimal n ++ tail → ⊥
is_no_number n text tail few none is = let k = decimal_is_IsNumeral_wide n few in digits_first (decimal n) text tail k.0.0 k.0.1 none is
