-- What is parsed is the number that a text is.
use Rattle.std.proofs.Common.{◌≡◌, ℕ, ◌<◌, ◌≤◌, ◌^◌, ◌∷◌, ◌&&◌, ◌==◌, Bool, true, false, not, cond, nat_lt, nat_le, List, [], length, drop, Some, None, option_and_then, Result, Ok, Err, ℤ, unsigned_abs, refl, sym, ap, ◌∙◌, arith, subst, FitsSigned}
use Rattle.std.specs.List.{list_all}
use Rattle.std.specs.Result.{result_ok}
use Rattle.std.specs.Char.{digit_value}
use Rattle.std.specs.Str.Parse.{AllDigits, IsNumeral, ParsesSigned, signed_digits_value, starts_with_minus, without_leading_sign, without_leading_plus}
use Rattle.std.proofs.lemmas.Bool.Decides.{nat_tests}
use Rattle.std.proofs.lemmas.Int.{fits_signed_from_abs}
use Rattle.std.proofs.lemmas.Str.{digit_value_digit}
use Rattle.std.specs.Int.{w128}
use Rattle.world_file_base.specs.Texts.{digits_of, is_decimal, is_digit, is_natural, number_of_text, sized}

and_first : (a b : Bool) → a && b ≡ true → a ≡ true
and_first true b e = refl
and_first false b e = cc

and_second : (a b : Bool) → a && b ≡ true → b ≡ true
and_second true b e = e
and_second false b e = cc

and_true : (a : Bool) → a && true ≡ a
and_true true = refl
and_true false = refl

-- ---- a text without a minus

no_minus : (text : List ℕ) → ((rest : List ℕ) → text ≡ 45 ∷ rest → ⊥) → starts_with_minus text ≡ false
no_minus [] other = refl
no_minus (byte ∷ text) other =
    let apart : byte ≡ 45 → ⊥ = λ e. other text (ap (λ b. b ∷ text) e) in
    grind (arith, nat_tests)

plain_at : (text : List ℕ) (minus : Bool) (zero_after : Bool) → minus ≡ false → is_natural (cond minus (drop 1 text) text) && not (minus && zero_after) ≡ is_natural text
plain_at text true zero_after e = cc
plain_at text false zero_after e = and_true (is_natural text)

-- ---- what is read is a numeral

digit_small : (byte : ℕ) → is_digit byte ≡ true → digit_value byte < 10
digit_small byte e =
    let low : 48 ≤ byte = grind (arith, nat_tests) in
    let high : byte ≤ 57 = grind (arith, nat_tests) in
    let is = digit_value_digit byte (low, high) in
    omega (arith, is)

all_digits : (digits : List ℕ) → list_all is_digit digits ≡ true → AllDigits 10 digits
all_digits [] e = tt
all_digits (d ∷ ds) e = (digit_small d (and_first (is_digit d) (list_all is_digit ds) e), all_digits ds (and_second (is_digit d) (list_all is_digit ds) e))

numeral : (digits : List ℕ) → is_natural digits ≡ true → IsNumeral 10 digits
numeral digits e =
    let long : nat_lt 0 (length digits) ≡ true = and_first (nat_lt 0 (length digits)) _ e in
    let rest = and_second (nat_lt 0 (length digits)) _ e in
    let some : 0 < length digits = grind (arith, nat_tests) in
    (some, all_digits digits (and_first (list_all is_digit digits) _ rest))

-- digits don't begin with a plus
no_plus : (digits : List ℕ) → is_natural digits ≡ true → without_leading_plus digits ≡ digits
no_plus [] e = refl
no_plus (d ∷ ds) e =
    let digit : is_digit d ≡ true = and_first (is_digit d) (list_all is_digit ds) (and_first (list_all is_digit (d ∷ ds)) _ (and_second (nat_lt 0 (length (d ∷ ds))) _ e)) in
    let low : 48 ≤ d = grind (arith, nat_tests) in
    let other : (d == 43) ≡ false = grind (arith, nat_tests) in
    rw other refl

numeral_at : (text : List ℕ) (minus : Bool) → is_natural (cond minus (drop 1 text) text) ≡ true → IsNumeral 10 (cond minus (drop 1 text) (without_leading_plus text))
numeral_at text true e = numeral (drop 1 text) e
numeral_at text false e = rw (no_plus text e) (numeral text e)

decimal_numeral : (text : List ℕ) → is_decimal text ≡ true → IsNumeral 10 (without_leading_sign text)
decimal_numeral text e = numeral_at text (starts_with_minus text) (and_first (is_natural (digits_of text)) _ e)

-- ---- what is parsed

beyond : (most : ℕ) (z : ℤ) (small : Bool) → most < 2 ^ 127 → nat_le (unsigned_abs z) most ≡ small → (unsigned_abs z < 2 ^ 127 → ⊥) → None ≡ cond small (Some z) None
beyond most z true room e other = let within : unsigned_abs z ≤ most = grind (arith, nat_tests) in absurd (other (omega arith))
beyond most z false room e other = refl

read_at : {E : Type 0} (most : ℕ) (text : List ℕ) (r : Result ℤ E) → most < 2 ^ 127 → IsNumeral 10 (without_leading_sign text) → ParsesSigned w128 10 text r
    → option_and_then (sized most) (result_ok r) ≡ sized most (signed_digits_value 10 text)
read_at most text (Ok n) room is parses = ap (sized most) parses.1
read_at most text (Err e) room is parses =
    beyond most (signed_digits_value 10 text) _ room refl (λ small. parses (is, fits_signed_from_abs w128 (signed_digits_value 10 text) small))

decided : (text : List ℕ) (t : Bool) (z : ℤ) → is_decimal text ≡ t → cond (is_decimal text) (Some z) None ≡ cond t (Some z) None
decided text t z e = ap (λ b. cond b (Some z) None) e

-- a text that is no number
pub no_number : (text : List ℕ) → is_decimal text ≡ false → number_of_text text ≡ None
unfolding number_of_text
no_number text e = decided text false (signed_digits_value 10 text) e

-- a text that is one
pub number_parsed : {E : Type 0} (most : ℕ) (text : List ℕ) (r : Result ℤ E) → most < 2 ^ 127 → is_decimal text ≡ true → ParsesSigned w128 10 text r
    → option_and_then (sized most) (result_ok r) ≡ option_and_then (sized most) (number_of_text text)
unfolding number_of_text
number_parsed most text r room e parses =
    read_at most text r room (decimal_numeral text e) parses ∙ ap (option_and_then (sized most)) (sym (decided text true (signed_digits_value 10 text) e))

pub plain_decimal : (text : List ℕ) → ((rest : List ℕ) → text ≡ 45 ∷ rest → ⊥) → is_decimal text ≡ is_natural text
plain_decimal text other = plain_at text (starts_with_minus text) _ (no_minus text other)

-- a number that was parsed has 128 bits
pub parsed_fits : {E : Type 0} (text : List ℕ) (r : Result ℤ E) (n : ℤ) → r ≡ Ok n → ParsesSigned w128 10 text r → FitsSigned w128 n
parsed_fits text (Ok m) n e parses = let is : m ≡ n = cc in subst (FitsSigned w128) (sym parses.1 ∙ is) parses.0.1
parsed_fits text (Err other) n e parses = cc
