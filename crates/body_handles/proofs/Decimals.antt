-- Decimal texts without a sign and a leading zero.
use Rattle.std.proofs.Common.{◌≡◌, ◌≢◌, ℕ, ◌<◌, ◌^◌, List, Option, Result, Ok, Err, IfSome, Bor, inl, inr, length, get_or, sym, ap, ◌∙◌, arith}
use Rattle.std.specs.Fmt.{decimal}
use Rattle.std.specs.Option.{MatchOption}
use Rattle.std.specs.Result.{result_ok}
use Rattle.std.specs.Str.Parse.{AllDigits, digits_value, ParsesUnsigned}
use Rattle.std.proofs.lemmas.Fmt.{decimal-digits_value, decimal_digit, decimal_nonempty, digits_decimal, first_decimal}
use Rattle.std.proofs.lemmas.Bool.{cases_lt}
use Rattle.std.proofs.lemmas.Str.Pattern.{IsSplitOnceResult, split_after}
use Rattle.std.proofs.lemmas.Str.Parse.{IsNumeralModel, numerals_by_value, tells_digits, parse_plain, not_in_digits}
use Rattle.body_handles.specs.declared.handle.Handle.{Handle}
use Rattle.body_handles.specs.IdTexts.{IsPadded, id_text, point}

own : IsNumeralModel (AllDigits 10) (digits_value 10)
own = numerals_by_value (AllDigits 10) tells_digits

-- what is read without a sign and a leading zero is what is written of the number
pub read_is_written : {E : Type 0} (bs : List ℕ) (r : Result ℕ E) → ParsesUnsigned 32 10 bs r → ¬ IsPadded bs → IfSome (result_ok r) (λ n. bs ≡ decimal n)
read_is_written {E} bs (Err e) parses plain = tt
read_is_written {E} bs (Ok n) parses plain =
    let unsigned : get_or bs 0 0 ≢ 43 = λ e. plain (inl e) in
    let read : (AllDigits 10 bs × (0 < length bs) × (digits_value 10 bs < 2 ^ 32)) × (n ≡ digits_value 10 bs) = parse_plain own {E = E} 32 bs (Ok n) parses unsigned in
    let some : 0 < length bs = read.0.1 in
    let lead : get_or bs 0 0 ≡ 48 → length bs ≡ 1 = λ e. elim (cases_lt 1 (length bs)) [
      | inl h ↦ absurd (plain (inr (e, h)))
      | inr h ↦ omega (arith, some)
    ] in
    let small : digits_value 10 bs < 2 ^ 64 = omega (arith, read.0.2) in
    sym (decimal-digits_value own bs read.0.0 some lead small) ∙ ap decimal (sym read.1)

-- what is written has no byte but digits
no_other_byte : (n byte : ℕ) → n < 2 ^ 32 → byte < 48 → (k : ℕ) → k < length (decimal n) → get_or (decimal n) k 0 ≢ byte
no_other_byte n byte small other = not_in_digits own (decimal n) byte (digits_decimal own n (omega arith)) (λ within. omega arith)

-- what is written of a number isn't padded
pub written_is_plain : (bs : List ℕ) (n : ℕ) → n < 2 ^ 32 → bs ≡ decimal n → ¬ IsPadded bs
written_is_plain bs n small is (inl sign) =
    no_other_byte n 43 small (omega arith) 0 (decimal_nonempty n (omega arith)) (ap (λ ds. get_or ds 0 0) (sym is) ∙ sign)
written_is_plain bs n small is (inr (zero, long)) = elim (cases_lt 0 n) [
  | inl more ↦ let first = first_decimal n more (omega arith) in
      let same : get_or (decimal n) 0 0 ≡ 48 = ap (λ ds. get_or ds 0 0) (sym is) ∙ zero in omega arith
  | inr none ↦ let one : length (decimal n) ≡ 1 = ap length (decimal_digit n (omega arith)) in
      let same : length bs ≡ length (decimal n) = ap length is in omega arith
]

-- where a text is an id, its first point parts the slot from the generation
pub id_parts : (bs : List ℕ) (handle : Handle) (r : Option (Bor (List ℕ) × Bor (List ℕ))) → IsSplitOnceResult point bs r → handle.slot < 2 ^ 32 → bs ≡ id_text handle
    → MatchOption r ⊥ (λ x. (x.0.now ≡ decimal handle.slot) × (x.1.now ≡ decimal handle.generation))
id_parts bs handle r split small is = split_after point bs (decimal handle.slot) (decimal handle.generation) r split (omega arith) is (no_other_byte handle.slot point small (omega arith))
