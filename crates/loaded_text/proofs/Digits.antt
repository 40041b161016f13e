-- Digits one after another.
use Rattle.std.proofs.Common.{◌≡◌, ℕ, ◌+◌, ◌*◌, ◌/◌, ◌%◌, ◌^◌, ◌<◌, ◌++◌, ◌∷◌, [], List, sym, ap, ap₂, ◌∙◌, arith, append_assoc, decimal}
use Rattle.std.proofs.lemmas.Fmt.{decimal_digit, decimal_step_wide}

pub first_digit : (d : ℕ) (text rest : List ℕ) → d < 10 → text ≡ (48 + d) ∷ rest → text ≡ decimal d ++ rest
first_digit d text rest small is = is ∙ ap (λ l. l ++ rest) (sym (decimal_digit d small))

pub next_digit : (n d : ℕ) (all text rest : List ℕ) → 0 < n → d < 10 → n * 10 + d < 10 ^ 64 → all ≡ decimal n ++ text → text ≡ (48 + d) ∷ rest → all ≡ decimal (n * 10 + d) ++ rest
next_digit n d all text rest some small few before is =
    let front : (n * 10 + d) / 10 ≡ n = omega (arith, small) in
    let last : (n * 10 + d) % 10 ≡ d = omega (arith, small) in
    let step : decimal (n * 10 + d) ≡ decimal n ++ ((48 + d) ∷ []) = decimal_step_wide (n * 10 + d) (omega (arith, some)) few ∙ ap₂ (λ a b. decimal a ++ ((48 + b) ∷ [])) front last in
    before ∙ ap (λ l. decimal n ++ l) is ∙ sym (append_assoc (decimal n) ((48 + d) ∷ []) rest) ∙ ap (λ l. l ++ rest) (sym step)
