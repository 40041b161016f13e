-- Digits have no escapes.
use Rattle.std.proofs.Common.{◌≡◌, ℕ, ◌+◌, ◌%◌, ◌^◌, ◌<◌, ◌≤◌, ◌++◌, ◌∷◌, [], List, ℤ, pos, negsuc, suc, sym, ap, ap₂, ◌∙◌, arith, append-nil, append_assoc, decimal, unsigned_abs}
use Rattle.std.proofs.lemmas.Fmt.{decimal_by_steps_wide}
use Rattle.std.proofs.lemmas.Grind.{flat_map-append}
use Rattle.std.specs.Fmt.{signed_decimal}
use Rattle.json.specs.Print.{escape, escape_byte}
use Rattle.serde_json.specs.Data.{string}
use Rattle.loaded_text.specs.Leads.{Leads}
use Rattle.json.proofs.Printed.Strings.{escape_byte_plain}

pub escape_plain : (x : ℕ) → (x ≡ 34 → ⊥) → (x ≡ 92 → ⊥) → 32 ≤ x → escape (x ∷ []) ≡ x ∷ []
escape_plain x quote slash high = append-nil (escape_byte x) ∙ escape_byte_plain x quote slash high

pub escape_both : (a b : List ℕ) → escape a ≡ a → escape b ≡ b → escape (a ++ b) ≡ a ++ b
escape_both a b first second = flat_map-append escape_byte a b ∙ ap₂ (λ x y. x ++ y) first second

escape_digit : (n : ℕ) → n < 10 → escape ((48 + n) ∷ []) ≡ (48 + n) ∷ []
escape_digit n small = escape_plain (48 + n) (λ e. omega (arith, e, small)) (λ e. omega (arith, e, small)) (omega arith)

pub escape_decimal : (n : ℕ) → n < 10 ^ 64 → escape (decimal n) ≡ decimal n
escape_decimal n few =
    decimal_by_steps_wide (λ n ds. escape ds ≡ ds) escape_digit
    (λ n ds high is. escape_both ds ((48 + n % 10) ∷ []) is (escape_digit (n % 10) (omega arith))) n few

pub escape_signed : (z : ℤ) → unsigned_abs z < 10 ^ 64 → escape (signed_decimal z) ≡ signed_decimal z
escape_signed (pos n) few = escape_decimal n few
escape_signed (negsuc n) few = escape_both (45 ∷ []) (decimal (suc n)) (escape_plain 45 (λ e. omega (arith, e)) (λ e. omega (arith, e)) (omega arith)) (escape_decimal (suc n) few)

-- a text between quotes
pub quoted_stands : (lead t a b c d e : List ℕ) → escape t ≡ t → a ≡ lead ++ b → b ≡ 34 ∷ c → c ≡ t ++ d → d ≡ 34 ∷ e → Leads lead (string t) a e
quoted_stands lead t a b c d e plain before begun inner close =
    before ∙ ap (λ l. lead ++ l)
    (begun ∙ ap (λ l. 34 ∷ l) (inner ∙ ap (λ l. t ++ l) close ∙ sym (append_assoc t (34 ∷ []) e) ∙ ap (λ u. (u ++ (34 ∷ [])) ++ e) (sym plain)))
