-- Numbers after their sign.
use Rattle.std.proofs.Common.{◌≡◌, ℕ, suc, ◌^◌, ◌<◌, ◌++◌, ◌∷◌, [], List, ℤ, pos, negsuc, neg_ℤ, refl, sym, ap, ◌∙◌, arith, decimal, append_assoc, unsigned_abs}
use Rattle.std.specs.Fmt.{signed_decimal}
use Rattle.serde_json.specs.Written.{compact_text}
use Rattle.loaded_text.specs.Leads.{Leads}
use Rattle.world_file_base.specs.Written.{decimal_of, integer}
use Rattle.loaded_text.proofs.Plain.{escape_signed}
use Rattle.loaded_text.proofs.Unique.{is_no_number, other_first}

pub integer_text : (z : ℤ) → compact_text (integer z) ≡ signed_decimal z
integer_text (pos n) = refl
integer_text (negsuc n) = refl

-- what stands printed after a sign
pub record IsBelowZero (z : ℤ) (middle tail : List ℕ) : Type 0 where
  pub some : 0 < unsigned_abs z
  pub is : neg_ℤ (pos (unsigned_abs z)) ≡ z
  pub digits : middle ≡ decimal (unsigned_abs z) ++ tail

pub below_zero : (z : ℤ) (text middle tail : List ℕ) → unsigned_abs z < 10 ^ 64 → text ≡ 45 ∷ middle → Leads [] (integer z) text tail → IsBelowZero z middle tail
below_zero (pos n) text middle tail few begun is = absurd (is_no_number n text tail few (other_first 45 text middle begun refl) is)
below_zero (negsuc n) text middle tail few begun is =
    let same : 45 ∷ middle ≡ 45 ∷ (decimal (suc n) ++ tail) = sym begun ∙ is in
    record { some = omega arith; is = refl; digits = cc }

-- a number as a text
pub quoted_number : (z : ℤ) (tail : List ℕ) → unsigned_abs z < 10 ^ 64 → compact_text (decimal_of z) ++ tail ≡ 34 ∷ (signed_decimal z ++ (34 ∷ tail))
quoted_number z tail few =
    ap (λ (u : List ℕ). 34 ∷ ((u ++ (34 ∷ [])) ++ tail)) (escape_signed z few) ∙ ap (λ l. 34 ∷ l) (append_assoc (signed_decimal z) (34 ∷ []) tail)
