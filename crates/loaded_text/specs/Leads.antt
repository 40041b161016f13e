-- A value that stands printed at the front of a text.
use Rattle.std.specs.Prelude.{◌≡◌, ℕ, ◌<◌, ◌^◌, ◌++◌, ◌==◌, ⊤, Bool, false, List, [], ◌∷◌, Option, Some, None, ℤ, unsigned_abs}
use Rattle.std.specs.Char.{is_ascii_digit}
use Rattle.serde_json.specs.Data.{Data}
use Rattle.serde_json.specs.Written.{compact_text}

-- these bytes stand first, then a value printed with no space, and then the rest
abbrev pub Leads : List ℕ → Data → List ℕ → List ℕ → Type 0
Leads lead d text rest = text ≡ lead ++ (compact_text d ++ rest)

-- no digit stands first
abbrev pub StartsWithNoDigit : List ℕ → Type 0
StartsWithNoDigit [] = ⊤
StartsWithNoDigit (byte ∷ rest) = is_ascii_digit byte ≡ false

-- the end of a list doesn't stand first
abbrev pub StartsWithNoEnd : List ℕ → Type 0
StartsWithNoEnd [] = ⊤
StartsWithNoEnd (byte ∷ rest) = (byte == 93) ≡ false

-- each value in range that stands printed after the lead, with no digit after it, is answered, and what comes after it
-- is left
abbrev pub Reads : {A : Type 0} → (A → Data) → (A → Type 0) → List ℕ → List ℕ → Option A → List ℕ → Type 0
Reads {A} print InRange lead text result rest = (value : A) (tail : List ℕ) → InRange value → StartsWithNoDigit tail → Leads lead (print value) text tail → (result ≡ Some value) × (rest ≡ tail)

-- ---- ranges

-- 64 bits hold it without a sign
abbrev pub IsUnsigned : ℕ → Type 0
IsUnsigned n = n < 2 ^ 64

-- none, or 64 bits hold it without a sign
abbrev pub IsUnsignedIfAny : Option ℕ → Type 0
IsUnsignedIfAny None = ⊤
IsUnsignedIfAny (Some n) = n < 2 ^ 64

-- 64 bits hold it with a sign
abbrev pub IsSigned : ℤ → Type 0
IsSigned z = unsigned_abs z < 2 ^ 63

-- 127 bits hold it
abbrev pub IsWideUnsigned : ℕ → Type 0
IsWideUnsigned n = n < 2 ^ 127

-- 127 bits hold its size
abbrev pub IsWide : ℤ → Type 0
IsWide z = unsigned_abs z < 2 ^ 127

-- each truth
abbrev pub IsAny : Bool → Type 0
IsAny holds = ⊤
