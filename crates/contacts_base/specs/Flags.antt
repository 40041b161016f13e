-- Flags by place, and how many of them are set.
use Rattle.std.specs.Prelude.{◌≡◌, ℕ, Bool, false, List, All}

-- where no flag is counted none is set
abbrev pub IsCounted : ℕ → List Bool → Type 0
IsCounted count flags = count ≡ 0 → All (λ flag. flag ≡ false) flags
