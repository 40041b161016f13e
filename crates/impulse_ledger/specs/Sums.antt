-- Trusted: The book, and sums of its entries: over all of them and by cause.
use Rattle.std.specs.Prelude.{◌≡◌, ℕ, ◌≤◌, ◌+ℤ◌, unsigned_abs, List, [], ◌∷◌, Bool, true, false, if◌then◌else◌}
use Rattle.impulse_ledger.specs.declared.limits.TheConstants.{MAX_TOTAL, MAX_TOTAL_OF_CAUSE}
use Rattle.impulse_ledger.specs.declared.entry.Cause.{Cause}
use Rattle.impulse_ledger.specs.declared.entry.Cause.TheVariants.{Command, Gravity, Immovable, Clamp, Rest, Departed}
use Rattle.impulse_ledger.specs.declared.entry.Entry.{Entry}
use Rattle.impulse_ledger.specs.declared.totals.Total.{Total}
use Rattle.impulse_ledger.specs.declared.totals.Totals.{Totals}
use Rattle.impulse_ledger.specs.Totals.{zero_total, sum_of, impulse_of, total_in, total_over}

-- what contracts see: the entries, oldest first; the sums of entries that were settled and dropped; and how many more
-- entries may be added with no memory
pub record Book : Type 0 where
  pub entries : List Entry
  pub settled : Totals
  pub room : ℕ

abbrev pub book_of : List Entry → Totals → ℕ → Book
book_of entries settled room = record { entries = entries; settled = settled; room = room }

-- the sum of the entries
abbrev pub summed : List Entry → Total
summed [] = zero_total
summed (e ∷ es) = sum_of (impulse_of e) (summed es)

abbrev pub is_cause : Cause → Cause → Bool
is_cause Command Command = true
is_cause Gravity Gravity = true
is_cause Immovable Immovable = true
is_cause Clamp Clamp = true
is_cause Rest Rest = true
is_cause Departed Departed = true
is_cause _ _ = false

-- what an impulse adds to the sum of a cause: itself, if that is its own
abbrev pub share : Cause → Cause → Total → Total
share cause own t = if is_cause cause own then t else zero_total

-- the sum of the entries of one cause
abbrev pub summed_of : Cause → List Entry → Total
summed_of cause [] = zero_total
summed_of cause (e ∷ es) = sum_of (share cause e.cause (impulse_of e)) (summed_of cause es)

-- the sum of the entries and of what was settled
abbrev pub total : Book → Total
total b = sum_of (summed b.entries) (total_over b.settled)

-- the same of one cause
abbrev pub total_of : Cause → Book → Total
total_of cause b = sum_of (summed_of cause b.entries) (total_in cause b.settled)

-- the sums of all causes
abbrev pub totals_of : Book → Totals
totals_of b = record {
  command = total_of Command b;
  gravity = total_of Gravity b;
  immovable = total_of Immovable b;
  clamp = total_of Clamp b;
  rest = total_of Rest b;
  departed = total_of Departed b;
}

-- the sums of two books are the same, over all causes and of each
pub record HaveSameTotals (a b : Book) : Type 0 where
  pub all : total a ≡ total b
  pub of_cause : (cause : Cause) → total_of cause a ≡ total_of cause b

-- the sums stay in their ranges with one more entry
pub record Fits (b : Book) (e : Entry) : Type 0 where
  pub x : unsigned_abs ((total b).x +ℤ e.x) ≤ MAX_TOTAL
  pub y : unsigned_abs ((total b).y +ℤ e.y) ≤ MAX_TOTAL
  pub of_cause_x : unsigned_abs ((total_of e.cause b).x +ℤ e.x) ≤ MAX_TOTAL_OF_CAUSE
  pub of_cause_y : unsigned_abs ((total_of e.cause b).y +ℤ e.y) ≤ MAX_TOTAL_OF_CAUSE

-- the sum that is kept is this one, and each component is of this size at most
pub record IsTotal (wanted : Total) (size : ℕ) (t : Total) : Type 0 where
  pub is : t ≡ wanted
  pub x_small : unsigned_abs t.x ≤ size
  pub y_small : unsigned_abs t.y ≤ size

-- the kept sums are those of the book, and in their ranges
pub record IsKept (b : Book) (by_cause : Totals) (all : Total) : Type 0 where
  pub whole : IsTotal (total b) MAX_TOTAL all
  pub each : (cause : Cause) → IsTotal (total_of cause b) MAX_TOTAL_OF_CAUSE (total_in cause by_cause)
