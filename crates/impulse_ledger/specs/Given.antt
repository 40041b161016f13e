-- Sums with which a book may begin.
use Rattle.std.specs.Prelude.{◌≤◌, ◌+ℤ◌, unsigned_abs}
use Rattle.std.specs.Int.{w128, int_wrap}
use Rattle.impulse_ledger.specs.declared.limits.TheConstants.{MAX_TOTAL, MAX_TOTAL_OF_CAUSE}
use Rattle.impulse_ledger.specs.declared.entry.Cause.{Cause}
use Rattle.impulse_ledger.specs.declared.totals.Total.{Total}
use Rattle.impulse_ledger.specs.declared.totals.Totals.{Totals}
use Rattle.impulse_ledger.specs.Totals.{total_in, total_over}

-- the sum over the causes and that of each are in their ranges
pub record AreTotalsWithin (t : Totals) : Type 0 where
  pub x : unsigned_abs (total_over t).x ≤ MAX_TOTAL
  pub y : unsigned_abs (total_over t).y ≤ MAX_TOTAL
  pub causes_x : (cause : Cause) → unsigned_abs (total_in cause t).x ≤ MAX_TOTAL_OF_CAUSE
  pub causes_y : (cause : Cause) → unsigned_abs (total_in cause t).y ≤ MAX_TOTAL_OF_CAUSE

-- the sum of the two, of which 128 bits are kept
abbrev pub wrapped_sum : Total → Total → Total
wrapped_sum a b = record { x = int_wrap w128 (a.x +ℤ b.x); y = int_wrap w128 (a.y +ℤ b.y) }
