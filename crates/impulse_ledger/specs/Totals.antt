-- Trusted: Sums of impulses for each cause.
use Rattle.std.specs.Prelude.{pos, ◌+ℤ◌}
use Rattle.impulse_ledger.specs.declared.entry.Cause.{Cause}
use Rattle.impulse_ledger.specs.declared.entry.Cause.TheVariants.{Command, Gravity, Immovable, Clamp, Rest, Departed}
use Rattle.impulse_ledger.specs.declared.entry.Entry.{Entry}
use Rattle.impulse_ledger.specs.declared.totals.Total.{Total}
use Rattle.impulse_ledger.specs.declared.totals.Totals.{Totals}

abbrev pub zero_total : Total
zero_total = record { x = pos 0; y = pos 0 }

abbrev pub zero_totals : Totals
zero_totals = record {
  command = zero_total;
  gravity = zero_total;
  immovable = zero_total;
  clamp = zero_total;
  rest = zero_total;
  departed = zero_total;
}

abbrev pub sum_of : Total → Total → Total
sum_of a b = record { x = a.x +ℤ b.x; y = a.y +ℤ b.y }

-- what an entry adds to a sum
abbrev pub impulse_of : Entry → Total
impulse_of e = record { x = e.x; y = e.y }

-- the sum of one cause
abbrev pub total_in : Cause → Totals → Total
total_in Command t = t.command
total_in Gravity t = t.gravity
total_in Immovable t = t.immovable
total_in Clamp t = t.clamp
total_in Rest t = t.rest
total_in Departed t = t.departed

-- another sum in the place of a cause's
abbrev pub put_total : Totals → Cause → Total → Totals
put_total t Command total = record t { command = total }
put_total t Gravity total = record t { gravity = total }
put_total t Immovable total = record t { immovable = total }
put_total t Clamp total = record t { clamp = total }
put_total t Rest total = record t { rest = total }
put_total t Departed total = record t { departed = total }

-- the sum over the six causes
abbrev pub over_causes : (Cause → Total) → Total
over_causes f = sum_of (sum_of (sum_of (sum_of (sum_of (f Command) (f Gravity)) (f Immovable)) (f Clamp)) (f Rest)) (f Departed)

abbrev pub total_over : Totals → Total
total_over t = over_causes (λ cause. total_in cause t)
