-- Totals within their limits.
use Rattle.std.specs.Prelude.{◌≤◌, unsigned_abs}
use Rattle.impulse_ledger.specs.declared.limits.TheConstants.{MAX_TOTAL}
use Rattle.impulse_ledger.specs.declared.totals.Total.{Total}
use Rattle.impulse_ledger.specs.declared.totals.Totals.{Totals}

pub record IsSmall (t : Total) : Type 0 where
  pub x : unsigned_abs t.x ≤ MAX_TOTAL
  pub y : unsigned_abs t.y ≤ MAX_TOTAL

pub record AreSmall (t : Totals) : Type 0 where
  pub command : IsSmall t.command
  pub gravity : IsSmall t.gravity
  pub immovable : IsSmall t.immovable
  pub clamp : IsSmall t.clamp
  pub rest : IsSmall t.rest
  pub departed : IsSmall t.departed
