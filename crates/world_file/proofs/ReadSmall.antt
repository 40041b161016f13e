-- The totals of a world that is read are small.
use Rattle.std.proofs.Common.{◌^◌, ◌≤◌, ℤ, pos, ◌+ℤ◌, unsigned_abs, subst}
use Rattle.impulse_ledger.specs.Totals.{total_in}
use Rattle.impulse_ledger.specs.declared.totals.Totals.{Totals}
use Rattle.plain_world.specs.Plain.{Plain}
use Rattle.world_file.specs.Files.{plain_of}
use Rattle.world_file.specs.Saved.{Saved, saved_in}
use Rattle.world_rules.specs.Settled.{settled_world}
use Rattle.world_file.specs.Laws.{HasSmallTotals, WhatIsReadHasSmallTotals}
use Rattle.world_file.proofs.ReadParts.{HasParts}
use Rattle.world_file.proofs.ReadSound.{has_read, plus_none}

small_total : (z : ℤ) → unsigned_abs z ≤ 2 ^ 126 → unsigned_abs (pos 0 +ℤ z) ≤ 2 ^ 126
small_total z h = subst (λ (v : ℤ). unsigned_abs v ≤ 2 ^ 126) (plus_none z) h

small_totals : (s : Saved) → HasParts s → HasSmallTotals (settled_world (plain_of s) s.totals)
small_totals s h = record {
  x = λ cause. small_total (total_in cause s.totals).x (h.totals cause).x;
  y = λ cause. small_total (total_in cause s.totals).y (h.totals cause).y;
}

pub what_is_read_has_small_totals : WhatIsReadHasSmallTotals
what_is_read_has_small_totals d p t e =
    let o = has_read d p t e in
    subst (λ (x : Totals). HasSmallTotals (settled_world p x)) o.totals
    (subst (λ (x : Plain). HasSmallTotals (settled_world x (saved_in d).totals)) o.plain (small_totals (saved_in d) o.parts))
