-- The totals of a world's ledger.
use Rattle.std.proofs.Common.{◌≡◌, List, ap₂}
use Rattle.impulse_ledger.specs.Sums.{Book, totals_of}
use Rattle.impulse_ledger.specs.declared.entry.Entry.{Entry}
use Rattle.impulse_ledger.specs.declared.totals.Totals.{Totals}
use Rattle.world_rules.specs.World.{World, book_of}

-- they are told by the entries and by what was settled
pub same_totals : (b : Book) (w : World) → b.entries ≡ w.entries → b.settled ≡ w.settled → totals_of b ≡ totals_of (book_of w)
same_totals b w entries settled = ap₂ (λ (es : List Entry) (t : Totals). totals_of (record { entries = es; settled = t; room = 0 })) entries settled
