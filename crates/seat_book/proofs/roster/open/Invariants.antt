use Rattle.std.proofs.Common.{◌≡◌, []}
use Rattle.seat_book.specs.Rules.{keeping, idle}
use Rattle.seat_book.specs.Seats.{newcomers}
use Rattle.seat_book.proofs.roster.open.Given as goal

abbrev pub invariant-loop-number : goal.invariant-loop-number
invariant-loop-number g l = (l.desk.table_id ≡ l.initial.desk.table_id) × (l.desk.me ≡ (keeping (idle [] l.number), [])) × (l.passes.items ≡ newcomers l.number)
