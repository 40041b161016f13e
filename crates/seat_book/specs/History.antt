-- Trusted: The history of the calls that were accepted, and what a seat has seen of it.
use Rattle.std.specs.Prelude.{◌≡◌, ◌≢◌, ℕ, List, ◌++◌, All}
use Rattle.seat_book.specs.declared.call.Call.{Call}
use Rattle.seat_book.specs.declared.call.Entry.{Entry}
use Rattle.seat_book.specs.declared.rule.Known.{Known}

module _ {C R : Type 0} where
  abbrev pub entry : ℕ → Call C R → Entry C R
  entry seat call = record { seat = seat; call = call }

  abbrev pub known : ℕ → List (Entry C R) → Known C R
  known seat seen = record { seat = seat; seen = seen }

  -- made by another seat
  abbrev pub IsOther : ℕ → Entry C R → Type 0
  IsOther seat e = e.seat ≢ seat

  -- the history is what the seat has seen, followed by calls of other seats alone
  abbrev pub IsPast : ℕ → List (Entry C R) → List (Entry C R) → Type 0
  IsPast seat seen history = (since : List (Entry C R)) × (history ≡ seen ++ since) × All (IsOther seat) since
