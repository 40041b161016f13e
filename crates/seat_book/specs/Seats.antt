-- Trusted: The seats of a roster.
use Rattle.std.specs.Prelude.{ℕ, zero, suc, ◌&&◌, cond, nat_le, List, [], ◌∷◌, ◌++◌, Option, Some, None}
use Rattle.atomic_table.specs.Seated.{TableId}
use Rattle.fixed_geom.specs.declared.refusal.Refusal.{Refusal}
use Rattle.fixed_geom.specs.declared.refusal.Refusal.TheVariants.{OutOfRange}
use Rattle.seat_book.specs.declared.roster.TheConstants.{MAX_SEATS}
use Rattle.seat_book.specs.declared.rule.Known.{Known}
use Rattle.seat_book.specs.History.{known}

-- a roster that isn't open yet: the table of its book, and how many seats it has
pub record Seating : Type 0 where
  pub table : TableId
  pub seats : ℕ

-- why there is no roster of so many seats
abbrev pub seats_refusal : ℕ → Option Refusal
seats_refusal seats = cond (nat_le 1 seats && nat_le seats MAX_SEATS) None (Some OutOfRange)

-- so many seats, counted from 0, each of which has seen nothing
abbrev pub newcomers : {C R : Type 0} → ℕ → List (Known C R)
newcomers zero = []
newcomers (suc n) = newcomers n ++ known n [] ∷ []

-- the table of no roster
abbrev pub no_table : TableId
no_table = record { words = 0; slots = 0; views_name = 0; atom = 0; block = 0; offset = 0; slot_names = [] }
