-- Trusted: The numbers that calls answer.
use Rattle.std.specs.Prelude.{ℕ}
use Rattle.fixed_geom.specs.Refusals.{number_of}
use Rattle.fixed_geom.specs.declared.refusal.Refusal.{Refusal}
use Rattle.dillmonth.specs.declared.statuses.TheConstants.{BAD_TEXT}
use Rattle.dillmonth.specs.declared.statuses.UnreadStatus.{UnreadStatus}
use Rattle.world_file_base.specs.Asks.{clause_number}
use Rattle.world_file_base.specs.declared.clause.Broken.TheVariants as broken
use Rattle.world_desk.specs.declared.unread.Unread.{Unread}
use Rattle.world_desk.specs.declared.unread.Unread.TheVariants as unread

abbrev pub status_of : Refusal → ℕ
status_of refusal = number_of refusal

-- why a text was not loaded, and the number of the clause that is broken
abbrev pub unread_status : Unread → UnreadStatus
unread_status unread.NoText = record { status = BAD_TEXT; clause = 0 }
unread_status (unread.Broken broken.NoMemory) = record { status = 1; clause = 0 }
unread_status (unread.Broken (broken.Clause clause)) = record { status = 12; clause = clause_number clause }
