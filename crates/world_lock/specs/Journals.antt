-- Trusted: The journal of a world, and whose replay the world is.
use Rattle.std.specs.Prelude.{◌≡◌, ℕ, ◌≤◌, List, [], ◌∷◌, ◌++◌, Result, Ok, Err, length, map, take}
use Rattle.fixed_geom.specs.declared.refusal.Refusal.{Refusal}
use Rattle.impulse_ledger.specs.declared.entry.Cause.{Cause}
use Rattle.impulse_ledger.specs.declared.entry.Entry as ledger
use Rattle.impulse_ledger.specs.declared.totals.Totals.{Totals}
use Rattle.impulse_ledger.specs.Totals.{sum_of, total_in}
use Rattle.impulse_ledger.specs.Sums.{HaveSameTotals, summed_of, total_of, totals_of}
use Rattle.event_feed.specs.Events.{EventLists}
use Rattle.seat_book.specs.declared.call.Entry.{Entry}
use Rattle.seat_book.specs.History.{entry}
use Rattle.plain_world.specs.Plain.{Plain}
use Rattle.world_rules.specs.declared.command.Command.{Command}
use Rattle.world_rules.specs.declared.command.Reply.{Reply}
use Rattle.world_rules.specs.World.{World, book_of}
use Rattle.world_rules.specs.Apply.{Applied, apply}
use Rattle.world_rules.specs.Replay.{after, answers_to, replay}
use Rattle.world_rules.specs.Sound.{IsSound}

-- ---- lists of calls

-- a call that was accepted: its seat, which of the seat's calls it is, the command and the reply
abbrev pub Line : Type 0
Line = Entry Command Reply

abbrev pub line : ℕ → ℕ → Command → Reply → Line
line seat number command reply = entry seat (record { number = number; command = command; reply = reply })

abbrev pub command_of : Line → Command
command_of e = e.call.command

abbrev pub reply_of : Line → Result Reply Refusal
reply_of e = Ok e.call.reply

abbrev pub commands_of : List Line → List Command
commands_of es = map command_of es

-- the replay of its commands on one thread gives its replies
abbrev pub IsLegal : World → List Line → Type 0
IsLegal first es = answers_to first (commands_of es) ≡ map reply_of es

abbrev pub replayed : World → List Line → World
replayed first es = replay first (commands_of es)

-- the ledger's entries that a command adds, and a list of commands
abbrev pub entries_of : Result Applied Refusal → List ledger.Entry
entries_of (Ok a) = a.entries
entries_of (Err e) = []

abbrev pub booked_by : World → List Command → List ledger.Entry
booked_by w [] = []
booked_by w (c ∷ cs) = entries_of (apply w.plain c) ++ booked_by (after w c) cs

-- The total of each cause is the one that was kept, and with it the sum of these entries of the cause.
abbrev pub AreTotalsSince : Totals → List ledger.Entry → World → Type 0
AreTotalsSince kept entries w = (cause : Cause) → total_of cause (book_of w) ≡ sum_of (total_in cause kept) (summed_of cause entries)

-- ---- a world with its journal

-- a world, the world that its journal began with, the totals of the ledger as they were then, and the calls since then
pub record Journalled : Type 0 where
  pub world : World
  pub opening : World
  pub opening_totals : Totals
  pub journal : List Line

-- The world is sound, from which each part of the headline on its solver sets, colours, islands and momentum follows
-- (`Headline`). The world, with its ledger and its events, is the replay of the journal on one thread, which gives the
-- journal's replies. Each cause's total is the opening one, with the entries of the cause that this replay adds.
pub record KeepsHeadline (j : Journalled) : Type 0 where
  pub sound : IsSound j.world
  pub replay : j.world ≡ replayed j.opening j.journal
  pub replies : IsLegal j.opening j.journal
  pub totals : AreTotalsSince j.opening_totals (booked_by j.opening (commands_of j.journal)) j.world

-- what is kept of the world that a journal begins with: the plain world, the events, the totals of the ledger, and how
-- many entries the ledger had
pub record Beginning : Type 0 where
  pub plain : Plain
  pub events : EventLists
  pub totals : Totals
  pub booked : ℕ

abbrev pub beginning_at : World → Beginning
beginning_at w = record { plain = w.plain; events = w.events; totals = totals_of (book_of w); booked = length w.entries }

-- that world, beside the world as it is now: its ledger had the first of the entries
abbrev pub opening_of : Beginning → World → World
opening_of b now = record { plain = b.plain; entries = take b.booked now.entries; settled = now.settled; events = b.events }

abbrev pub journalled : Beginning → World → List Line → Journalled
journalled b w journal = record { world = w; opening = opening_of b w; opening_totals = b.totals; journal = journal }

-- what is stored of the beginning is true of the opening world
pub record IsJournalled (b : Beginning) (w : World) (journal : List Line) : Type 0 where
  pub headline : KeepsHeadline (journalled b w journal)
  pub booked : b.booked ≤ length w.entries
  pub totals : b.totals ≡ totals_of (book_of (opening_of b w))

-- ---- worlds that differ by settled entries alone

-- the plain world, the events and each total of the ledger are the same
pub record IsLike (v w : World) : Type 0 where
  pub plain : w.plain ≡ v.plain
  pub events : w.events ≡ v.events
  pub totals : HaveSameTotals (book_of w) (book_of v)
