-- Trusted: The history of a shared world, and what each call on it tells a seat.
use Rattle.std.specs.Prelude.{◌≡◌, ◌⊎◌, ℕ, suc, ◌+◌, ◌≤◌, ◌<◌, ◌^◌, ◌==◌, ◌||◌, Bool, true, false, All, List, [], ◌∷◌, ◌++◌, Err, length, take, drop, slice_index_or, slice_set, ◌+ℤ◌}
use Rattle.fixed_geom.specs.declared.refusal.Refusal.{Refusal}
use Rattle.fixed_geom.specs.declared.refusal.Refusal.TheVariants.{NoMemory}
use Rattle.impulse_ledger.specs.declared.totals.Totals.{Totals}
use Rattle.impulse_ledger.specs.Sums.{totals_of}
use Rattle.event_feed.specs.Events.{EventLists}
use Rattle.seat_book.specs.declared.rule.Known as book
use Rattle.seat_book.specs.History.{IsPast, known}
use Rattle.world_rules.specs.declared.command.Command.{Command}
use Rattle.world_rules.specs.declared.command.Reply.{Reply}
use Rattle.world_rules.specs.World.{World, book_of}
use Rattle.world_rules.specs.Apply.{apply}
use Rattle.world_rules.specs.Laws.{push_of}
use Rattle.world_rules.specs.Replay.{after, answer_of}
use Rattle.world_core.specs.Frames.{View, frame_of, with_ledger_settled}
use Rattle.world_lock.specs.declared.seat.Receipt.{Receipt}
use Rattle.world_lock.specs.declared.tally.Tally.{Tally}
use Rattle.world_lock.specs.Journals.{Beginning, IsLegal, IsLike, Journalled, KeepsHeadline, Line, command_of, journalled, replayed, line}
use Rattle.world_lock.specs.Tallies.{IsTally, calls_of, no_calls, pushed_sum, tallies_of, with_call}

-- a seat, and the calls that it has seen
abbrev pub Known : Type 0
Known = book.Known Command Reply

-- ---- what lies under the lock

-- a world with its journal and the totals at the opening, how many entries of the history were settled, what each seat
-- did, also as it was when the last were settled, and the history: all calls since the world was opened
pub record SeatStanding : Type 0 where
  pub world : World
  pub opening : World
  pub opening_totals : Totals
  pub journal : List Line
  pub settled : ℕ
  pub tallies : List Tally
  pub settled_tallies : List Tally
  pub history : List Line

abbrev pub standing : Journalled → ℕ → List Tally → List Tally → List Line → SeatStanding
standing j settled tallies settled_tallies history =
    record { world = j.world; opening = j.opening; opening_totals = j.opening_totals; journal = j.journal; settled = settled; tallies = tallies; settled_tallies = settled_tallies; history = history }

-- A call leaves the world after it. The journal and the history are longer by just the call, which its seat's tally
-- counts; all else stays.
abbrev pub with_line : SeatStanding → Line → SeatStanding
with_line s e = record s {
  world = after s.world (command_of e);
  journal = s.journal ++ e ∷ [];
  tallies = slice_set s.tallies e.seat (with_call (slice_index_or s.tallies e.seat no_calls) (push_of (command_of e)));
  history = s.history ++ e ∷ [];
}

-- Settling leaves the world with its ledger's entries settled. The journal begins anew there, with the totals of its
-- ledger; the calls of the old one are settled, with what each seat did; all else stays.
abbrev pub with_settled : SeatStanding → SeatStanding
with_settled s = record s {
  world = with_ledger_settled s.world;
  opening = with_ledger_settled s.world;
  opening_totals = totals_of (book_of s.world);
  journal = [];
  settled = s.settled + length s.journal;
  settled_tallies = s.tallies;
}

-- made by one of so many seats
abbrev pub IsSeated : ℕ → Line → Type 0
IsSeated seats e = e.seat < seats

-- The history is legal from the world at `open`, and its replay gives the world, but for entries that were settled; the
-- journal is what of it wasn't settled. Each accepted call counted, and each is of one of the seats; the tallies are
-- those of the history.
pub record IsHeld (seats : ℕ) (first : World) (s : SeatStanding) : Type 0 where
  pub legal : IsLegal first s.history
  pub like : IsLike (replayed first s.history) s.world
  pub journal : s.journal ≡ drop s.settled s.history
  pub count : length s.history ≡ s.settled + length s.journal
  pub calls : first.plain.calls + length s.history ≡ s.world.plain.calls
  pub few : s.world.plain.calls ≤ 2 ^ 40
  pub seated : All (IsSeated seats) s.history
  pub tallies : s.tallies ≡ tallies_of seats s.history
  pub settled_tallies : s.settled_tallies ≡ tallies_of seats (take s.settled s.history)
  pub small : All (IsTally s.world.plain.calls) s.tallies

-- ---- what a call tells

-- A past of a seat is a list of calls, legal from the world at `open`, that begins with what the seat had seen and goes
-- on with calls of other seats alone.
abbrev pub IsPastOf : World → Known → List Line → Type 0
IsPastOf first k past = IsPast k.seat k.seen past × IsLegal first past

-- the number that the seat's next call takes
abbrev pub next_number : Known → ℕ
next_number k = suc (length (calls_of k.seat k.seen))

-- the seat has then seen one past of it
abbrev pub Met : World → Known → Known → Type 0
Met first before after = (past : List Line) × IsPastOf first before past × (after ≡ known before.seat past)

-- the seat has then seen one past of it, followed by just this command, with its reply and next number, at the
-- receipt's place, the whole legal
abbrev pub Called : World → Known → Command → Reply → Receipt → Known → Type 0
Called first before command reply receipt after =
    (past : List Line) × IsPastOf first before past × (after ≡ known before.seat (past ++ line before.seat (next_number before) command reply ∷ []))
    × IsLegal first after.seen × (receipt ≡ record { seat = before.seat; number = next_number before; place = length past })

-- the seat has then seen one past of it, whose world refuses the command, unless memory was wanting
abbrev pub Refused : World → Known → Command → Refusal → Known → Type 0
Refused first before command refusal after =
    (past : List Line) × IsPastOf first before past × (after ≡ known before.seat past)
    × ((refusal ≡ NoMemory) ⊎ (answer_of (apply (replayed first past).plain command) ≡ Err refusal))

-- the seat has then seen one past of it, of whose world this is the frame
abbrev pub Shown : World → Known → View → Known → Type 0
Shown first before frame after = (past : List Line) × IsPastOf first before past × (after ≡ known before.seat past) × (frame ≡ frame_of (replayed first past))

-- the seat has then seen one past of it, of whose last step these are the events; where it has none, they are those at
-- `open`
abbrev pub EventsShown : World → Known → EventLists → Known → Type 0
EventsShown first before events after = (past : List Line) × IsPastOf first before past × (after ≡ known before.seat past) × (events ≡ (replayed first past).events)

-- ---- closing

-- whether one of these is the seat
abbrev pub has_seat : ℕ → List Known → Bool
has_seat seat [] = false
has_seat seat (k ∷ ks) = (k.seat == seat) || has_seat seat ks

abbrev pub HasAll : ℕ → List Known → Type 0
HasAll count seats = (s : ℕ) → s < count → has_seat s seats ≡ true

abbrev pub Misses : ℕ → List Known → Type 0
Misses count seats = (s : ℕ) × (s < count) × (has_seat s seats ≡ false)

-- the seat is one of so many, and the history begins with what it had seen, and goes on with calls of others alone
pub record IsPastFor (count : ℕ) (history : List Line) (k : Known) : Type 0 where
  pub seated : k.seat < count
  pub past : IsPast k.seat k.seen history

-- The history begins with what the seat had seen. The calls of its own in the journal are the last of the seat's calls,
-- and what had been settled of it are those before: their number and their pushes, with those in the journal, are all
-- that the seat did.
pub record IsAllOf (history journal : List Line) (settled : ℕ) (tallies : List Tally) (k : Known) : Type 0 where
  pub past : IsPast k.seat k.seen history
  pub own : calls_of k.seat k.seen ≡ calls_of k.seat (take settled history) ++ calls_of k.seat journal
  pub calls : (slice_index_or tallies k.seat no_calls).calls + length (calls_of k.seat journal) ≡ length (calls_of k.seat k.seen)
  pub pushed_x_is : (slice_index_or tallies k.seat no_calls).pushed.x +ℤ (pushed_sum (calls_of k.seat journal)).x ≡ (pushed_sum (calls_of k.seat k.seen)).x
  pub pushed_y_is : (slice_index_or tallies k.seat no_calls).pushed.y +ℤ (pushed_sum (calls_of k.seat journal)).y ≡ (pushed_sum (calls_of k.seat k.seen)).y

-- The headline holds of the closed world, with the totals that were kept of the opening. The history is legal from the
-- world at `open`, and its replay gives the closed world, but for entries that were settled; the journal is what of it
-- wasn't settled, each call of it is of one of the seats, the settled tallies are those of its settled calls, and of
-- each seat all is there.
pub record IsClosing (count : ℕ) (first : World) (seats : List Known) (b : Beginning) (w : World) (journal : List Line) (tallies : List Tally) (settled : ℕ) (history : List Line) : Type 0 where
  pub headline : KeepsHeadline (journalled b w journal)
  pub legal : IsLegal first history
  pub like : IsLike (replayed first history) w
  pub unsettled : journal ≡ drop settled history
  pub count_is : length history ≡ settled + length journal
  pub seated : All (IsSeated count) history
  pub settled_tallies : tallies ≡ tallies_of count (take settled history)
  pub each : All (IsAllOf history journal settled tallies) seats

abbrev pub IsClosed : ℕ → World → List Known → Beginning → World → List Line → List Tally → Type 0
IsClosed count first seats b w journal tallies = (settled : ℕ) × (history : List Line) × IsClosing count first seats b w journal tallies settled history
