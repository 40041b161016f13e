-- What is kept under the lock, over a call, over settling, and at the start.
use Rattle.std.proofs.Common.{◌≡◌, ℕ, zero, suc, ◌+◌, ◌^◌, ◌<◌, ◌≤◌, List, [], ◌∷◌, ◌++◌, length, take, Ok, ◌+ℤ◌, refl, sym, ap, ◌∙◌, subst, arith, append_assoc, length-append}
use Rattle.std.specs.Prelude.{All, replicate, slice_index_or, slice_set}
use Rattle.std.proofs.lemmas.List.{append-nil, drop-append-le, take-append-drop, take-append-le}
use Rattle.std.proofs.lemmas.List.Elements.{All-nil}
use Rattle.fixed_geom.specs.Vectors.{plus}
use Rattle.colour_solver.proofs.VectorLaws.{same_x, same_y}
use Rattle.impulse_ledger.specs.Sums.{totals_of}
use Rattle.seat_book.specs.History.{IsPast, known}
use Rattle.plain_world.specs.Plain.{Plain}
use Rattle.world_rules.specs.declared.command.Command.{Command}
use Rattle.world_rules.specs.declared.command.Reply.{Reply}
use Rattle.world_rules.specs.World.{World, book_of}
use Rattle.world_rules.specs.Apply.{apply}
use Rattle.world_rules.specs.Replay.{after, answer_of}
use Rattle.world_rules.specs.Laws.{EachCallCounts, PushesAreSmall, push_of}
use Rattle.world_lock.specs.declared.tally.Tally.{Tally}
use Rattle.world_lock.specs.Journals.{Beginning, IsLegal, IsLike, Journalled, KeepsHeadline, Line, command_of, journalled, replayed, line, reply_of}
use Rattle.world_lock.specs.Tallies.{IsTally, calls_of, no_calls, pushed_sum, tallies_of, tally_of, with_call}
use Rattle.world_lock.specs.Histories.{Called, IsAllOf, IsClosed, IsHeld, IsPastFor, IsSeated, Known, SeatStanding, next_number, with_line}
use Rattle.world_lock.proofs.Tallying.{calls_append, past_calls, pushed-append, small_none, small_set, small_with, tallies_at, tallies_length, tallies_none, tallies_step}
use Rattle.world_lock.proofs.Replaying.{counts, left_push, legal_push, like_after, small_push}

pub all_push : {A : Type 0} (P : A → Type 0) (xs : List A) (y : A) → All P xs → P y → All P (xs ++ y ∷ [])
all_push P [] y all one zero d l = one
all_push P [] y all one (suc k) d l = absurd (omega arith)
all_push P (x ∷ xs) y all one zero d l = all zero d (omega arith)
all_push P (x ∷ xs) y all one (suc k) d l = all_push P xs y (λ j f h. all (suc j) f (omega arith)) one k d (omega arith)

pub tallies_are : (seats : ℕ) (first : World) (s : SeatStanding) → IsHeld seats first s → length s.tallies ≡ seats
tallies_are seats first s h = ap length h.tallies ∙ tallies_length 0 seats s.history

pub settled_are : (seats : ℕ) (first : World) (s : SeatStanding) → IsHeld seats first s → length s.settled_tallies ≡ seats
settled_are seats first s h = ap length h.settled_tallies ∙ tallies_length 0 seats (take s.settled s.history)

-- the number of the seat's next call
pub next_is : (seats : ℕ) (first : World) (s : SeatStanding) (k : Known) → IsHeld seats first s → k.seat < seats → IsPast k.seat k.seen s.history
    → (slice_index_or s.tallies k.seat no_calls).calls + 1 ≡ suc (length (calls_of k.seat k.seen))
next_is seats first s k h l past =
    let same : 0 + k.seat ≡ k.seat = omega arith in
    let at : slice_index_or s.tallies k.seat no_calls ≡ tally_of k.seat s.history = ap (λ (ts : List Tally). slice_index_or ts k.seat no_calls) h.tallies ∙ tallies_at 0 seats k.seat s.history no_calls l ∙ ap (λ (n : ℕ). tally_of n s.history) same in
    let own : (slice_index_or s.tallies k.seat no_calls).calls ≡ length (calls_of k.seat k.seen) = ap (λ (t : Tally). t.calls) at ∙ ap length (past_calls k.seat k.seen s.history past) in
    omega (arith, own)

pub held_call : (seats : ℕ) (first : World) (s : SeatStanding) (e : Line) → IsHeld seats first s → EachCallCounts → PushesAreSmall → e.seat < seats
    → answer_of (apply s.world.plain (command_of e)) ≡ reply_of e → (after s.world (command_of e)).plain.calls ≤ 2 ^ 40
    → IsHeld seats first (with_line s e)
held_call seats first s e h count small here ok few =
    let was = replayed first s.history in
    let taken : answer_of (apply was.plain (command_of e)) ≡ reply_of e = ap (λ p. answer_of (apply p (command_of e))) (sym h.like.plain) ∙ ok in
    let one : (after s.world (command_of e)).plain.calls ≡ s.world.plain.calls + 1 = counts count s.world (command_of e) e.call.reply ok in
    let le : s.settled ≤ length s.history = let c = h.count in omega arith in
    let longer : length (s.history ++ e ∷ []) ≡ length s.history + 1 = omega (arith, length-append s.history (e ∷ [])) in
    let own = h.small e.seat no_calls (omega (arith, tallies_are seats first s h, here)) in
    record {
      legal = legal_push first s.history e h.legal taken;
      like = subst (λ (v : World). IsLike v (after s.world (command_of e))) (sym (left_push first s.history e)) (like_after was s.world (command_of e) h.like);
      journal = ap (λ l. l ++ e ∷ []) h.journal ∙ sym (drop-append-le s.settled s.history (e ∷ []) le);
      count = let c = h.count in omega (arith, longer, length-append s.journal (e ∷ []));
      calls = let c = h.calls in omega (arith, longer, one);
      few = few;
      seated = all_push (IsSeated seats) s.history e h.seated here;
      tallies = ap (λ (ts : List Tally). slice_set ts e.seat (with_call (slice_index_or ts e.seat no_calls) (push_of (command_of e)))) h.tallies ∙ tallies_step 0 seats e.seat s.history e here (omega arith);
      settled_tallies = h.settled_tallies ∙ ap (tallies_of seats) (sym (take-append-le s.settled s.history (e ∷ []) le));
      small = subst (λ (n : ℕ). All (IsTally n) (slice_set s.tallies e.seat (with_call (slice_index_or s.tallies e.seat no_calls) (push_of (command_of e))))) (sym one)
          (small_set s.world.plain.calls s.tallies e.seat _ (small_with s.world.plain.calls _ _ own (small_push small s.world (command_of e) e.call.reply ok)) h.small);
    }

pub held_new : (seats : ℕ) (first : World) → first.plain.calls ≤ 2 ^ 40
    → IsHeld seats first (record { world = first; opening = first; opening_totals = totals_of (book_of first); journal = []; settled = 0; tallies = replicate seats no_calls; settled_tallies = replicate seats no_calls; history = [] })
held_new seats first few = record {
  legal = refl;
  like = record { plain = refl; events = refl; totals = record { all = refl; of_cause = λ c. refl } };
  journal = refl;
  count = refl;
  calls = omega arith;
  few = few;
  seated = All-nil (IsSeated seats);
  tallies = sym (tallies_none 0 seats);
  settled_tallies = sym (tallies_none 0 seats);
  small = small_none first.plain.calls seats;
}

-- the last of a list
pub last_is : {A : Type 0} (xs : List A) (y d : A) (n : ℕ) → n ≡ length xs → slice_index_or (xs ++ y ∷ []) n d ≡ y
last_is [] y d zero is = refl
last_is [] y d (suc n) is = absurd (omega (arith, is))
last_is (x ∷ xs) y d zero is = absurd (omega (arith, is))
last_is (x ∷ xs) y d (suc n) is = last_is xs y d n (omega (arith, is))

-- what an accepted call tells its seat
pub told_call : (seats : ℕ) (first : World) (s : SeatStanding) (k after : Known) (command : Command) (reply : Reply) (history : List Line) (seat number place : ℕ) → IsHeld seats first s → k.seat < seats
    → IsPast k.seat k.seen s.history → seat ≡ k.seat → number ≡ (slice_index_or s.tallies k.seat no_calls).calls + 1 → place ≡ s.settled + length s.journal
    → history ≡ s.history ++ line seat number command reply ∷ [] → after ≡ known k.seat history → answer_of (apply s.world.plain command) ≡ Ok reply
    → Called first k command reply (record { seat = seat; number = number; place = place }) after
told_call seats first s k after command reply history seat number place h here past own is at more seen ok =
    let num : number ≡ next_number k = is ∙ next_is seats first s k h here past in
    let e = line seat number command reply in
    let same : s.history ++ e ∷ [] ≡ s.history ++ line k.seat (next_number k) command reply ∷ [] = λ i. s.history ++ line (own i) (num i) command reply ∷ [] in
    let taken : answer_of (apply (replayed first s.history).plain command) ≡ Ok reply = ap (λ (p : Plain). answer_of (apply p command)) (sym h.like.plain) ∙ ok in
    let legal : IsLegal first history = subst (IsLegal first) (sym more) (legal_push first s.history e h.legal taken) in (
      s.history,
      (past, h.legal),
      seen ∙ ap (λ (l : List Line). known k.seat l) (more ∙ same),
      subst (λ (a : Known). IsLegal first a.seen) (sym seen) legal,
      (λ i. record { seat = own i; number = num i; place = (at ∙ sym h.count) i }),
    )

-- ---- seats, one after another

pub one_more : (all done now rest old : List Known) (x : Known) → done ++ old ≡ all → old ≡ x ∷ rest → now ≡ done ++ x ∷ [] → now ++ rest ≡ all
one_more all done now rest old x was is more = ap (λ l. l ++ rest) more ∙ (append_assoc done (x ∷ []) rest ∙ (ap (λ l. done ++ l) (sym is) ∙ was))

pub all_whole : {A : Type 0} (P : A → Type 0) (done rest all : List A) → done ++ rest ≡ all → length rest ≡ 0 → All P done → All P all
all_whole P done [] all is none each = subst (All P) (sym (append-nil done) ∙ is) each
all_whole P done (x ∷ rest) all is none each = absurd (omega (arith, none))

-- of each seat whose past the history is, all is there at the end
pub all_of : (seats : ℕ) (first : World) (s : SeatStanding) (k : Known) → IsHeld seats first s → IsPastFor seats s.history k → IsAllOf s.history s.journal s.settled s.settled_tallies k
all_of seats first s k h p =
    let before = take s.settled s.history in
    let whole : before ++ s.journal ≡ s.history = ap (λ (l : List Line). before ++ l) h.journal ∙ take-append-drop s.settled s.history in
    let own : calls_of k.seat k.seen ≡ calls_of k.seat before ++ calls_of k.seat s.journal = sym (past_calls k.seat k.seen s.history p.past) ∙ ap (calls_of k.seat) (sym whole) ∙ calls_append k.seat before s.journal in
    let same : 0 + k.seat ≡ k.seat = omega arith in
    let tally : slice_index_or s.settled_tallies k.seat no_calls ≡ tally_of k.seat before = ap (λ (ts : List Tally). slice_index_or ts k.seat no_calls) h.settled_tallies ∙ tallies_at 0 seats k.seat before no_calls p.seated ∙ ap (λ (n : ℕ). tally_of n before) same in
    let all : plus (pushed_sum (calls_of k.seat before)) (pushed_sum (calls_of k.seat s.journal)) ≡ pushed_sum (calls_of k.seat k.seen) = sym (pushed-append (calls_of k.seat before) (calls_of k.seat s.journal)) ∙ ap pushed_sum (sym own) in
    record {
      past = p.past;
      own = own;
      calls = ap (λ (t : Tally). t.calls + length (calls_of k.seat s.journal)) tally ∙ sym (length-append (calls_of k.seat before) (calls_of k.seat s.journal)) ∙ ap length (sym own);
      pushed_x_is = ap (λ (t : Tally). t.pushed.x +ℤ (pushed_sum (calls_of k.seat s.journal)).x) tally ∙ same_x all;
      pushed_y_is = ap (λ (t : Tally). t.pushed.y +ℤ (pushed_sum (calls_of k.seat s.journal)).y) tally ∙ same_y all;
    }

pub each_of : (seats : ℕ) (first : World) (s : SeatStanding) (ks : List Known) → IsHeld seats first s → All (IsPastFor seats s.history) ks → All (IsAllOf s.history s.journal s.settled s.settled_tallies) ks
each_of seats first s ks h all k d l = all_of seats first s (slice_index_or ks k d) h (all k d l)

-- what is left when all seats have met the history
pub closing : (seats : ℕ) (first : World) (s : SeatStanding) (ks : List Known) (b : Beginning) (w : World) (journal : List Line) (j : Journalled) → IsHeld seats first s → j.world ≡ s.world → j.journal ≡ s.journal → journalled b w journal ≡ j
    → KeepsHeadline j → All (IsPastFor seats s.history) ks → IsClosed seats first ks b w journal s.settled_tallies
closing seats first s ks b w journal j h world lines parts headline all =
    let world_is : s.world ≡ w = sym (ap (λ (x : Journalled). x.world) parts ∙ world) in
    let journal_is : s.journal ≡ journal = sym (ap (λ (x : Journalled). x.journal) parts ∙ lines) in (
      s.settled,
      s.history,
      record {
        headline = subst KeepsHeadline (sym parts) headline;
        legal = h.legal;
        like = subst (IsLike (replayed first s.history)) world_is h.like;
        unsettled = sym journal_is ∙ h.journal;
        count_is = h.count ∙ ap (λ (l : List Line). s.settled + length l) journal_is;
        seated = h.seated;
        settled_tallies = h.settled_tallies;
        each = subst (λ (l : List Line). All (IsAllOf s.history l s.settled s.settled_tallies) ks) journal_is (each_of seats first s ks h all);
      },
    )
