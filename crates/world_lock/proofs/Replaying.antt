-- One call more at the end of a list of calls, and what it does to a world with its journal.
use Rattle.std.proofs.Common.{◌≡◌, ◌+◌, ◌^◌, ◌≤◌, List, [], ◌∷◌, ◌++◌, length, map, take, drop, Result, Ok, Err, refl, sym, ap, ◌∙◌, subst, arith, append_assoc, length-append, inl, inr, ◌⊎◌}
use Rattle.std.specs.Prelude.{MatchResult, unwrap_or}
use Rattle.std.proofs.Math.Seq.{drop-append_seam}
use Rattle.std.proofs.lemmas.List.{append-nil, map-append, take-append-le, take_all}
use Rattle.fixed_geom.specs.Vectors.{IsWithin}
use Rattle.fixed_geom.specs.declared.refusal.Refusal.{Refusal}
use Rattle.fixed_geom.specs.declared.refusal.Refusal.TheVariants.{NoMemory}
use Rattle.impulse_ledger.specs.declared.entry.Cause.{Cause}
use Rattle.impulse_ledger.specs.declared.entry.Entry as ledger
use Rattle.impulse_ledger.specs.declared.totals.Total.{Total}
use Rattle.impulse_ledger.specs.declared.totals.Totals.{Totals}
use Rattle.impulse_ledger.specs.Totals.{sum_of, total_in, total_over}
use Rattle.impulse_ledger.specs.Sums.{HaveSameTotals, summed, summed_of, total_of, totals_of}
use Rattle.impulse_ledger.proofs.KeptLemmas.{same_totals}
use Rattle.impulse_ledger.proofs.SumLemmas.{sum_of-assoc, sum_of-swap, sum_of-zero, summed-append, summed_of-append, zero-sum_of}
use Rattle.world_rules.specs.declared.command.Command.{Command}
use Rattle.world_rules.specs.declared.command.Reply.{Reply}
use Rattle.world_rules.specs.World.{World, book_of}
use Rattle.plain_world.specs.Plain.{Plain}
use Rattle.world_rules.specs.Apply.{Answers, Applied, apply, world_with}
use Rattle.world_rules.specs.Replay.{after, after_one, answer_of, answers_to, replay}
use Rattle.world_rules.specs.Laws.{EachCallCounts, PushesAreSmall, push_of}
use Rattle.world_rules.specs.Sound.{IsSound}
use Rattle.world_core.specs.Frames.{with_ledger_settled}
use Rattle.world_lock.specs.Journals.{AreTotalsSince, Beginning, IsJournalled, IsLegal, IsLike, Journalled, KeepsHeadline, Line, beginning_at, booked_by, command_of, commands_of, entries_of, replayed, opening_of, reply_of}

-- ---- one answer

pub answered : (due : Result Applied Refusal) (old : World) (r : Result Reply Refusal) (new : World) → Answers due old r new
    → MatchResult r (λ reply. (answer_of due ≡ Ok reply) × (new ≡ after_one old due)) (λ e. (new ≡ old) × ((e ≡ NoMemory) ⊎ (answer_of due ≡ Err e)))
answered (Ok a) old (Ok reply) new h = (ap Ok (sym h.0), h.1)
answered (Ok a) old (Err e) new h = (h.1, inl h.0)
answered (Err due) old (Ok reply) new h = absurd h
answered (Err due) old (Err e) new h = (h.1, inr (ap Err (sym h.0)))

counts_by : (law : EachCallCounts) (w : World) (c : Command) (reply : Reply) (due : Result Applied Refusal) → apply w.plain c ≡ due → answer_of due ≡ Ok reply → (after_one w due).plain.calls ≡ w.plain.calls + 1
counts_by law w c reply (Ok a) is ok = law w.plain c a is
counts_by law w c reply (Err e) is ok = cc

pub counts : (law : EachCallCounts) (w : World) (c : Command) (reply : Reply) → answer_of (apply w.plain c) ≡ Ok reply → (after w c).plain.calls ≡ w.plain.calls + 1
counts law w c reply ok = counts_by law w c reply (apply w.plain c) refl ok

small_by : (law : PushesAreSmall) (w : World) (c : Command) (reply : Reply) (due : Result Applied Refusal) → apply w.plain c ≡ due → answer_of due ≡ Ok reply → IsWithin (2 ^ 40) (push_of c)
small_by law w c reply (Ok a) is ok = law w.plain c a is
small_by law w c reply (Err e) is ok = cc

pub small_push : (law : PushesAreSmall) (w : World) (c : Command) (reply : Reply) → answer_of (apply w.plain c) ≡ Ok reply → IsWithin (2 ^ 40) (push_of c)
small_push law w c reply ok = small_by law w c reply (apply w.plain c) refl ok

-- ---- lists of calls

pub left_push : (first : World) (es : List Line) (e : Line) → replayed first (es ++ e ∷ []) ≡ after (replayed first es) (command_of e)
left_push first [] e = refl
left_push first (x ∷ xs) e = left_push (after first (command_of x)) xs e

answers_push : (first : World) (es : List Line) (e : Line) → answers_to first (commands_of (es ++ e ∷ [])) ≡ answers_to first (commands_of es) ++ answer_of (apply (replayed first es).plain (command_of e)) ∷ []
answers_push first [] e = refl
answers_push first (x ∷ xs) e = ap (λ l. answer_of (apply first.plain (command_of x)) ∷ l) (answers_push (after first (command_of x)) xs e)

pub legal_push : (first : World) (es : List Line) (e : Line) → IsLegal first es → answer_of (apply (replayed first es).plain (command_of e)) ≡ reply_of e → IsLegal first (es ++ e ∷ [])
legal_push first es e legal one =
    let both : answers_to first (commands_of es) ++ answer_of (apply (replayed first es).plain (command_of e)) ∷ [] ≡ map reply_of es ++ reply_of e ∷ [] = λ i. legal i ++ one i ∷ [] in
    answers_push first es e ∙ both ∙ sym (map-append reply_of es (e ∷ []))

-- ---- worlds that differ by settled entries alone

-- two sums that are the same stay so with the same more
more_alike : (s t d e more s_more t_more : Total) → s_more ≡ sum_of s more → t_more ≡ sum_of t more → sum_of s d ≡ sum_of t e → sum_of s_more d ≡ sum_of t_more e
more_alike s t d e more s_more t_more first second same =
    ap (λ (u : Total). sum_of u d) first ∙ (sum_of-swap s more d ∙ (ap (λ (u : Total). sum_of u more) same ∙ (sum_of-swap t e more ∙ ap (λ (u : Total). sum_of u e) (sym second))))

totals_more : (v w : World) (a : Applied) → HaveSameTotals (book_of w) (book_of v) → HaveSameTotals (book_of (world_with w a)) (book_of (world_with v a))
totals_more v w a same = record {
  all = more_alike (summed w.entries) (summed v.entries) (total_over w.settled) (total_over v.settled) (summed a.entries) _ _ (summed-append w.entries a.entries) (summed-append v.entries a.entries) same.all;
  of_cause = λ c. more_alike (summed_of c w.entries) (summed_of c v.entries) (total_in c w.settled) (total_in c v.settled) (summed_of c a.entries) _ _ (summed_of-append c w.entries a.entries) (summed_of-append c v.entries a.entries) (same.of_cause c);
}

like_one : (v w : World) (due : Result Applied Refusal) → IsLike v w → IsLike (after_one v due) (after_one w due)
like_one v w (Ok a) like = record { plain = refl; events = ap (λ l. unwrap_or a.events l) like.events; totals = totals_more v w a like.totals }
like_one v w (Err e) like = like

pub like_after : (v w : World) (c : Command) → IsLike v w → IsLike (after v c) (after w c)
like_after v w c like = subst (λ (p : Plain). IsLike (after_one v (apply p c)) (after w c)) like.plain (like_one v w (apply w.plain c) like)

-- ---- the ledger's entries

booked_one : (w : World) (due : Result Applied Refusal) → (after_one w due).entries ≡ w.entries ++ entries_of due
booked_one w (Ok a) = refl
booked_one w (Err e) = sym (append-nil w.entries)

booked : (w : World) (cs : List Command) → (replay w cs).entries ≡ w.entries ++ booked_by w cs
booked w [] = sym (append-nil w.entries)
booked w (c ∷ cs) =
    let one : (after w c).entries ≡ w.entries ++ entries_of (apply w.plain c) = booked_one w (apply w.plain c) in
    booked (after w c) cs ∙ ap (λ (es : List ledger.Entry). es ++ booked_by (after w c) cs) one ∙ append_assoc w.entries (entries_of (apply w.plain c)) (booked_by (after w c) cs)

-- the entries since the opening are those of the replay
pub booked_since : (j : Journalled) → KeepsHeadline j → drop (length j.opening.entries) j.world.entries ≡ booked_by j.opening (commands_of j.journal)
booked_since j h =
    let all : j.world.entries ≡ j.opening.entries ++ booked_by j.opening (commands_of j.journal) = ap (λ (w : World). w.entries) h.replay ∙ booked j.opening (commands_of j.journal) in
    ap (drop (length j.opening.entries)) all ∙ drop-append_seam j.opening.entries (booked_by j.opening (commands_of j.journal))

-- ---- the ledger's totals

total_one : (cause : Cause) (w : World) (due : Result Applied Refusal) → total_of cause (book_of (after_one w due)) ≡ sum_of (total_of cause (book_of w)) (summed_of cause (entries_of due))
total_one cause w (Ok a) =
    ap (λ (t : Total). sum_of t (total_in cause w.settled)) (summed_of-append cause w.entries a.entries) ∙ sum_of-swap (summed_of cause w.entries) (summed_of cause a.entries) (total_in cause w.settled)
total_one cause w (Err e) = sym (sum_of-zero (total_of cause (book_of w)))

-- what a replay adds to the total of a cause
total_more : (cause : Cause) (w : World) (cs : List Command) → total_of cause (book_of (replay w cs)) ≡ sum_of (total_of cause (book_of w)) (summed_of cause (booked_by w cs))
total_more cause w [] = sym (sum_of-zero (total_of cause (book_of w)))
total_more cause w (c ∷ cs) =
    let first = entries_of (apply w.plain c) in
    let later = booked_by (after w c) cs in
    total_more cause (after w c) cs
    ∙ ap (λ (t : Total). sum_of t (summed_of cause later)) (total_one cause w (apply w.plain c))
    ∙ sym (sum_of-assoc (total_of cause (book_of w)) (summed_of cause first) (summed_of cause later))
    ∙ ap (sum_of (total_of cause (book_of w))) (sym (summed_of-append cause first later))

kept_total : (cause : Cause) (w : World) → total_in cause (totals_of (book_of w)) ≡ total_of cause (book_of w)
kept_total cause w = zero-sum_of (total_in cause (totals_of (book_of w))) ∙ (same_totals (book_of w) 0).of_cause cause

-- the totals since the opening, whose own were kept
totals_since : (opening w : World) (kept : Totals) (journal : List Line) → kept ≡ totals_of (book_of opening) → w ≡ replayed opening journal → AreTotalsSince kept (booked_by opening (commands_of journal)) w
totals_since opening w kept journal is same cause =
    let cs = commands_of journal in
    let first : total_of cause (book_of opening) ≡ total_in cause kept = sym (kept_total cause opening) ∙ ap (total_in cause) (sym is) in
    ap (λ (v : World). total_of cause (book_of v)) same ∙ total_more cause opening cs ∙ ap (λ (t : Total). sum_of t (summed_of cause (booked_by opening cs))) first

-- ---- a world with its journal

grown : (w : World) (due : Result Applied Refusal) → (more : List ledger.Entry) × ((after_one w due).entries ≡ w.entries ++ more) × ((after_one w due).settled ≡ w.settled)
grown w (Ok a) = (a.entries, refl, refl)
grown w (Err e) = ([], sym (append-nil w.entries), refl)

pub opening_stays : (b : Beginning) (w : World) (c : Command) → b.booked ≤ length w.entries → opening_of b (after w c) ≡ opening_of b w
opening_stays b w c le =
    let g = grown w (apply w.plain c) in
    let entries : take b.booked (after w c).entries ≡ take b.booked w.entries = ap (take b.booked) g.1 ∙ take-append-le b.booked w.entries g.0 le in
    λ i. record { plain = b.plain; entries = entries i; settled = g.2 i; events = b.events }

pub journalled_call : (b : Beginning) (w : World) (journal : List Line) (e : Line) → IsJournalled b w journal → answer_of (apply w.plain (command_of e)) ≡ reply_of e → IsSound (after w (command_of e))
    → IsJournalled b (after w (command_of e)) (journal ++ e ∷ [])
journalled_call b w journal e j ok sound =
    let now = after w (command_of e) in
    let old = opening_of b w in
    let same : opening_of b now ≡ old = opening_stays b w (command_of e) j.booked in
    let replay : now ≡ replayed old (journal ++ e ∷ []) = ap (λ (v : World). after v (command_of e)) j.headline.replay ∙ sym (left_push old journal e) in
    let taken : answer_of (apply (replayed old journal).plain (command_of e)) ≡ reply_of e = ap (λ (v : World). answer_of (apply v.plain (command_of e))) (sym j.headline.replay) ∙ ok in
    let again : now ≡ replayed (opening_of b now) (journal ++ e ∷ []) = replay ∙ ap (λ (o : World). replayed o (journal ++ e ∷ [])) (sym same) in
    let totals : b.totals ≡ totals_of (book_of (opening_of b now)) = j.totals ∙ ap (λ (o : World). totals_of (book_of o)) (sym same) in
    let g = grown w (apply w.plain (command_of e)) in
    record {
      headline = record {
        sound = sound;
        replay = again;
        replies = subst (λ (o : World). IsLegal o (journal ++ e ∷ [])) (sym same) (legal_push old journal e j.headline.replies taken);
        totals = totals_since (opening_of b now) now b.totals (journal ++ e ∷ []) totals again;
      };
      booked = let le = j.booked in omega (arith, ap length g.1, length-append w.entries g.0);
      totals = totals;
    }

-- ---- journals that begin

-- a journal that begins now
pub begun : (w : World) → IsSound w → IsJournalled (beginning_at w) w []
begun w sound =
    let whole : take (length w.entries) w.entries ≡ w.entries = take_all (length w.entries) w.entries (omega arith) in
    let same : opening_of (beginning_at w) w ≡ w = λ i. record { plain = w.plain; entries = whole i; settled = w.settled; events = w.events } in
    let totals : totals_of (book_of w) ≡ totals_of (book_of (opening_of (beginning_at w) w)) = ap (λ (v : World). totals_of (book_of v)) (sym same) in
    record {
      headline = record { sound = sound; replay = sym same; replies = refl; totals = totals_since (opening_of (beginning_at w) w) w (totals_of (book_of w)) [] totals (sym same) };
      booked = omega arith;
      totals = totals;
    }

-- the same where the ledger's entries were settled
pub begun_settled : (w : World) → IsSound (with_ledger_settled w) → IsJournalled (record (beginning_at w) { booked = 0 }) (with_ledger_settled w) []
begun_settled w sound =
    let kept = totals_of (book_of w) in
    let totals : kept ≡ totals_of (book_of (with_ledger_settled w)) =
    λ i. record {
      command = zero-sum_of kept.command i;
      gravity = zero-sum_of kept.gravity i;
      immovable = zero-sum_of kept.immovable i;
      clamp = zero-sum_of kept.clamp i;
      rest = zero-sum_of kept.rest i;
      departed = zero-sum_of kept.departed i;
    } in
    record {
      headline = record { sound = sound; replay = refl; replies = refl; totals = totals_since (with_ledger_settled w) (with_ledger_settled w) kept [] totals refl };
      booked = omega arith;
      totals = totals;
    }
