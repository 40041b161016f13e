use Rattle.std.proofs.Common.{◌≡◌, ◌∷◌, ◌++◌, [], ◌+◌, ◌-◌, ◌<◌, ◌≤◌, ◌^◌, ℕ, List, length, arith, sym, ap, ◌∙◌, subst, length-append}
use Rattle.std.specs.Prelude.{slice_index_or, slice_set}
use Rattle.seat_book.specs.History.{IsPast, entry, known}
use Rattle.world_rules.specs.World.{World}
use Rattle.world_rules.specs.Replay.{after}
use Rattle.world_rules.specs.Laws.{push_of}
use Rattle.world_lock.specs.Journals.{Line, line}
use Rattle.world_lock.specs.Tallies.{no_calls, with_call}
use Rattle.world_lock.specs.Histories.{IsHeld, Known, next_number, standing, with_line}
use Rattle.world_lock.proofs.Replaying.{small_push}
use Rattle.world_lock.proofs.Holding.{held_call, last_is, next_is, tallies_are, told_call}
use Rattle.world_lock.proofs.held.Held.call_by.Given as given
use Rattle.world_lock.proofs.held.Held.call_by.Goals as goal

pub calls_in-requires : goal.calls_in-requires
calls_in-requires g c =
    let n = tallies_are _ _ _ c.self.invariant in
    record { seat = omega (arith, c.number-2.ensures.range, n, c.deref.ensures.len) }

pub count_call-requires-clause-seat : goal.count_call-requires-clause-seat
count_call-requires-clause-seat g c =
    let n = tallies_are _ _ _ c.self.invariant in
    omega (arith, c.number.ensures.range, n)

pub count_call-requires-clause-impulse : goal.count_call-requires-clause-impulse
count_call-requires-clause-impulse g c = rw c.impulse-impulse.ensures (small_push c.each_call_counts.ensures.pushes c.self.inside.journalled.world c.args.command c.in-Ok.reply c.in-Ok.ensures.0)

-- the history has grown by just the call
grown : (g : given.Over) (c : goal.After-enter g) → c.enter.new.keeper ≡ c.self.inside.keeper ++ line c.number.result (c.calls_in.result + 1) c.args.command c.in-Ok.reply ∷ []
grown g c =
    let e = line c.number.result (c.calls_in.result + 1) c.args.command c.in-Ok.reply in
    let was = c.self.inside.journalled in
    let journal : c.journal-journal.result.now ≡ was.journal ++ e ∷ [] = c.journal-journal.ensures.journal ∙ ap (λ j. j.journal) c.in-Ok.ensures.1 in
    let place : length (was.journal ++ e ∷ []) - 1 ≡ length was.journal = omega (arith, length-append was.journal (e ∷ [])) in
    let last : c.index-journal-journal.result ≡ e = c.index-journal-journal.is ∙ ap (λ (l : List Line). slice_index_or l (length l - 1) c.index-journal-journal.result) journal ∙ last_is was.journal e c.index-journal-journal.result (length (was.journal ++ e ∷ []) - 1) place in
    let seat : c.seat.inside.pass.seat ≡ c.number.result = ap (λ (k : Known). k.seat) c.seat.view_is ∙ sym c.number.ensures.seat in
    let own : entry c.seat.inside.pass.seat c.index-journal-journal.result.call ≡ e = λ i. entry (seat i) (ap (λ (l : Line). l.call) last i) in
    c.enter.ensures.history ∙ ap (λ (l : Line). c.self.inside.keeper ++ l ∷ []) own

-- what the seat had seen begins the history
begun : (g : given.Over) (c : goal.After-enter g) → IsPast c.args.seat.now.seat c.args.seat.now.seen c.self.inside.keeper
begun g c = subst (λ (k : Known). IsPast k.seat k.seen c.self.inside.keeper) c.seat.view_is c.enter.ensures.past

-- the number is one more than the seat's calls
numbered : (g : given.Over) (c : goal.After-enter g) → c.calls_in.result + 1 ≡ (slice_index_or c.self.inside.tallies.items c.args.seat.now.seat no_calls).calls + 1
numbered g c = ap (λ (n : ℕ). n + 1) (c.calls_in.ensures ∙ (λ i. (slice_index_or (c.deref.ensures.value i) (c.number-2.ensures.seat i) no_calls).calls))

-- all that the call has changed
made : (g : given.Over) (c : goal.After-enter g)
    → standing c.call.new.self c.self.inside.settled c.count_call.new.tallies.items c.self.inside.settled_tallies.items c.enter.new.keeper
    ≡ with_line (standing c.self.inside.journalled c.self.inside.settled c.self.inside.tallies.items c.self.inside.settled_tallies.items c.self.inside.keeper) (line c.number.result (c.calls_in.result + 1) c.args.command c.in-Ok.reply)
made g c =
    let tallies : c.count_call.new.tallies.items ≡ slice_set c.self.inside.tallies.items c.number.result (with_call (slice_index_or c.self.inside.tallies.items c.number.result no_calls) (push_of c.args.command)) =
    c.count_call.ensures ∙ ap (λ j. slice_set c.self.inside.tallies.items c.number.result (with_call (slice_index_or c.self.inside.tallies.items c.number.result no_calls) j)) c.impulse-impulse.ensures in
    λ i. standing (c.in-Ok.ensures.1 i) c.self.inside.settled (tallies i) c.self.inside.settled_tallies.items (grown g c i)

pub invariant_of-self : goal.invariant_of-self
invariant_of-self g c =
    let ok = c.in-Ok.ensures in
    let was = c.self.inside.journalled in
    let e = line c.number.result (c.calls_in.result + 1) c.args.command c.in-Ok.reply in
    let s = standing was c.self.inside.settled c.self.inside.tallies.items c.self.inside.settled_tallies.items c.self.inside.keeper in
    let few : (after was.world c.args.command).plain.calls ≤ 2 ^ 40 = subst (λ (w : World). w.plain.calls ≤ 2 ^ 40) (λ i. (ok.1 i).world) c.journal-journal.ensures.headline.sound.formed.calls in
    subst (IsHeld g.N.Named.seats g.N.Opened.opening) (sym (made g c)) (held_call g.N.Named.seats g.N.Opened.opening s e c.self.invariant c.each_call_counts.ensures.calls c.each_call_counts.ensures.pushes c.number.ensures.range ok.0 few)

pub returns-in-Ok-clause-told : goal.returns-in-Ok-clause-told
returns-in-Ok-clause-told g c =
    let s = standing c.self.inside.journalled c.self.inside.settled c.self.inside.tallies.items c.self.inside.settled_tallies.items c.self.inside.keeper in
    let here : c.args.seat.now.seat < g.N.Named.seats = omega (arith, c.number.ensures.range, c.number.ensures.seat) in
    let seen = c.enter.ensures.seen ∙ ap (λ (k : Known). known k.seat c.enter.new.keeper) c.seat.view_is in
    told_call g.N.Named.seats g.N.Opened.opening s c.args.seat.now c.enter.new.pass c.args.command c.in-Ok.reply c.enter.new.keeper c.number.result (c.calls_in.result + 1) _ c.self.invariant here (begun g c) c.number.ensures.seat (numbered g c)
    (ap (λ (l : List Line). c.self.inside.settled + length l) c.journal.ensures.journal) (grown g c) seen c.in-Ok.ensures.0

pub returns-in-Ok-clause-done : goal.returns-in-Ok-clause-done
returns-in-Ok-clause-done g c =
    let ok = c.in-Ok.ensures in
    let was = c.self.inside.journalled in
    let s = standing was c.self.inside.settled c.self.inside.tallies.items c.self.inside.settled_tallies.items c.self.inside.keeper in
    let here : c.args.seat.now.seat < g.N.Named.seats = omega (arith, c.number.ensures.range, c.number.ensures.seat) in
    let number : c.calls_in.result + 1 ≡ next_number c.args.seat.now = numbered g c ∙ next_is g.N.Named.seats g.N.Opened.opening s c.args.seat.now c.self.invariant here (begun g c) in
    let own : line c.number.result (c.calls_in.result + 1) c.args.command c.in-Ok.reply ≡ line c.args.seat.now.seat (next_number c.args.seat.now) c.args.command c.in-Ok.reply = λ i. line (c.number.ensures.seat i) (number i) c.args.command c.in-Ok.reply in
    rw (← c.self.view_is) (made g c ∙ ap (with_line s) own)
