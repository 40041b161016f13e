use Rattle.std.proofs.Common.{◌≡◌, ◌<◌, ◌+◌, ◌∷◌, [], ℕ, List, get_or, length, drop, sym, ap, ◌∙◌, subst, arith}
use Rattle.std.specs.List.{AllPairs}
use Rattle.std.proofs.lemmas.List.{drop_more, drop_all}
use Rattle.graph_colours.proofs.ListLemmas.{pairs_tail}
use Rattle.islands.specs.Labels.{Labels}
use Rattle.sleep_wake.specs.Resting.{least_at, all_rested}
use Rattle.sleep_wake.proofs.AwakeSlotsLaws.{ready_among, ready_among_is, rests_next, stays_next}
use Rattle.sleep_wake.proofs.phase.rest_each.Goals as goal
use Rattle.sleep_wake.proofs.phase.rest_each.Goals.{then-is_ready, else-is_ready}

pub loop-place-preserved : goal.loop-place-preserved
loop-place-preserved c =
    let now : Labels = c.loop-place.islands.labels in
    let timer = least_at c.args.leasts.now in
    let slots : List ℕ = c.args.awake.now in
    let place = c.loop-place.place in
    let slot : ℕ = get_or slots place 0 in
    let more : List ℕ = drop (place + 1) slots in
    let lt : place < length slots = omega (arith, c.loop-place-test.true, c.loop-place.auto.place-end) in
    let front : drop place slots ≡ slot ∷ more = drop_more slots place 0 lt in
    let P : List ℕ → Type 0 = λ v. AllPairs (λ slot later. slot < later) v in
    let rising : AllPairs (λ slot later. slot < later) (slot ∷ more) = subst P front c.loop-place.invariant.rising in
    let left = ap (λ (v : List ℕ). all_rested (ready_among timer now v) now) (sym front) ∙ c.loop-place.invariant.rest in
    elim c.if-is_ready.branch [
      | then-is_ready w ↦ rw w.islands-is (record {
        rest = ap (λ (v : Labels). all_rested (ready_among timer v more) v) w.rest.ensures.labels ∙ rests_next timer now slot more rising (sym c.is_ready.ensures ∙ w.if-is_ready.true) ∙ left;
        rising = pairs_tail (λ slot later. slot < later) slot more rising;
        room = w.rest.ensures.room ∙ c.loop-place.invariant.room;
      })
      | else-is_ready w ↦ rw w.islands-is (record {
        rest = stays_next timer now slot more (sym c.is_ready.ensures ∙ w.if-is_ready.false) ∙ left;
        rising = pairs_tail (λ slot later. slot < later) slot more rising;
        room = c.loop-place.invariant.room;
      })
    ]

pub returns-clause-labels : goal.returns-clause-labels
returns-clause-labels c =
    let now : Labels = c.loop-place.islands.labels in
    let old : Labels = c.args.islands.now.labels in
    let timer = least_at c.args.leasts.now in
    let slots : List ℕ = c.args.awake.now in
    let end : drop c.loop-place.place slots ≡ [] = drop_all c.loop-place.place slots (omega (arith, c.loop-place-test.false)) in
    sym (ap (λ (v : List ℕ). all_rested (ready_among timer now v) now) end) ∙ c.loop-place.invariant.rest ∙ ap (λ (ns : List ℕ). all_rested ns old) (ready_among_is timer old slots c.requires.awake)
