use Rattle.std.proofs.Common.{◌≡◌, ◌<◌, ◌+◌, [], ◌∷◌, ℕ, List, Option, get_or, length, drop, sym, ap, ◌∙◌, arith}
use Rattle.std.proofs.lemmas.List.{drop_more, drop_all}
use Rattle.sleep_wake.specs.Resting.{least_at}
use Rattle.sleep_wake.proofs.AwakeSlotsLaws.{longest_among, longest_is}
use Rattle.sleep_wake.proofs.phase.longest_ready.Goals as goal

pub loop-place-preserved : goal.loop-place-preserved
loop-place-preserved c =
    let slots : List ℕ = c.args.awake.now in
    let place = c.loop-place.place in
    let labels = c.args.islands.now.labels in
    let timer = least_at c.args.leasts.now in
    let best : Option ℕ = c.loop-place.best in
    let lt : place < length slots = omega (arith, c.loop-place-test.true, c.loop-place.auto.place-end) in
    let front : drop place slots ≡ get_or slots place 0 ∷ drop (place + 1) slots = drop_more slots place 0 lt in
    rw c.weighed-best.ensures (sym (ap (λ (v : List ℕ). longest_among timer labels best v) front) ∙ c.loop-place.invariant)

pub returns : goal.returns
returns c =
    let slots : List ℕ = c.args.awake.now in
    let labels = c.args.islands.now.labels in
    let timer = least_at c.args.leasts.now in
    let best : Option ℕ = c.loop-place.best in
    let end : drop c.loop-place.place slots ≡ [] = drop_all c.loop-place.place slots (omega (arith, c.loop-place-test.false)) in
    sym (ap (λ (v : List ℕ). longest_among timer labels best v) end) ∙ c.loop-place.invariant ∙ longest_is timer labels slots c.requires
