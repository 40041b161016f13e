use Rattle.std.proofs.Common.{◌≡◌, ◌<◌, ◌+◌, ◌∷◌, ℕ, List, Option, None, get_or, length, drop, sym, ap, ◌∙◌, arith}
use Rattle.std.proofs.lemmas.List.{drop_more, length-set}
use Rattle.std.proofs.lemmas.List.Elements.{Contains-get_or}
use Rattle.sleep_wake.specs.Resting.{forgotten}
use Rattle.sleep_wake.proofs.phase.forget.Goals as goal

pub index_mut-requires : goal.index_mut-requires
index_mut-requires c =
    let slots : List ℕ = c.args.slots.now in
    let place = c.loop-place.place in
    let lt : place < length slots = omega (arith, c.loop-place-test.true, c.loop-place.auto.place-end) in
    let short : get_or slots place 0 < length c.args.leasts.now.items = c.requires (get_or slots place 0) (Contains-get_or slots place 0 lt) in
    omega (arith, short, c.loop-place.invariant.long, c.loop-place.leasts.ok)

pub loop-place-preserved : goal.loop-place-preserved
loop-place-preserved c =
    let slots : List ℕ = c.args.slots.now in
    let leasts : List (Option ℕ) = c.loop-place.leasts.items in
    let place = c.loop-place.place in
    let lt : place < length slots = omega (arith, c.loop-place-test.true, c.loop-place.auto.place-end) in
    let front : drop place slots ≡ get_or slots place 0 ∷ drop (place + 1) slots = drop_more slots place 0 lt in
    record {
      rest = sym (ap (λ (v : List ℕ). forgotten v leasts) front) ∙ c.loop-place.invariant.rest;
      long = length-set leasts (get_or slots place 0) None ∙ c.loop-place.invariant.long;
      capacity = c.loop-place.invariant.capacity;
    }
