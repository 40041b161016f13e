use Rattle.std.proofs.Common.{◌≡◌, ◌<◌, ◌+◌, ◌-◌, [], ◌∷◌, ℕ, List, Option, get_or, length, drop, ap, ◌∙◌, arith}
use Rattle.std.proofs.lemmas.List.{drop_more, drop_all}
use Rattle.islands.specs.Labels.{label_at}
use Rattle.sleep_wake.proofs.LeastLemmas.{noted_long, forgotten_long}
use Rattle.sleep_wake.proofs.AwakeSlotsLaws.{over_none, over_more, over_all, awake_short}
use Rattle.sleep_wake.proofs.phase.list_leasts.Goals as goal

pub forget-requires : goal.forget-requires
forget-requires c = λ slot h.
    let short : slot < length c.args.islands.now.labels = awake_short c.args.islands.now.labels c.args.awake.now slot c.requires.awake h in
    omega (arith, short, c.widen_to.ensures.long, c.slots.ensures.value)

pub loop-place-init : goal.loop-place-init
loop-place-init c =
    let awake : List ℕ = c.args.awake.now in
    let old : List (Option ℕ) = c.widen_to.new.leasts.items in
    let none : drop (length awake) awake ≡ [] = drop_all (length awake) awake (omega arith) in
    let same : length c.forget.new.leasts.items ≡ length old = ap (λ (v : List (Option ℕ)). length v) c.forget.ensures.items ∙ forgotten_long awake old in
    record {
      least = rw c.forget.ensures.items (over_none c.args.islands.now.labels c.args.timers.now awake (drop (length awake) awake) old none);
      long = omega (arith, same, c.widen_to.ensures.long, c.slots.ensures.value);
      within = omega arith;
      capacity = omega (arith, c.widen_to.ensures.capacity, c.forget.ensures.capacity);
    }

pub loop-place-preserved : goal.loop-place-preserved
loop-place-preserved c =
    let labels = c.args.islands.now.labels in
    let timers : List ℕ = c.args.timers.now in
    let awake : List ℕ = c.args.awake.now in
    let leasts : List (Option ℕ) = c.loop-place.leasts.items in
    let n = c.loop-place.place in
    let slot : ℕ = get_or awake (n - 1) 0 in
    let lt : n - 1 < length awake = omega (arith, c.loop-place-test.true, c.loop-place.invariant.within) in
    let next : n - 1 + 1 ≡ n = omega (arith, c.loop-place-test.true) in
    let front : drop (n - 1) awake ≡ slot ∷ drop n awake = drop_more awake (n - 1) 0 lt ∙ ap (λ (k : ℕ). slot ∷ drop k awake) next in
    let same : length c.note.new.leasts.items ≡ length leasts = ap (λ (v : List (Option ℕ)). length v) c.note.ensures.items ∙ noted_long (label_at labels slot) timers slot leasts in
    record {
      least = rw c.note.ensures.items (over_more labels timers awake slot (drop n awake) (drop (n - 1) awake) leasts front c.requires.partition c.loop-place.invariant.long c.loop-place.invariant.least);
      long = omega (arith, same, c.loop-place.invariant.long);
      within = omega (arith, lt);
      capacity = omega (arith, c.note.ensures.capacity, c.loop-place.invariant.capacity);
    }

pub returns-clause-least : goal.returns-clause-least
returns-clause-least c =
    let awake : List ℕ = c.args.awake.now in
    let none : c.loop-place.place ≡ 0 = omega (arith, c.loop-place-test.false) in
    over_all c.args.islands.now.labels c.args.timers.now awake (drop c.loop-place.place awake) c.loop-place.leasts.items (ap (λ (k : ℕ). drop k awake) none) c.requires.partition c.requires.awake c.loop-place.invariant.least
