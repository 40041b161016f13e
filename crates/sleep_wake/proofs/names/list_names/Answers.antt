use Rattle.std.proofs.Common.{refl}
use Rattle.sleep_wake.proofs.NameLemmas.{name_step, names_gathered, names_sorted}
use Rattle.sleep_wake.proofs.names.list_names.Goals as goal

pub loop-place-preserved : goal.loop-place-preserved
loop-place-preserved c = name_step c.args.islands.now.labels c.args.slots.now c.loop-place.place _ 0 _ _ _ _ c.loop-place-test.true refl c.name_at.ensures c.in_ok-push_some.ensures.pushed c.loop-place.invariant

pub returns-clause-value : goal.returns-clause-value
returns-clause-value c =
    let labels = c.args.islands.now.labels in
    let slots = c.args.slots.now in
    names_sorted labels slots _ _ (names_gathered labels slots c.loop-place.place _ c.loop-place-test.false c.loop-place.invariant) c.sort_once.ensures.rising c.sort_once.ensures.extended c.sort_once.ensures.none_new
