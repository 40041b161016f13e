use Rattle.std.proofs.Common.{slice_index_or}
use Rattle.std.proofs.lemmas.List.{get_or_default}
use Rattle.world_core.proofs.TellingLaws.{first_all, first_more, first_none}
use Rattle.world_core.proofs.waking_islands.list_movers.Goals as goal

pub loop-place-init : goal.loop-place-init
loop-place-init c = first_none c.args.sets.now.acting.labels c.args.slots.now _

pub loop-place-preserved : goal.loop-place-preserved
loop-place-preserved c =
    first_more c.args.sets.now.acting.labels c.args.slots.now c.loop-place.movers.items c.add_island.new.movers.items c.loop-place.place (slice_index_or c.args.slots.now c.loop-place.place 0) c.loop-place-test.true
    (λ d. get_or_default c.args.slots.now c.loop-place.place d 0 c.loop-place-test.true) c.loop-place.invariant c.in_ok-add_island.ensures.island c.in_ok-add_island.ensures.extended

pub returns-clause-islands : goal.returns-clause-islands
returns-clause-islands c = first_all c.args.sets.now.acting.labels c.args.slots.now c.loop-place.movers.items c.loop-place.place c.loop-place-test.false c.loop-place.invariant
