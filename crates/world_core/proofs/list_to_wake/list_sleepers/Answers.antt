use Rattle.world_core.specs.Waking.{HasIslands}
use Rattle.world_core.proofs.SleeperLaws.{sleepers_listed}
use Rattle.world_core.proofs.list_to_wake.list_sleepers.Goals as goal

pub returns-clause-sleepers : goal.returns-clause-sleepers
returns-clause-sleepers c =
    let labels = c.args.sets.now.acting.labels in
    let islands : HasIslands labels c.in_ok-names.names.items c.in_ok-slots.slots.items = rw c.deref.ensures.value at c.in_ok-slots.ensures.islands in
    sleepers_listed labels c.in_ok-names.names.items c.in_ok-slots.slots.items c.sort_once.new.numbers.items c.args.changes.now c.requires.islands.partition c.in_ok-names.ensures.names islands c.sort_once.ensures.extended
