use Rattle.std.proofs.Common.{◌≤◌, length, ◌∙◌, vec_capacity, arith}
use Rattle.std.specs.Prelude.{filter}
use Rattle.sleep_wake.specs.Waking.{has_mover_of}
use Rattle.sleep_wake.proofs.GatherLemmas.{filter_few}
use Rattle.sleep_wake.proofs.ListLemmas.{rising_filter}
use Rattle.sleep_wake.proofs.gathering.list_by_set.Goals as goal

pub list_asleep-requires-clause-rising : goal.list_asleep-requires-clause-rising
list_asleep-requires-clause-rising g c =
    let own = c.requires.source.each c.args.name c.requires.asleep in
    rw own (rising_filter g.C.ConstraintId.number (has_mover_of c.args.islands.now.labels c.args.name) c.args.ties.now.items c.requires.rising)

pub list_asleep-requires-clause-room : goal.list_asleep-requires-clause-room
list_asleep-requires-clause-room g c =
    let own = c.requires.source.each c.args.name c.requires.asleep in
    let few = filter_few (has_mover_of c.args.islands.now.labels c.args.name) c.args.ties.now.items in
    let room : length (filter (has_mover_of c.args.islands.now.labels c.args.name) c.args.ties.now.items) ≤ vec_capacity c.args.list.now = omega (arith, few, c.requires.room) in
    rw own room

pub returns-else-is_pass_quick-clause-items : goal.returns-else-is_pass_quick-clause-items
returns-else-is_pass_quick-clause-items g c = c.list_asleep.ensures.items ∙ c.requires.source.each c.args.name c.requires.asleep
