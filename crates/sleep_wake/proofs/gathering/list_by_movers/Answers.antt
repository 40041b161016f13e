use Rattle.std.proofs.Common.{◌≡◌, ◌∙◌}
use Rattle.std.specs.Prelude.{filter}
use Rattle.sleep_wake.specs.Gathered.{is_first_of}
use Rattle.sleep_wake.proofs.GatherLemmas.{firsts_own}
use Rattle.sleep_wake.proofs.gathering.list_by_movers.Goals as goal

pub list_firsts-requires-clause-rising : goal.list_firsts-requires-clause-rising
list_firsts-requires-clause-rising g c = rw c.requires.source c.requires.rising

pub list_firsts-requires-clause-once : goal.list_firsts-requires-clause-once
list_firsts-requires-clause-once g c = rw c.deref.ensures.value c.fill_members.ensures.once

pub list_firsts-requires-clause-room : goal.list_firsts-requires-clause-room
list_firsts-requires-clause-room g c = rw c.requires.source c.requires.room

pub returns-else-is_pass_quick-clause-items : goal.returns-else-is_pass_quick-clause-items
returns-else-is_pass_quick-clause-items g c =
    let slots = c.fill_members.new.members.items in
    let firsts : c.list_firsts.new.list.items ≡ filter (is_first_of slots) c.args.ties.now.items = rw (c.deref.ensures.value, c.requires.source) at c.list_firsts.ensures.items in
    firsts ∙ firsts_own c.args.ties.now.items c.args.islands.now.labels c.args.name slots c.requires.islands c.fill_members.ensures.members
