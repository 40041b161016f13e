use Rattle.std.proofs.Common.{◌*◌, rules}
use Rattle.world_core_base.specs.JointEnds.{IsSmall}
use Rattle.world_core_base.proofs.JointEndLaws.{noted, room_left, still_absent}
use Rattle.world_core_base.proofs.joint_ends.note_ends.Goals as goal

pub insert-requires-2-clause-absent : goal.insert-requires-2-clause-absent
insert-requires-2-clause-absent c = still_absent c.args.sets.now.sets c.insert.new.self.sets c.args.ends.a c.args.slot c.insert.ensures.put c.requires.second

pub insert-requires-2-clause-space : goal.insert-requires-2-clause-space
insert-requires-2-clause-space c = room_left c.args.ends.b c.args.ends.a (2 * c.args.slot) c.args.sets.now c.insert.new.self c.insert.ensures.put c.insert.ensures.capacities c.requires.room.second

pub returns : goal.returns
returns c =
    let small : IsSmall c.args.ends = record { first = search rules; second = search rules } in
    noted c.args.sets.now.sets c.insert.new.self.sets c.insert-2.new.self.sets c.args.slot c.args.ends c.insert.ensures.put c.insert-2.ensures.put c.requires.first c.requires.second small
