use Rattle.std.proofs.Common.{arith}
use Rattle.packed_sets.proofs.MarkLaws.{marks_put, room_left}
use Rattle.packed_sets.proofs.marks.mark_new.Goals as goal

pub push_slot-requires : goal.push_slot-requires
push_slot-requires c = let left = room_left c.args.flags.now.items c.args.slots.now.items _ c.args.slot c.requires.kept c.requires.unmarked in omega (arith, left)

pub returns-clause-kept : goal.returns-clause-kept
returns-clause-kept c = marks_put c.args.flags.now.items c.args.slots.now.items c.push_slot.new.slots.items _ _ c.args.slot c.requires.kept c.requires.unmarked c.push_slot.ensures.items c.push_slot.ensures.capacity
