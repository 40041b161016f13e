use Rattle.std.proofs.Common.{arith}
use Rattle.box_tree.proofs.IndexLemmas.{few_leaves, room_for, free_entry, new_rank, index_insert}
use Rattle.box_tree.proofs.index.insert.Goals as goal

pub key_entry_for-entry-requires : goal.key_entry_for-entry-requires
key_entry_for-entry-requires c = omega (arith, c.requires.room, c.requires.index.few)

pub insert-requires-clause-free : goal.insert-requires-clause-free
insert-requires-clause-free c = free_entry _ c.args.entries.now.items c.args.boxes.now.items c.args.key c.requires.index c.requires.free

pub insert-requires-clause-other : goal.insert-requires-clause-other
insert-requires-clause-other c = new_rank _ c.args.entries.now.items c.args.boxes.now.items c.args.key c.key_entry_for-entry.result.rank c.requires.index (insert-requires-clause-free c) c.key_entry_for-entry.ensures.rank

pub insert-requires-clause-few : goal.insert-requires-clause-few
insert-requires-clause-few c = omega (arith, few_leaves _ c.args.entries.now.items c.args.boxes.now.items c.requires.index)

pub insert-requires-clause-room : goal.insert-requires-clause-room
insert-requires-clause-room c = room_for _ c.args.entries.now.items c.args.boxes.now.items c.args.key c.requires.index c.requires.room

pub returns-clause-index : goal.returns-clause-index
returns-clause-index c = rw c.in_ok-insert.ensures.entries (index_insert _ _ c.args.entries.now.items c.args.boxes.now.items c.args.key c.key_entry_for-entry.result c.args.bounds.now c.requires.index c.requires.room c.requires.free (record { inside = c.key_entry_for-entry.ensures.inside; rank = c.key_entry_for-entry.ensures.rank }) c.in_ok-insert.ensures.added (rw c.in_ok-insert.ensures.entries at c.in_ok-insert.ensures.kept))
