use Rattle.std.proofs.Common.{arith}
use Rattle.box_tree.specs.Tables.{leaf_of}
use Rattle.box_tree.proofs.IndexLemmas.{few_leaves, room_for, ranked_entry, moved_rank, index_move}
use Rattle.box_tree.proofs.index.moved.Goals as goal

pub key_entry_after-entry-requires-clause-room : goal.key_entry_after-entry-requires-clause-room
key_entry_after-entry-requires-clause-room c = omega (arith, c.requires.room, c.requires.index.few)

pub key_entry_after-entry-requires-clause-old : goal.key_entry_after-entry-requires-clause-old
key_entry_after-entry-requires-clause-old c = ranked_entry _ c.args.entries.now.items c.args.boxes.now.items c.args.key c.args.old.now c.requires.index c.requires.entry

pub replace-requires-clause-other : goal.replace-requires-clause-other
replace-requires-clause-other c = λ rest a. moved_rank _ rest c.args.entries.now.items c.args.boxes.now.items (leaf_of c.args.key c.args.old.now) c.key_entry_after-entry.result.rank c.requires.index c.key_entry_after-entry.ensures.rank a

pub replace-requires-clause-few : goal.replace-requires-clause-few
replace-requires-clause-few c = omega (arith, few_leaves _ c.args.entries.now.items c.args.boxes.now.items c.requires.index)

pub replace-requires-clause-room : goal.replace-requires-clause-room
replace-requires-clause-room c = room_for _ c.args.entries.now.items c.args.boxes.now.items c.args.key c.requires.index c.requires.room

pub returns-clause-index : goal.returns-clause-index
returns-clause-index c = rw c.replace.ensures.entries (index_move _ _ c.args.entries.now.items c.args.boxes.now.items c.args.key c.args.old.now c.key_entry_after-entry.result c.args.bounds.now c.requires.index c.requires.entry (record { inside = c.key_entry_after-entry.ensures.inside; rank = c.key_entry_after-entry.ensures.rank }) c.replace.ensures.moved (rw c.replace.ensures.entries at c.replace.ensures.kept))
