use Rattle.std.proofs.Common.{arith}
use Rattle.box_tree.proofs.IndexLemmas.{few_leaves, room_for, index_remove}
use Rattle.box_tree.proofs.index.remove.Goals as goal

pub remove-requires-clause-few : goal.remove-requires-clause-few
remove-requires-clause-few c = omega (arith, few_leaves _ c.args.entries.now.items c.args.boxes.now.items c.requires.index)

pub remove-requires-clause-room : goal.remove-requires-clause-room
remove-requires-clause-room c = room_for _ c.args.entries.now.items c.args.boxes.now.items c.args.key c.requires.index c.requires.room

pub returns-clause-index : goal.returns-clause-index
returns-clause-index c = rw c.remove.ensures.entries (index_remove _ _ c.args.entries.now.items c.args.boxes.now.items c.args.key c.args.entry.now c.requires.index c.requires.entry c.remove.ensures.removed (rw c.remove.ensures.entries at c.remove.ensures.kept))
