use Rattle.std.proofs.Common.{sym, ◌∙◌}
use Rattle.box_tree.proofs.IndexLemmas.{room_for, some_within, taken_entry}
use Rattle.box_tree.proofs.boxes.BoxTree.replace.Goals as goal

pub replace-requires-clause-room : goal.replace-requires-clause-room
replace-requires-clause-room c = some_within c.self.inside.boxes.items c.args.key (rw (← c.self.view_is) at c.requires)

pub entry_in-requires : goal.entry_in-requires
entry_in-requires c = rw c.deref.ensures.value (room_for _ c.self.inside.entries.items c.self.inside.boxes.items c.args.key c.self.invariant.index (some_within c.self.inside.boxes.items c.args.key (rw (← c.self.view_is) at c.requires)))

pub unreachable-requires : goal.unreachable-requires
unreachable-requires c = taken_entry _ c.self.inside.entries.items c.self.inside.boxes.items c.args.key c.self.invariant.index (rw (← c.self.view_is) at c.requires) (rw c.deref.ensures.value at (sym c.entry_in.ensures ∙ c.in_default.is))
