use Rattle.std.proofs.Common.{◌≡◌, None, vec_capacity}
use Rattle.islands.specs.Labels.{label_at}
use Rattle.islands.specs.Packed.{by_slot, labels_by}
use Rattle.islands.proofs.GroupLemmas.{kept_added, no_note}
use Rattle.islands.proofs.islands.Islands.add.Goals as goal

pub add_part-requires-clause-fresh : goal.add_part-requires-clause-fresh
add_part-requires-clause-fresh c =
    let fresh : label_at (labels_by c.self.inside.node_entries.items c.self.inside.notes.items c.self.inside.heads.items) c.args.slot ≡ None = rw (← c.self.view_is) at c.requires.fresh in
    no_note (by_slot c.self.inside.node_entries.items c.self.inside.notes.items) c.self.inside.heads.items c.args.slot fresh

pub invariant_of-self : goal.invariant_of-self
invariant_of-self c = kept_added c.self.inside.node_entries.items c.self.inside.notes.items c.self.inside.heads.items c.add_part.new.node_entries.items c.add_part.new.notes.items c.add_part.new.heads.items (vec_capacity c.self.inside.node_entries) (vec_capacity c.self.inside.notes) (vec_capacity c.self.inside.heads) (vec_capacity c.add_part.new.node_entries) (vec_capacity c.add_part.new.notes) (vec_capacity c.add_part.new.heads) c.self.inside.room c.args.slot
    c.self.invariant c.add_part.ensures.standing c.add_part.ensures.labels c.ranges.slot.fits c.add_part.ensures.node_entries_capacity c.add_part.ensures.capacity c.add_part.ensures.heads_capacity
