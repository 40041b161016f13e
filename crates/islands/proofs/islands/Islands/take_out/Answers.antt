use Rattle.std.proofs.Common.{vec_capacity}
use Rattle.std.specs.Prelude.{IsSome}
use Rattle.islands.specs.Labels.{label_at}
use Rattle.islands.specs.Packed.{by_slot, labels_by}
use Rattle.islands.proofs.GroupLemmas.{kept_same, some_note}
use Rattle.islands.proofs.islands.Islands.take_out.Goals as goal

pub leave-requires-clause-mover : goal.leave-requires-clause-mover
leave-requires-clause-mover c =
    let there : IsSome (label_at (labels_by c.self.inside.node_entries.items c.self.inside.notes.items c.self.inside.heads.items) c.args.slot) = rw (← c.self.view_is) at c.requires.mover in
    some_note (by_slot c.self.inside.node_entries.items c.self.inside.notes.items) c.self.inside.heads.items c.args.slot there

pub invariant_of-self : goal.invariant_of-self
invariant_of-self c = kept_same c.self.inside.node_entries.items c.self.inside.notes.items c.self.inside.heads.items c.leave.new.node_entries.items c.leave.new.notes.items c.leave.new.heads.items (vec_capacity c.self.inside.node_entries) (vec_capacity c.self.inside.notes) (vec_capacity c.self.inside.heads) (vec_capacity c.leave.new.node_entries) (vec_capacity c.leave.new.notes) (vec_capacity c.leave.new.heads) c.self.inside.room c.self.invariant c.leave.ensures.standing c.leave.ensures.size c.leave.ensures.node_entries_capacity c.leave.ensures.capacity c.leave.ensures.heads_capacity
