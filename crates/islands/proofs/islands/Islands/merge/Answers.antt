use Rattle.std.proofs.Common.{arith, sym, vec_capacity}
use Rattle.std.specs.Prelude.{IsSome}
use Rattle.islands.specs.Labels.{label_at}
use Rattle.islands.specs.Packed.{IsStanding, by_slot, labels_by}
use Rattle.islands.proofs.GroupLemmas.{kept_same, some_note}
use Rattle.islands.proofs.islands.Islands.merge.Goals as goal

pub merge_movers-requires-clause-first : goal.merge_movers-requires-clause-first
merge_movers-requires-clause-first c =
    let there : IsSome (label_at (labels_by c.self.inside.node_entries.items c.self.inside.notes.items c.self.inside.heads.items) c.args.a) = rw (← c.self.view_is) at c.requires.first in
    rw c.deref.ensures.value (some_note (by_slot c.self.inside.node_entries.items c.self.inside.notes.items) c.self.inside.heads.items c.args.a there)

pub merge_movers-requires-clause-second : goal.merge_movers-requires-clause-second
merge_movers-requires-clause-second c =
    let there : IsSome (label_at (labels_by c.self.inside.node_entries.items c.self.inside.notes.items c.self.inside.heads.items) c.args.b) = rw (← c.self.view_is) at c.requires.second in
    rw c.deref.ensures.value (some_note (by_slot c.self.inside.node_entries.items c.self.inside.notes.items) c.self.inside.heads.items c.args.b there)

pub invariant_of-self : goal.invariant_of-self
invariant_of-self c =
    let standing : IsStanding c.self.inside.node_entries.items c.merge_movers.new.notes.items c.merge_movers.new.heads.items = rw (sym c.deref.ensures.value) c.merge_movers.ensures.standing in
    kept_same c.self.inside.node_entries.items c.self.inside.notes.items c.self.inside.heads.items c.self.inside.node_entries.items c.merge_movers.new.notes.items c.merge_movers.new.heads.items (vec_capacity c.self.inside.node_entries) (vec_capacity c.self.inside.notes) (vec_capacity c.self.inside.heads) (vec_capacity c.self.inside.node_entries) (vec_capacity c.merge_movers.new.notes) (vec_capacity c.merge_movers.new.heads) c.self.inside.room
    c.self.invariant standing c.merge_movers.ensures.size (omega arith) c.merge_movers.ensures.capacity c.merge_movers.ensures.heads_capacity
