use Rattle.std.proofs.Common.{arith, sym, vec_capacity}
use Rattle.islands.specs.Labels.{split_by}
use Rattle.islands.specs.Partition.{Inside}
use Rattle.islands.specs.Packed.{IsStanding, by_slot, labels_by}
use Rattle.std.proofs.Common.{◌≡◌}
use Rattle.islands.proofs.PartLemmas.{named_partition}
use Rattle.islands.proofs.SplitLemmas.{split_is}
use Rattle.islands.proofs.GroupLemmas.{kept_same}
use Rattle.islands.proofs.islands.Islands.split.Goals as goal

pub invariant_of-self : goal.invariant_of-self
invariant_of-self c =
    let standing : IsStanding c.self.inside.node_entries.items c.split_island.new.notes.items c.split_island.new.heads.items = rw (sym c.deref.ensures.value) c.split_island.ensures.standing in
    kept_same c.self.inside.node_entries.items c.self.inside.notes.items c.self.inside.heads.items c.self.inside.node_entries.items c.split_island.new.notes.items c.split_island.new.heads.items (vec_capacity c.self.inside.node_entries) (vec_capacity c.self.inside.notes) (vec_capacity c.self.inside.heads) (vec_capacity c.self.inside.node_entries) (vec_capacity c.split_island.new.notes) (vec_capacity c.split_island.new.heads) c.self.inside.room
    c.self.invariant standing c.split_island.ensures.size (omega arith) c.split_island.ensures.capacity c.split_island.ensures.heads_capacity

pub split_island-requires-clause-inside : goal.split_island-requires-clause-inside
split_island-requires-clause-inside c =
    let inside : Inside (labels_by c.self.inside.node_entries.items c.self.inside.notes.items c.self.inside.heads.items) c.args.name c.args.edges.now = rw (← c.self.view_is) at c.requires.inside in
    rw c.deref.ensures.value inside

pub returns-clause-components : goal.returns-clause-components
returns-clause-components c =
    let inside : Inside (labels_by c.self.inside.node_entries.items c.self.inside.notes.items c.self.inside.heads.items) c.args.name c.args.edges.now = rw (← c.self.view_is) at c.requires.inside in
    let is : labels_by c.self.inside.node_entries.items c.split_island.new.notes.items c.split_island.new.heads.items ≡ split_by (labels_by c.self.inside.node_entries.items c.self.inside.notes.items c.self.inside.heads.items) c.args.name c.args.edges.now = rw (sym c.deref.ensures.value) c.split_island.ensures.labels in
    rw (← c.self.view_is) (rw is (split_is (labels_by c.self.inside.node_entries.items c.self.inside.notes.items c.self.inside.heads.items) c.args.name c.args.edges.now (named_partition (by_slot c.self.inside.node_entries.items c.self.inside.notes.items) c.self.inside.heads.items c.self.invariant.standing.named) inside))
