use Rattle.std.proofs.Common.{◌∙◌, sym, ap, arith, refl}
use Rattle.islands.specs.Merging.{merged_all}
use Rattle.islands.specs.Packed.{AreMembers, AreScattered, by_slot, labels_by, name_of}
use Rattle.islands.proofs.PartLemmas.{named_partition, short}
use Rattle.islands.proofs.SplitLemmas.{merging_splits}
use Rattle.islands.proofs.StandingLemmas.{slots_size}
use Rattle.islands.proofs.AloneLemmas.{scattered_placed, scattered_labels, scattered_ends}
use Rattle.islands.proofs.scratch.SplitScratch.split.Goals as goal

pub scatter-requires-clause-within : goal.scatter-requires-clause-within
scatter-requires-clause-within c =
    let list : AreMembers (by_slot c.args.node_entries.now c.args.notes.now.items) c.args.part c.list_members.new.members.items = rw (sym c.deref.ensures.value) c.list_members.ensures.members in
    let z = slots_size c.args.node_entries.now c.args.notes.now.items in
    rw c.deref-3.ensures.value (λ s h. let lt = short (by_slot c.args.node_entries.now c.args.notes.now.items) c.args.part s ((list.all s).0 h) in let size = c.requires.standing.size in omega (arith, lt, z, size))

pub merge_all-requires-clause-standing : goal.merge_all-requires-clause-standing
merge_all-requires-clause-standing c =
    let list : AreMembers (by_slot c.args.node_entries.now c.args.notes.now.items) c.args.part c.list_members.new.members.items = rw (sym c.deref.ensures.value) c.list_members.ensures.members in
    let scattered : AreScattered c.args.node_entries.now c.args.notes.now.items c.args.heads.now.items c.list_members.new.members.items c.scatter.new.notes.items c.scatter.new.heads.items = rw (sym c.deref-3.ensures.value) c.scatter.ensures.scattered in
    scattered_placed c.args.node_entries.now c.args.notes.now.items c.args.heads.now.items c.args.part c.list_members.new.members.items c.scatter.new.notes.items c.scatter.new.heads.items c.requires.standing list scattered

pub merge_all-requires-clause-ends : goal.merge_all-requires-clause-ends
merge_all-requires-clause-ends c =
    let list : AreMembers (by_slot c.args.node_entries.now c.args.notes.now.items) c.args.part c.list_members.new.members.items = rw (sym c.deref.ensures.value) c.list_members.ensures.members in
    let scattered : AreScattered c.args.node_entries.now c.args.notes.now.items c.args.heads.now.items c.list_members.new.members.items c.scatter.new.notes.items c.scatter.new.heads.items = rw (sym c.deref-3.ensures.value) c.scatter.ensures.scattered in
    scattered_ends c.args.node_entries.now c.args.notes.now.items c.args.heads.now.items c.args.part c.list_members.new.members.items c.scatter.new.notes.items c.scatter.new.heads.items c.args.edges.now c.requires.standing c.requires.part list scattered c.requires.inside

pub returns-clause-labels : goal.returns-clause-labels
returns-clause-labels c =
    let list : AreMembers (by_slot c.args.node_entries.now c.args.notes.now.items) c.args.part c.list_members.new.members.items = rw (sym c.deref.ensures.value) c.list_members.ensures.members in
    let scattered : AreScattered c.args.node_entries.now c.args.notes.now.items c.args.heads.now.items c.list_members.new.members.items c.scatter.new.notes.items c.scatter.new.heads.items = rw (sym c.deref-3.ensures.value) c.scatter.ensures.scattered in
    c.merge_all.ensures.labels ∙ ap (λ l. merged_all l c.args.edges.now) (scattered_labels c.args.node_entries.now c.args.notes.now.items c.args.heads.now.items (name_of c.args.heads.now.items c.args.part) c.args.part c.list_members.new.members.items c.scatter.new.notes.items c.scatter.new.heads.items c.requires.standing c.requires.part refl list scattered)
    ∙ merging_splits (labels_by c.args.node_entries.now c.args.notes.now.items c.args.heads.now.items) (name_of c.args.heads.now.items c.args.part) c.args.edges.now (named_partition (by_slot c.args.node_entries.now c.args.notes.now.items) c.args.heads.now.items c.requires.standing.named) c.requires.inside
