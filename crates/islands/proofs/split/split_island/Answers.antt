use Rattle.std.proofs.Common.{Option, ℕ, sym, ap, ◌∙◌, subst}
use Rattle.islands.specs.Labels.{split_by}
use Rattle.islands.specs.Partition.{Inside}
use Rattle.islands.specs.Packed.{IsNamedPart, labels_by}
use Rattle.islands.proofs.AloneLemmas.{nobody_split}
use Rattle.islands.proofs.split.split_island.Goals as goal

pub split-requires-clause-inside : goal.split-requires-clause-inside
split-requires-clause-inside c =
    let P : Option ℕ → Type 0 = λ o. IsNamedPart c.args.node_entries.now c.args.notes.now.items c.args.heads.now.items c.args.name o in
    let named : P c.part_named.result = rw (sym c.deref.ensures.value, sym c.deref-2.ensures.value) c.part_named.ensures.named in
    let Q : ℕ → Type 0 = λ n. Inside (labels_by c.args.node_entries.now c.args.notes.now.items c.args.heads.now.items) n c.args.edges.now in
    subst Q (sym (subst P c.in-Some.is named).1) c.requires.inside

pub returns-in-Some-clause-labels : goal.returns-in-Some-clause-labels
returns-in-Some-clause-labels c =
    let P : Option ℕ → Type 0 = λ o. IsNamedPart c.args.node_entries.now c.args.notes.now.items c.args.heads.now.items c.args.name o in
    let named : P c.part_named.result = rw (sym c.deref.ensures.value, sym c.deref-2.ensures.value) c.part_named.ensures.named in
    c.split.ensures.labels ∙ ap (λ n. split_by (labels_by c.args.node_entries.now c.args.notes.now.items c.args.heads.now.items) n c.args.edges.now) (subst P c.in-Some.is named).1

pub returns-in_default-clause-labels : goal.returns-in_default-clause-labels
returns-in_default-clause-labels c =
    let P : Option ℕ → Type 0 = λ o. IsNamedPart c.args.node_entries.now c.args.notes.now.items c.args.heads.now.items c.args.name o in
    let named : P c.part_named.result = rw (sym c.deref.ensures.value, sym c.deref-2.ensures.value) c.part_named.ensures.named in
    nobody_split (labels_by c.args.node_entries.now c.args.notes.now.items c.args.heads.now.items) c.args.name c.args.edges.now (subst P c.in_default.is named)
