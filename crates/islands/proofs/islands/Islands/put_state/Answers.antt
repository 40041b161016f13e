use Rattle.std.proofs.Common.{◌≡◌, Some, sym, ap, ◌∙◌}
use Rattle.islands.specs.Labels.{IsIn, with_state}
use Rattle.islands.specs.Standing.{NodeEntries}
use Rattle.islands.specs.Packed.{IsStanding, by_slot, labels_by, name_of, note_at, part_in}
use Rattle.islands.proofs.GroupLemmas.{named_part}
use Rattle.islands.proofs.PlacedLemmas.{led_by}
use Rattle.islands.proofs.islands.Islands.put_state.Goals as goal

pub set_state-requires-clause-part : goal.set_state-requires-clause-part
set_state-requires-clause-part c =
    let e : part_in (note_at (by_slot c.self.inside.node_entries.items c.self.inside.notes.items) c.args.label.name) ≡ Some c.part_at-part.result = rw (sym c.deref.ensures.value, sym c.deref-2.ensures.value) c.part_at-part.ensures in
    rw c.deref-3.ensures.value (led_by c.self.inside.node_entries.items c.self.inside.notes.items c.self.inside.heads.items c.args.label.name c.part_at-part.result c.self.invariant.standing e)

pub returns-clause-labels : goal.returns-clause-labels
returns-clause-labels c =
    let e : part_in (note_at (by_slot c.self.inside.node_entries.items c.self.inside.notes.items) c.args.label.name) ≡ Some c.part_at-part.result = rw (sym c.deref.ensures.value, sym c.deref-2.ensures.value) c.part_at-part.ensures in
    let law : (node_entries : NodeEntries) → IsStanding node_entries c.self.inside.notes.items c.self.inside.heads.items → labels_by node_entries c.self.inside.notes.items c.set_state.new.heads.items ≡ with_state (name_of c.self.inside.heads.items c.part_at-part.result) c.args.label.state (labels_by node_entries c.self.inside.notes.items c.self.inside.heads.items) = rw (sym c.deref-3.ensures.value) c.set_state.ensures.labels in
    let is : labels_by c.self.inside.node_entries.items c.self.inside.notes.items c.set_state.new.heads.items ≡ with_state (name_of c.self.inside.heads.items c.part_at-part.result) c.args.label.state (labels_by c.self.inside.node_entries.items c.self.inside.notes.items c.self.inside.heads.items) = law c.self.inside.node_entries.items c.self.invariant.standing in
    let here : IsIn (labels_by c.self.inside.node_entries.items c.self.inside.notes.items c.self.inside.heads.items) c.args.label.name c.args.label.name = rw (← c.self.view_is) at c.requires in
    rw (← c.self.view_is) (is ∙ ap (λ n. with_state n c.args.label.state (labels_by c.self.inside.node_entries.items c.self.inside.notes.items c.self.inside.heads.items)) (named_part (by_slot c.self.inside.node_entries.items c.self.inside.notes.items) c.self.inside.heads.items c.args.label.name c.part_at-part.result here e))
