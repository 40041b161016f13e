use Rattle.std.proofs.Common.{◌≡◌, Some, sym, ◌∙◌}
use Rattle.islands.specs.Packed.{by_slot, note_at, part_in}
use Rattle.islands.proofs.JoinPartLemmas.{merged_movers}
use Rattle.islands.proofs.PlacedLemmas.{led_by}
use Rattle.islands.proofs.merge.merge_movers.Goals as goal

pub merge_parts-requires-clause-first : goal.merge_parts-requires-clause-first
merge_parts-requires-clause-first c =
    let x : part_in (note_at (by_slot c.args.node_entries.now c.args.notes.now.items) c.args.a) ≡ Some c.part_at-x.result = rw (sym c.deref.ensures.value) c.part_at-x.ensures in
    led_by c.args.node_entries.now c.args.notes.now.items c.args.heads.now.items c.args.a c.part_at-x.result c.requires.standing x

pub merge_parts-requires-clause-second : goal.merge_parts-requires-clause-second
merge_parts-requires-clause-second c =
    let y : part_in (note_at (by_slot c.args.node_entries.now c.args.notes.now.items) c.args.b) ≡ Some c.part_at-y.result = rw (sym c.deref-2.ensures.value) c.part_at-y.ensures in
    led_by c.args.node_entries.now c.args.notes.now.items c.args.heads.now.items c.args.b c.part_at-y.result c.requires.standing y

pub returns-clause-standing : goal.returns-clause-standing
returns-clause-standing c = c.merge_parts.ensures.standing c.args.node_entries.now c.requires.standing

pub returns-clause-labels : goal.returns-clause-labels
returns-clause-labels c =
    let x : part_in (note_at (by_slot c.args.node_entries.now c.args.notes.now.items) c.args.a) ≡ Some c.part_at-x.result = rw (sym c.deref.ensures.value) c.part_at-x.ensures in
    let y : part_in (note_at (by_slot c.args.node_entries.now c.args.notes.now.items) c.args.b) ≡ Some c.part_at-y.result = rw (sym c.deref-2.ensures.value) c.part_at-y.ensures in
    c.merge_parts.ensures.labels c.args.node_entries.now c.requires.standing ∙ sym (merged_movers (by_slot c.args.node_entries.now c.args.notes.now.items) c.args.heads.now.items c.args.a c.args.b c.part_at-x.result c.part_at-y.result x y)
