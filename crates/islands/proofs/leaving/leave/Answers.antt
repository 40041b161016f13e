use Rattle.std.proofs.Common.{◌≡◌, ◌<◌, length, Some, sym, ap, ◌∙◌, arith}
use Rattle.islands.specs.declared.threads.Head.{Head}
use Rattle.islands.specs.Standing.{AreExchanged, slot_at}
use Rattle.islands.specs.Packed.{InPart, IsLowestIn, by_slot, head_at, no_head, note_at, part_in}
use Rattle.islands.proofs.SlotLemmas.{any_default}
use Rattle.islands.proofs.PartLemmas.{in_of_part}
use Rattle.islands.proofs.PlacedLemmas.{led_by, led_short}
use Rattle.islands.proofs.LeftLemmas.{HasLeft, dropped_size, first_short, has_left, leaves_none, leaves_some, left_by}
use Rattle.islands.proofs.leaving.leave.Goals as goal

pub come_first-requires-clause-part : goal.come_first-requires-clause-part
come_first-requires-clause-part c =
    let e : part_in (note_at (by_slot c.args.node_entries.now.items c.args.notes.now.items) c.args.slot) ≡ Some c.part_at-part.result = rw (sym c.deref.ensures.value, sym c.deref-2.ensures.value) c.part_at-part.ensures in
    let led : InPart c.args.notes.now.items c.part_at-part.result c.part_at-part.result = led_by c.args.node_entries.now.items c.args.notes.now.items c.args.heads.now.items c.args.slot c.part_at-part.result c.requires.standing e in
    rw c.deref-3.ensures.value (led_short c.args.notes.now.items c.args.heads.now.items c.part_at-part.result c.requires.standing.packed led)

pub come_first-requires-clause-first : goal.come_first-requires-clause-first
come_first-requires-clause-first c =
    let e : part_in (note_at (by_slot c.args.node_entries.now.items c.args.notes.now.items) c.args.slot) ≡ Some c.part_at-part.result = rw (sym c.deref.ensures.value, sym c.deref-2.ensures.value) c.part_at-part.ensures in
    let led : InPart c.args.notes.now.items c.part_at-part.result c.part_at-part.result = led_by c.args.node_entries.now.items c.args.notes.now.items c.args.heads.now.items c.args.slot c.part_at-part.result c.requires.standing e in
    rw c.deref-3.ensures.value (first_short c.args.node_entries.now.items c.args.notes.now.items c.args.heads.now.items c.part_at-part.result c.requires.standing led)

pub drop_first-requires-clause-part : goal.drop_first-requires-clause-part
drop_first-requires-clause-part c =
    let e : part_in (note_at (by_slot c.args.node_entries.now.items c.args.notes.now.items) c.args.slot) ≡ Some c.part_at-part.result = rw (sym c.deref.ensures.value, sym c.deref-2.ensures.value) c.part_at-part.ensures in
    let led : InPart c.args.notes.now.items c.part_at-part.result c.part_at-part.result = led_by c.args.node_entries.now.items c.args.notes.now.items c.args.heads.now.items c.args.slot c.part_at-part.result c.requires.standing e in
    led

pub index-requires : goal.index-requires
index-requires c =
    let e : part_in (note_at (by_slot c.args.node_entries.now.items c.args.notes.now.items) c.args.slot) ≡ Some c.part_at-part.result = rw (sym c.deref.ensures.value, sym c.deref-2.ensures.value) c.part_at-part.ensures in
    let led : InPart c.args.notes.now.items c.part_at-part.result c.part_at-part.result = led_by c.args.node_entries.now.items c.args.notes.now.items c.args.heads.now.items c.args.slot c.part_at-part.result c.requires.standing e in
    let lt : c.part_at-part.result < length c.args.heads.now.items = led_short c.args.notes.now.items c.args.heads.now.items c.part_at-part.result c.requires.standing.packed led in
    let size : length c.drop_first.new.heads.items ≡ length c.args.heads.now.items = dropped_size c.args.notes.now.items c.args.heads.now.items c.part_at-part.result c.drop_first.new.notes.items c.drop_first.new.heads.items c.drop_first.ensures.dropped in
    let also : c.part_at-part.result < length c.drop_first.new.heads.items = omega (arith, lt, size) in
    omega (arith, also, c.drop_first.new.heads.ok.0)

pub lowest_left-name-requires-clause-packed : goal.lowest_left-name-requires-clause-packed
lowest_left-name-requires-clause-packed c =
    let e : part_in (note_at (by_slot c.args.node_entries.now.items c.args.notes.now.items) c.args.slot) ≡ Some c.part_at-part.result = rw (sym c.deref.ensures.value, sym c.deref-2.ensures.value) c.part_at-part.ensures in
    let led : InPart c.args.notes.now.items c.part_at-part.result c.part_at-part.result = led_by c.args.node_entries.now.items c.args.notes.now.items c.args.heads.now.items c.args.slot c.part_at-part.result c.requires.standing e in
    let there : InPart (by_slot c.args.node_entries.now.items c.args.notes.now.items) c.part_at-part.result c.args.slot = in_of_part (note_at (by_slot c.args.node_entries.now.items c.args.notes.now.items) c.args.slot) c.part_at-part.result e in
    let x : AreExchanged c.args.node_entries.now.items c.args.slot (slot_at c.args.node_entries.now.items (head_at c.args.heads.now.items c.part_at-part.result).first) c.come_first.new.node_entries.items = rw (sym c.deref-3.ensures.value) c.come_first.ensures.exchanged in
    let left : HasLeft c.args.node_entries.now.items c.args.notes.now.items c.args.heads.now.items c.args.slot c.part_at-part.result c.come_first.new.node_entries.items c.drop_first.new.notes.items c.drop_first.new.heads.items = has_left c.args.node_entries.now.items c.come_first.new.node_entries.items c.args.notes.now.items c.args.heads.now.items c.part_at-part.result c.args.slot c.drop_first.new.notes.items c.drop_first.new.heads.items c.requires.standing there x c.drop_first.ensures.dropped in
    rw (c.deref-then-index-gt0-2.ensures.value, c.deref-then-index-gt0-3.ensures.value) left.packed

pub lowest_left-name-requires-clause-part : goal.lowest_left-name-requires-clause-part
lowest_left-name-requires-clause-part c =
    let e : part_in (note_at (by_slot c.args.node_entries.now.items c.args.notes.now.items) c.args.slot) ≡ Some c.part_at-part.result = rw (sym c.deref.ensures.value, sym c.deref-2.ensures.value) c.part_at-part.ensures in
    let led : InPart c.args.notes.now.items c.part_at-part.result c.part_at-part.result = led_by c.args.node_entries.now.items c.args.notes.now.items c.args.heads.now.items c.args.slot c.part_at-part.result c.requires.standing e in
    let lt : c.part_at-part.result < length c.args.heads.now.items = led_short c.args.notes.now.items c.args.heads.now.items c.part_at-part.result c.requires.standing.packed led in
    let there : InPart (by_slot c.args.node_entries.now.items c.args.notes.now.items) c.part_at-part.result c.args.slot = in_of_part (note_at (by_slot c.args.node_entries.now.items c.args.notes.now.items) c.args.slot) c.part_at-part.result e in
    let x : AreExchanged c.args.node_entries.now.items c.args.slot (slot_at c.args.node_entries.now.items (head_at c.args.heads.now.items c.part_at-part.result).first) c.come_first.new.node_entries.items = rw (sym c.deref-3.ensures.value) c.come_first.ensures.exchanged in
    let left : HasLeft c.args.node_entries.now.items c.args.notes.now.items c.args.heads.now.items c.args.slot c.part_at-part.result c.come_first.new.node_entries.items c.drop_first.new.notes.items c.drop_first.new.heads.items = has_left c.args.node_entries.now.items c.come_first.new.node_entries.items c.args.notes.now.items c.args.heads.now.items c.part_at-part.result c.args.slot c.drop_first.new.notes.items c.drop_first.new.heads.items c.requires.standing there x c.drop_first.ensures.dropped in
    let size : length c.drop_first.new.heads.items ≡ length c.args.heads.now.items = dropped_size c.args.notes.now.items c.args.heads.now.items c.part_at-part.result c.drop_first.new.notes.items c.drop_first.new.heads.items c.drop_first.ensures.dropped in
    let also : c.part_at-part.result < length c.drop_first.new.heads.items = omega (arith, lt, size) in
    let at : c.index.result.now ≡ head_at c.drop_first.new.heads.items c.part_at-part.result = c.index.ensures ∙ any_default c.drop_first.new.heads.items c.part_at-part.result c.index.result.now no_head also in
    let count : c.index.result.now.count ≡ (head_at c.drop_first.new.heads.items c.part_at-part.result).count = ap (λ (h : Head). h.count) at in
    let more : 0 < (head_at c.drop_first.new.heads.items c.part_at-part.result).count = omega (arith, count, c.if-index-gt0.true) in
    rw c.deref-then-index-gt0-2.ensures.value (left.led more)

pub lowest_left-name-requires-clause-left : goal.lowest_left-name-requires-clause-left
lowest_left-name-requires-clause-left c =
    let e : part_in (note_at (by_slot c.args.node_entries.now.items c.args.notes.now.items) c.args.slot) ≡ Some c.part_at-part.result = rw (sym c.deref.ensures.value, sym c.deref-2.ensures.value) c.part_at-part.ensures in
    let led : InPart c.args.notes.now.items c.part_at-part.result c.part_at-part.result = led_by c.args.node_entries.now.items c.args.notes.now.items c.args.heads.now.items c.args.slot c.part_at-part.result c.requires.standing e in
    let there : InPart (by_slot c.args.node_entries.now.items c.args.notes.now.items) c.part_at-part.result c.args.slot = in_of_part (note_at (by_slot c.args.node_entries.now.items c.args.notes.now.items) c.args.slot) c.part_at-part.result e in
    let x : AreExchanged c.args.node_entries.now.items c.args.slot (slot_at c.args.node_entries.now.items (head_at c.args.heads.now.items c.part_at-part.result).first) c.come_first.new.node_entries.items = rw (sym c.deref-3.ensures.value) c.come_first.ensures.exchanged in
    let left : HasLeft c.args.node_entries.now.items c.args.notes.now.items c.args.heads.now.items c.args.slot c.part_at-part.result c.come_first.new.node_entries.items c.drop_first.new.notes.items c.drop_first.new.heads.items = has_left c.args.node_entries.now.items c.come_first.new.node_entries.items c.args.notes.now.items c.args.heads.now.items c.part_at-part.result c.args.slot c.drop_first.new.notes.items c.drop_first.new.heads.items c.requires.standing there x c.drop_first.ensures.dropped in
    rw (c.deref-then-index-gt0.ensures.value, c.deref-then-index-gt0-2.ensures.value, c.deref-then-index-gt0-3.ensures.value) (left_by c.args.node_entries.now.items c.args.notes.now.items c.args.heads.now.items c.args.slot c.part_at-part.result c.come_first.new.node_entries.items c.drop_first.new.notes.items c.drop_first.new.heads.items c.requires.standing.named left)

pub set_label-requires : goal.set_label-requires
set_label-requires c =
    let e : part_in (note_at (by_slot c.args.node_entries.now.items c.args.notes.now.items) c.args.slot) ≡ Some c.part_at-part.result = rw (sym c.deref.ensures.value, sym c.deref-2.ensures.value) c.part_at-part.ensures in
    let led : InPart c.args.notes.now.items c.part_at-part.result c.part_at-part.result = led_by c.args.node_entries.now.items c.args.notes.now.items c.args.heads.now.items c.args.slot c.part_at-part.result c.requires.standing e in
    let lt : c.part_at-part.result < length c.args.heads.now.items = led_short c.args.notes.now.items c.args.heads.now.items c.part_at-part.result c.requires.standing.packed led in
    let size : length c.drop_first.new.heads.items ≡ length c.args.heads.now.items = dropped_size c.args.notes.now.items c.args.heads.now.items c.part_at-part.result c.drop_first.new.notes.items c.drop_first.new.heads.items c.drop_first.ensures.dropped in
    let also : c.part_at-part.result < length c.drop_first.new.heads.items = omega (arith, lt, size) in
    also

pub returns-then-index-gt0-clause-standing : goal.returns-then-index-gt0-clause-standing
returns-then-index-gt0-clause-standing c =
    let e : part_in (note_at (by_slot c.args.node_entries.now.items c.args.notes.now.items) c.args.slot) ≡ Some c.part_at-part.result = rw (sym c.deref.ensures.value, sym c.deref-2.ensures.value) c.part_at-part.ensures in
    let led : InPart c.args.notes.now.items c.part_at-part.result c.part_at-part.result = led_by c.args.node_entries.now.items c.args.notes.now.items c.args.heads.now.items c.args.slot c.part_at-part.result c.requires.standing e in
    let lt : c.part_at-part.result < length c.args.heads.now.items = led_short c.args.notes.now.items c.args.heads.now.items c.part_at-part.result c.requires.standing.packed led in
    let there : InPart (by_slot c.args.node_entries.now.items c.args.notes.now.items) c.part_at-part.result c.args.slot = in_of_part (note_at (by_slot c.args.node_entries.now.items c.args.notes.now.items) c.args.slot) c.part_at-part.result e in
    let x : AreExchanged c.args.node_entries.now.items c.args.slot (slot_at c.args.node_entries.now.items (head_at c.args.heads.now.items c.part_at-part.result).first) c.come_first.new.node_entries.items = rw (sym c.deref-3.ensures.value) c.come_first.ensures.exchanged in
    let left : HasLeft c.args.node_entries.now.items c.args.notes.now.items c.args.heads.now.items c.args.slot c.part_at-part.result c.come_first.new.node_entries.items c.drop_first.new.notes.items c.drop_first.new.heads.items = has_left c.args.node_entries.now.items c.come_first.new.node_entries.items c.args.notes.now.items c.args.heads.now.items c.part_at-part.result c.args.slot c.drop_first.new.notes.items c.drop_first.new.heads.items c.requires.standing there x c.drop_first.ensures.dropped in
    let size : length c.drop_first.new.heads.items ≡ length c.args.heads.now.items = dropped_size c.args.notes.now.items c.args.heads.now.items c.part_at-part.result c.drop_first.new.notes.items c.drop_first.new.heads.items c.drop_first.ensures.dropped in
    let also : c.part_at-part.result < length c.drop_first.new.heads.items = omega (arith, lt, size) in
    let at : c.index.result.now ≡ head_at c.drop_first.new.heads.items c.part_at-part.result = c.index.ensures ∙ any_default c.drop_first.new.heads.items c.part_at-part.result c.index.result.now no_head also in
    let count : c.index.result.now.count ≡ (head_at c.drop_first.new.heads.items c.part_at-part.result).count = ap (λ (h : Head). h.count) at in
    let more : 0 < (head_at c.drop_first.new.heads.items c.part_at-part.result).count = omega (arith, count, c.if-index-gt0.true) in
    let is : IsLowestIn (by_slot c.come_first.new.node_entries.items c.drop_first.new.notes.items) c.part_at-part.result c.lowest_left-name.result = rw (sym c.deref-then-index-gt0.ensures.value, sym c.deref-then-index-gt0-2.ensures.value) c.lowest_left-name.ensures.lowest in
    rw c.set_label.ensures.heads (leaves_some c.args.node_entries.now.items c.args.notes.now.items c.args.heads.now.items c.args.slot c.part_at-part.result c.come_first.new.node_entries.items c.drop_first.new.notes.items c.drop_first.new.heads.items c.lowest_left-name.result c.requires.standing.named left more is).standing

pub returns-then-index-gt0-clause-labels : goal.returns-then-index-gt0-clause-labels
returns-then-index-gt0-clause-labels c =
    let e : part_in (note_at (by_slot c.args.node_entries.now.items c.args.notes.now.items) c.args.slot) ≡ Some c.part_at-part.result = rw (sym c.deref.ensures.value, sym c.deref-2.ensures.value) c.part_at-part.ensures in
    let led : InPart c.args.notes.now.items c.part_at-part.result c.part_at-part.result = led_by c.args.node_entries.now.items c.args.notes.now.items c.args.heads.now.items c.args.slot c.part_at-part.result c.requires.standing e in
    let lt : c.part_at-part.result < length c.args.heads.now.items = led_short c.args.notes.now.items c.args.heads.now.items c.part_at-part.result c.requires.standing.packed led in
    let there : InPart (by_slot c.args.node_entries.now.items c.args.notes.now.items) c.part_at-part.result c.args.slot = in_of_part (note_at (by_slot c.args.node_entries.now.items c.args.notes.now.items) c.args.slot) c.part_at-part.result e in
    let x : AreExchanged c.args.node_entries.now.items c.args.slot (slot_at c.args.node_entries.now.items (head_at c.args.heads.now.items c.part_at-part.result).first) c.come_first.new.node_entries.items = rw (sym c.deref-3.ensures.value) c.come_first.ensures.exchanged in
    let left : HasLeft c.args.node_entries.now.items c.args.notes.now.items c.args.heads.now.items c.args.slot c.part_at-part.result c.come_first.new.node_entries.items c.drop_first.new.notes.items c.drop_first.new.heads.items = has_left c.args.node_entries.now.items c.come_first.new.node_entries.items c.args.notes.now.items c.args.heads.now.items c.part_at-part.result c.args.slot c.drop_first.new.notes.items c.drop_first.new.heads.items c.requires.standing there x c.drop_first.ensures.dropped in
    let size : length c.drop_first.new.heads.items ≡ length c.args.heads.now.items = dropped_size c.args.notes.now.items c.args.heads.now.items c.part_at-part.result c.drop_first.new.notes.items c.drop_first.new.heads.items c.drop_first.ensures.dropped in
    let also : c.part_at-part.result < length c.drop_first.new.heads.items = omega (arith, lt, size) in
    let at : c.index.result.now ≡ head_at c.drop_first.new.heads.items c.part_at-part.result = c.index.ensures ∙ any_default c.drop_first.new.heads.items c.part_at-part.result c.index.result.now no_head also in
    let count : c.index.result.now.count ≡ (head_at c.drop_first.new.heads.items c.part_at-part.result).count = ap (λ (h : Head). h.count) at in
    let more : 0 < (head_at c.drop_first.new.heads.items c.part_at-part.result).count = omega (arith, count, c.if-index-gt0.true) in
    let is : IsLowestIn (by_slot c.come_first.new.node_entries.items c.drop_first.new.notes.items) c.part_at-part.result c.lowest_left-name.result = rw (sym c.deref-then-index-gt0.ensures.value, sym c.deref-then-index-gt0-2.ensures.value) c.lowest_left-name.ensures.lowest in
    rw c.set_label.ensures.heads (leaves_some c.args.node_entries.now.items c.args.notes.now.items c.args.heads.now.items c.args.slot c.part_at-part.result c.come_first.new.node_entries.items c.drop_first.new.notes.items c.drop_first.new.heads.items c.lowest_left-name.result c.requires.standing.named left more is).labels

pub returns-else-index-gt0-clause-standing : goal.returns-else-index-gt0-clause-standing
returns-else-index-gt0-clause-standing c =
    let e : part_in (note_at (by_slot c.args.node_entries.now.items c.args.notes.now.items) c.args.slot) ≡ Some c.part_at-part.result = rw (sym c.deref.ensures.value, sym c.deref-2.ensures.value) c.part_at-part.ensures in
    let led : InPart c.args.notes.now.items c.part_at-part.result c.part_at-part.result = led_by c.args.node_entries.now.items c.args.notes.now.items c.args.heads.now.items c.args.slot c.part_at-part.result c.requires.standing e in
    let lt : c.part_at-part.result < length c.args.heads.now.items = led_short c.args.notes.now.items c.args.heads.now.items c.part_at-part.result c.requires.standing.packed led in
    let there : InPart (by_slot c.args.node_entries.now.items c.args.notes.now.items) c.part_at-part.result c.args.slot = in_of_part (note_at (by_slot c.args.node_entries.now.items c.args.notes.now.items) c.args.slot) c.part_at-part.result e in
    let x : AreExchanged c.args.node_entries.now.items c.args.slot (slot_at c.args.node_entries.now.items (head_at c.args.heads.now.items c.part_at-part.result).first) c.come_first.new.node_entries.items = rw (sym c.deref-3.ensures.value) c.come_first.ensures.exchanged in
    let left : HasLeft c.args.node_entries.now.items c.args.notes.now.items c.args.heads.now.items c.args.slot c.part_at-part.result c.come_first.new.node_entries.items c.drop_first.new.notes.items c.drop_first.new.heads.items = has_left c.args.node_entries.now.items c.come_first.new.node_entries.items c.args.notes.now.items c.args.heads.now.items c.part_at-part.result c.args.slot c.drop_first.new.notes.items c.drop_first.new.heads.items c.requires.standing there x c.drop_first.ensures.dropped in
    let size : length c.drop_first.new.heads.items ≡ length c.args.heads.now.items = dropped_size c.args.notes.now.items c.args.heads.now.items c.part_at-part.result c.drop_first.new.notes.items c.drop_first.new.heads.items c.drop_first.ensures.dropped in
    let also : c.part_at-part.result < length c.drop_first.new.heads.items = omega (arith, lt, size) in
    let at : c.index.result.now ≡ head_at c.drop_first.new.heads.items c.part_at-part.result = c.index.ensures ∙ any_default c.drop_first.new.heads.items c.part_at-part.result c.index.result.now no_head also in
    let count : c.index.result.now.count ≡ (head_at c.drop_first.new.heads.items c.part_at-part.result).count = ap (λ (h : Head). h.count) at in
    let zero : (head_at c.drop_first.new.heads.items c.part_at-part.result).count ≡ 0 = omega (arith, count, c.if-index-gt0.false) in
    (leaves_none c.args.node_entries.now.items c.args.notes.now.items c.args.heads.now.items c.args.slot c.part_at-part.result c.come_first.new.node_entries.items c.drop_first.new.notes.items c.drop_first.new.heads.items c.requires.standing.named left zero).standing

pub returns-else-index-gt0-clause-labels : goal.returns-else-index-gt0-clause-labels
returns-else-index-gt0-clause-labels c =
    let e : part_in (note_at (by_slot c.args.node_entries.now.items c.args.notes.now.items) c.args.slot) ≡ Some c.part_at-part.result = rw (sym c.deref.ensures.value, sym c.deref-2.ensures.value) c.part_at-part.ensures in
    let led : InPart c.args.notes.now.items c.part_at-part.result c.part_at-part.result = led_by c.args.node_entries.now.items c.args.notes.now.items c.args.heads.now.items c.args.slot c.part_at-part.result c.requires.standing e in
    let lt : c.part_at-part.result < length c.args.heads.now.items = led_short c.args.notes.now.items c.args.heads.now.items c.part_at-part.result c.requires.standing.packed led in
    let there : InPart (by_slot c.args.node_entries.now.items c.args.notes.now.items) c.part_at-part.result c.args.slot = in_of_part (note_at (by_slot c.args.node_entries.now.items c.args.notes.now.items) c.args.slot) c.part_at-part.result e in
    let x : AreExchanged c.args.node_entries.now.items c.args.slot (slot_at c.args.node_entries.now.items (head_at c.args.heads.now.items c.part_at-part.result).first) c.come_first.new.node_entries.items = rw (sym c.deref-3.ensures.value) c.come_first.ensures.exchanged in
    let left : HasLeft c.args.node_entries.now.items c.args.notes.now.items c.args.heads.now.items c.args.slot c.part_at-part.result c.come_first.new.node_entries.items c.drop_first.new.notes.items c.drop_first.new.heads.items = has_left c.args.node_entries.now.items c.come_first.new.node_entries.items c.args.notes.now.items c.args.heads.now.items c.part_at-part.result c.args.slot c.drop_first.new.notes.items c.drop_first.new.heads.items c.requires.standing there x c.drop_first.ensures.dropped in
    let size : length c.drop_first.new.heads.items ≡ length c.args.heads.now.items = dropped_size c.args.notes.now.items c.args.heads.now.items c.part_at-part.result c.drop_first.new.notes.items c.drop_first.new.heads.items c.drop_first.ensures.dropped in
    let also : c.part_at-part.result < length c.drop_first.new.heads.items = omega (arith, lt, size) in
    let at : c.index.result.now ≡ head_at c.drop_first.new.heads.items c.part_at-part.result = c.index.ensures ∙ any_default c.drop_first.new.heads.items c.part_at-part.result c.index.result.now no_head also in
    let count : c.index.result.now.count ≡ (head_at c.drop_first.new.heads.items c.part_at-part.result).count = ap (λ (h : Head). h.count) at in
    let zero : (head_at c.drop_first.new.heads.items c.part_at-part.result).count ≡ 0 = omega (arith, count, c.if-index-gt0.false) in
    (leaves_none c.args.node_entries.now.items c.args.notes.now.items c.args.heads.now.items c.args.slot c.part_at-part.result c.come_first.new.node_entries.items c.drop_first.new.notes.items c.drop_first.new.heads.items c.requires.standing.named left zero).labels
