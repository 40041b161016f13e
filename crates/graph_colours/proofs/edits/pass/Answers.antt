use Rattle.std.proofs.Common.{◌≡◌, ◌+◌, ◌<◌, ◌≤◌, ◌-◌, drop, take, length, arith}
use Rattle.std.proofs.lemmas.List.{length-drop}
use Rattle.std.specs.Vec.{vec_len}
use Rattle.graph_colours.proofs.EditLemmas.{pass_goes, long_drop, take_whole}
use Rattle.graph_colours.proofs.edits.pass.Goals as goal

pub loop-place-preserved : goal.loop-place-preserved
loop-place-preserved g c =
    let es = c.args.edits.now in
    let ms = c.args.members.now in
    let place = c.loop-place.place in
    let done = c.loop-place.done in
    let r = c.pass_edit-done.result in
    let lt : place < length es = omega (arith, c.loop-place-test.true, c.loop-place.auto.place-end) in
    let left : length (drop place es) ≡ length (drop (place + 1) es) + 1 = long_drop es place lt in
    let front : length (drop done ms) ≡ length ms - done = length-drop done ms in
    let same : take (length ms - done) (drop done ms) ≡ drop done ms = take_whole (drop done ms) (length ms - done) (omega (arith, front)) in
    let before : length (drop r (drop done ms)) ≡ length (drop done ms) - r = length-drop r (drop done ms) in
    let after : length (drop (done + r) ms) ≡ length ms - (done + r) = length-drop (done + r) ms in
    let within : r ≤ length (drop done ms) = rw same at c.pass_edit-done.ensures.within in
    let len : vec_len c.pass_edit-done.new.list + length (drop r (drop done ms)) ≤ vec_len c.loop-place.list + length (drop done ms) + 1 = rw same at c.pass_edit-done.ensures.len in
    record {
      within = omega (arith, within, front, c.loop-place.invariant.within);
      rest = pass_goes g.C.ConstraintId.number es place c.index-edits-place.result c.loop-place.list.items c.pass_edit-done.new.list.items _ ms done r lt c.index-edits-place.is c.requires.in_order (rw same at c.pass_edit-done.ensures.items) c.loop-place.invariant.rest;
      room = omega (arith, left, front, before, after, within, len, c.loop-place.invariant.room, c.loop-place.invariant.within, c.pass_edit-done.ensures.capacity);
      capacity = omega (arith, c.loop-place.invariant.capacity, c.pass_edit-done.ensures.capacity);
    }
