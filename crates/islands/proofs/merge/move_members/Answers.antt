use Rattle.std.proofs.Common.{◌≡◌, ◌<◌, suc, length, None, Some, sym, ap, ◌∙◌, arith}
use Rattle.islands.specs.Packed.{InPart, note_at, next_of, next_at, rank_at, rank_of, head_at, ahead}
use Rattle.islands.proofs.SlotLemmas.{any_default}
use Rattle.islands.proofs.PartLemmas.{short, count_few, walk_starts, walk_here, walk_goes, walk_ends, walk_spares, goes_down, part_of_some}
use Rattle.islands.proofs.JoinPartLemmas.{moved_in}
use Rattle.islands.proofs.merge.move_members.Goals as goal

pub index-requires : goal.index-requires
index-requires c =
    let here : InPart c.args.notes.now.items c.args.part c.in-Some.slot = c.loop-at.invariant.walked.here c.in-Some.slot c.in-Some.is in
    let lt = short c.args.notes.now.items c.args.part c.in-Some.slot here in
    let z = c.loop-at.invariant.walked.size in
    omega (arith, lt, z, c.loop-at.notes.ok.0)

pub moved_note-requires : goal.moved_note-requires
moved_note-requires c =
    let here : InPart c.args.notes.now.items c.args.part c.in-Some.slot = c.loop-at.invariant.walked.here c.in-Some.slot c.in-Some.is in
    let first = short c.args.notes.now.items c.args.part c.in-Some.slot here in
    let z = c.loop-at.invariant.walked.size in
    let lt : c.in-Some.slot < length c.loop-at.notes.items = omega (arith, first, z) in
    let is : note_at c.loop-at.notes.items c.in-Some.slot ≡ Some c.unwrap-note.result = any_default c.loop-at.notes.items c.in-Some.slot None c.index.result.now lt ∙ sym c.index.ensures ∙ c.unwrap-note.ensures in
    let old : note_at c.args.notes.now.items c.in-Some.slot ≡ Some c.unwrap-note.result = sym (walk_here c.args.notes.now.items c.args.part c.in-Some.slot c.loop-at.at (moved_in c.args.to (head_at c.args.heads.now c.args.to).count (head_at c.args.heads.now c.args.to).first) c.loop-at.notes.items c.loop-at.invariant.walked c.in-Some.is) ∙ is in
    let p = c.requires.packed.parts c.args.part c.in-Some.slot here in
    let q = c.requires.packed.parts c.args.to c.args.to c.requires.to in
    let r : rank_at c.args.notes.now.items c.in-Some.slot ≡ c.unwrap-note.result.rank = ap rank_of old in
    let low = p.below c.in-Some.slot here in let one = p.size in let two = q.size in
    let few = count_few c.args.part c.args.notes.now.items in let also = count_few c.args.to c.args.notes.now.items in
    omega (arith, r, low, one, two, few, also, c.requires.few)

pub index_mut-requires : goal.index_mut-requires
index_mut-requires c =
    let here : InPart c.args.notes.now.items c.args.part c.in-Some.slot = c.loop-at.invariant.walked.here c.in-Some.slot c.in-Some.is in
    let lt = short c.args.notes.now.items c.args.part c.in-Some.slot here in
    let z = c.loop-at.invariant.walked.size in
    omega (arith, lt, z, c.loop-at.notes.ok.0)

pub loop-at-smaller : goal.loop-at-smaller
loop-at-smaller c =
    let here : InPart c.args.notes.now.items c.args.part c.in-Some.slot = c.loop-at.invariant.walked.here c.in-Some.slot c.in-Some.is in
    let first = short c.args.notes.now.items c.args.part c.in-Some.slot here in
    let z = c.loop-at.invariant.walked.size in
    let lt : c.in-Some.slot < length c.loop-at.notes.items = omega (arith, first, z) in
    let is : note_at c.loop-at.notes.items c.in-Some.slot ≡ Some c.unwrap-note.result = any_default c.loop-at.notes.items c.in-Some.slot None c.index.result.now lt ∙ sym c.index.ensures ∙ c.unwrap-note.ensures in
    let old : note_at c.args.notes.now.items c.in-Some.slot ≡ Some c.unwrap-note.result = sym (walk_here c.args.notes.now.items c.args.part c.in-Some.slot c.loop-at.at (moved_in c.args.to (head_at c.args.heads.now c.args.to).count (head_at c.args.heads.now c.args.to).first) c.loop-at.notes.items c.loop-at.invariant.walked c.in-Some.is) ∙ is in
    let down = goes_down c.args.notes.now.items c.args.heads.now c.args.part c.in-Some.slot (c.requires.packed.parts c.args.part c.in-Some.slot here) here in
    let next : ahead c.args.notes.now.items (next_at c.args.notes.now.items c.in-Some.slot) ≡ ahead c.args.notes.now.items c.unwrap-note.result.next = ap (λ o. ahead c.args.notes.now.items (next_of o)) old in
    let bound : ahead c.args.notes.now.items c.loop-at.at ≡ suc (rank_at c.args.notes.now.items c.in-Some.slot) = ap (ahead c.args.notes.now.items) c.in-Some.is in
    omega (arith, down, next, bound)

pub loop-at-init : goal.loop-at-init
loop-at-init c = record {
  walked = walk_starts c.args.notes.now.items c.args.heads.now c.args.part (moved_in c.args.to (head_at c.args.heads.now c.args.to).count (head_at c.args.heads.now c.args.to).first) (c.requires.packed.parts c.args.part c.args.part c.requires.part);
  capacity = omega arith;
}

pub loop-at-preserved : goal.loop-at-preserved
loop-at-preserved c =
    let here : InPart c.args.notes.now.items c.args.part c.in-Some.slot = c.loop-at.invariant.walked.here c.in-Some.slot c.in-Some.is in
    let first = short c.args.notes.now.items c.args.part c.in-Some.slot here in
    let z = c.loop-at.invariant.walked.size in
    let lt : c.in-Some.slot < length c.loop-at.notes.items = omega (arith, first, z) in
    let is : note_at c.loop-at.notes.items c.in-Some.slot ≡ Some c.unwrap-note.result = any_default c.loop-at.notes.items c.in-Some.slot None c.index.result.now lt ∙ sym c.index.ensures ∙ c.unwrap-note.ensures in
    let old : note_at c.args.notes.now.items c.in-Some.slot ≡ Some c.unwrap-note.result = sym (walk_here c.args.notes.now.items c.args.part c.in-Some.slot c.loop-at.at (moved_in c.args.to (head_at c.args.heads.now c.args.to).count (head_at c.args.heads.now c.args.to).first) c.loop-at.notes.items c.loop-at.invariant.walked c.in-Some.is) ∙ is in
    record {
      walked = walk_goes c.args.notes.now.items c.args.heads.now c.args.part c.in-Some.slot c.loop-at.at c.unwrap-note.result.next (moved_in c.args.to (head_at c.args.heads.now c.args.to).count (head_at c.args.heads.now c.args.to).first) c.loop-at.notes.items (Some c.moved_note.result)
          (c.requires.packed.parts c.args.part c.in-Some.slot here) c.loop-at.invariant.walked c.in-Some.is (sym (ap next_of old))
          (ap (λ n. Some n) c.moved_note.ensures ∙ sym (ap (moved_in c.args.to (head_at c.args.heads.now c.args.to).count (head_at c.args.heads.now c.args.to).first c.in-Some.slot) old));
      capacity = c.loop-at.invariant.capacity;
    }

pub returns-clause-joined : goal.returns-clause-joined
returns-clause-joined c = record {
  size = c.loop-at.invariant.walked.size;
  others = λ s off. walk_spares c.args.notes.now.items c.args.part c.loop-at.at (moved_in c.args.to (head_at c.args.heads.now c.args.to).count (head_at c.args.heads.now c.args.to).first) c.loop-at.notes.items s c.loop-at.invariant.walked off;
  moved = λ s n e f. walk_ends c.args.notes.now.items c.args.part c.loop-at.at (moved_in c.args.to (head_at c.args.heads.now c.args.to).count (head_at c.args.heads.now c.args.to).first) c.loop-at.notes.items s c.loop-at.invariant.walked c.in_default.is (part_of_some c.args.part (note_at c.args.notes.now.items s) n e f)
      ∙ ap (moved_in c.args.to (head_at c.args.heads.now c.args.to).count (head_at c.args.heads.now c.args.to).first s) e;
}
