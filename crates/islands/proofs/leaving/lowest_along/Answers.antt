use Rattle.std.proofs.Common.{◌≡◌, Some, sym, ap}
use Rattle.islands.specs.Packed.{InPart, note_at, next_of}
use Rattle.islands.proofs.ReadingLemmas.{goes_on, along_starts, lowest_starts, lowest_goes, lowest_ends}
use Rattle.islands.proofs.leaving.lowest_along.Goals as goal

pub loop-at-init : goal.loop-at-init
loop-at-init c = record {
  along = along_starts c.args.notes.now c.args.heads.now c.args.part (c.requires.packed.parts c.args.part c.args.part c.requires.part);
  lowest = rw c.slot_of-low.ensures (lowest_starts c.args.node_entries.now c.args.notes.now c.args.heads.now c.args.part (c.requires.packed.parts c.args.part c.args.part c.requires.part) c.requires.sizes c.requires.inverse);
}

pub loop-at-smaller : goal.loop-at-smaller
loop-at-smaller c =
    let here : InPart c.args.notes.now c.args.part c.in-Some.node = c.loop-at.invariant.along c.in-Some.node c.in-Some.is in
    let is : note_at c.args.notes.now c.in-Some.node ≡ Some c.unwrap-at.result = c.unwrap-at.ensures in
    (goes_on c.args.notes.now c.args.heads.now c.args.part c.in-Some.node c.loop-at.at c.unwrap-at.result.next (c.requires.packed.parts c.args.part c.in-Some.node here) here c.in-Some.is (sym (ap next_of is))).lower

pub loop-at-preserved : goal.loop-at-preserved
loop-at-preserved c =
    let here : InPart c.args.notes.now c.args.part c.in-Some.node = c.loop-at.invariant.along c.in-Some.node c.in-Some.is in
    let is : note_at c.args.notes.now c.in-Some.node ≡ Some c.unwrap-at.result = c.unwrap-at.ensures in
    let on = goes_on c.args.notes.now c.args.heads.now c.args.part c.in-Some.node c.loop-at.at c.unwrap-at.result.next (c.requires.packed.parts c.args.part c.in-Some.node here) here c.in-Some.is (sym (ap next_of is)) in
    record {
      along = on.along;
      lowest = rw (c.min-low.ensures, c.slot_of.ensures) (lowest_goes c.args.node_entries.now c.args.notes.now c.args.part c.in-Some.node c.loop-at.at c.unwrap-at.result.next c.loop-at.low c.requires.sizes c.requires.inverse here on c.loop-at.invariant.lowest);
    }

pub returns : goal.returns
returns c = record { lowest = lowest_ends c.args.node_entries.now c.args.notes.now c.args.part c.loop-at.at c.loop-at.low c.in_default.is c.requires.sizes c.requires.inverse c.loop-at.invariant.lowest }
