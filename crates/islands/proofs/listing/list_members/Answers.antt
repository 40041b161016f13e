use Rattle.std.proofs.Common.{◌≡◌, suc, length, Some, sym, ap, arith}
use Rattle.islands.specs.Packed.{InPart, note_at, next_of, rank_at, ahead, head_at, IsPart}
use Rattle.islands.proofs.ReadingLemmas.{goes_on, along_starts}
use Rattle.islands.proofs.ListingLemmas.{list_starts, list_goes, list_ends}
use Rattle.islands.proofs.listing.list_members.Goals as goal

pub loop-at-init : goal.loop-at-init
loop-at-init c =
    let p : IsPart c.args.notes.now c.args.heads.now c.args.part = c.requires.standing.packed.parts c.args.part c.args.part c.requires.part in
    let top = p.below (head_at c.args.heads.now c.args.part).first p.first in
    let none : length c.clear.new.self.items ≡ 0 = ap length c.clear.ensures.items in
    record {
      along = along_starts c.args.notes.now c.args.heads.now c.args.part p;
      list = rw c.clear.ensures.items (list_starts c.args.node_entries.now c.args.notes.now c.args.heads.now c.args.part p);
      room = omega (arith, top, none, c.clear.new.self.ok.0);
      capacity = omega arith;
    }

pub push_in_room-requires : goal.push_in_room-requires
push_in_room-requires c =
    let now : ahead c.args.notes.now c.loop-at.at ≡ suc (rank_at c.args.notes.now c.in-Some.node) = ap (ahead c.args.notes.now) c.in-Some.is in
    omega (arith, now, c.loop-at.invariant.room, c.loop-at.invariant.capacity, c.requires.room)

pub loop-at-preserved : goal.loop-at-preserved
loop-at-preserved c =
    let here : InPart c.args.notes.now c.args.part c.in-Some.node = c.loop-at.invariant.along c.in-Some.node c.in-Some.is in
    let is : note_at c.args.notes.now c.in-Some.node ≡ Some c.unwrap-at.result = c.unwrap-at.ensures in
    let on = goes_on c.args.notes.now c.args.heads.now c.args.part c.in-Some.node c.loop-at.at c.unwrap-at.result.next (c.requires.standing.packed.parts c.args.part c.in-Some.node here) here c.in-Some.is (sym (ap next_of is)) in
    let lower = on.lower in
    record {
      along = on.along;
      list = rw (c.push_in_room.ensures.items, c.slot_of.ensures) (list_goes c.args.node_entries.now c.args.notes.now c.args.part c.in-Some.node c.loop-at.at c.unwrap-at.result.next c.loop-at.members.items c.requires.standing.inverse on c.loop-at.invariant.list);
      room = omega (arith, lower, c.loop-at.invariant.room, c.push_in_room.ensures.len);
      capacity = omega (arith, c.push_in_room.ensures.capacity, c.loop-at.invariant.capacity);
    }

pub returns-clause-members : goal.returns-clause-members
returns-clause-members c = list_ends c.args.node_entries.now c.args.notes.now c.args.part c.loop-at.at c.loop-at.members.items c.in_default.is c.requires.standing.size c.loop-at.invariant.list
