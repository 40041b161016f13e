use Rattle.std.proofs.Common.{◌+◌, arith, refl}
use Rattle.world_core_base.specs.Listing.{is_of}
use Rattle.world_core_base.proofs.ListingLaws.{none_of}
use Rattle.world_core_base.proofs.MergingLaws.{merged_last, merged_more}
use Rattle.world_core_base.proofs.merging.merge.Goals as goal

pub loop-turn-preserved : goal.loop-turn-preserved
loop-turn-preserved c =
    let passes = c.loop-turn.invariant.merged.passes.count in
    record {
      merged = merged_more (is_of c.args.group) c.args.states.now c.args.slots.now c.args.added.now c.loop-turn.passed c.next_of-next.result c.loop-turn._turn (c.loop-turn._turn + 1) c.loop-turn.end c.list_slot-end.result c.loop-turn.list.items c.list_slot-end.new.list.items (none_of c.args.group) refl
          c.loop-turn.invariant.merged c.next_of-next.ensures.next (rw passes at c.next_of-next.ensures.passed) c.list_slot-end.ensures.items c.list_slot-end.ensures.end;
      capacity = omega (arith, c.list_slot-end.ensures.capacity, c.loop-turn.invariant.capacity);
    }

pub returns-clause-items : goal.returns-clause-items
returns-clause-items c = merged_last (is_of c.args.group) c.args.states.now c.args.slots.now c.args.added.now c.loop-turn.passed c.loop-turn._turn c.loop-turn.end c.loop-turn.list.items (omega (arith, c.loop-turn-test.false)) (none_of c.args.group) c.loop-turn.invariant.merged
