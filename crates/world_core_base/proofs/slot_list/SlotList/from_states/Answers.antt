use Rattle.std.proofs.Common.{arith, subst, sym}
use Rattle.world_core_base.specs.Listing.{AreSlotsRising, is_of}
use Rattle.world_core_base.proofs.SlotsRising.{rising_places}
use Rattle.world_core_base.proofs.slot_list.SlotList.from_states.Goals as goal

pub invariant_of-result : goal.invariant_of-result
invariant_of-result c = record {
  rising = subst AreSlotsRising (sym c.list_group.ensures.items) (rising_places (is_of c.args.group) c.args.states.now 0);
  for_slots = omega (arith, c.list_group.ensures.capacity, c.in_ok-slots.ensures.capacity);
  for_spare = omega (arith, c.in_ok-with_capacity-2.ensures.capacity);
}
