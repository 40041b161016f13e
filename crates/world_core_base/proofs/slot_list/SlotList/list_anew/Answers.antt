use Rattle.std.proofs.Common.{arith, subst, sym}
use Rattle.world_core_base.specs.Listing.{AreSlotsRising, is_of}
use Rattle.world_core_base.proofs.SlotsRising.{rising_places}
use Rattle.world_core_base.proofs.slot_list.SlotList.list_anew.Goals as goal

pub invariant_of-self : goal.invariant_of-self
invariant_of-self c = record {
  rising = subst AreSlotsRising (sym c.list_group.ensures.items) (rising_places (is_of c.args.group) c.args.states.now 0);
  for_slots = omega (arith, c.list_group.ensures.capacity, c.self.invariant.for_slots);
  for_spare = c.self.invariant.for_spare;
}
