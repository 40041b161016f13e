use Rattle.std.proofs.Common.{arith, subst, sym}
use Rattle.world_core_base.specs.Listing.{AreSlotsRising, is_of}
use Rattle.world_core_base.proofs.SlotsRising.{rising_places}
use Rattle.world_core_base.proofs.slot_list.SlotList.flush.Goals as goal

pub invariant_of-self : goal.invariant_of-self
invariant_of-self c = record {
  rising = subst AreSlotsRising (sym c.renew.ensures.items) (rising_places (is_of c.args.group) c.args.states.now 0);
  for_slots = omega (arith, c.renew.ensures.slots_capacity, c.self.invariant.for_spare);
  for_spare = omega (arith, c.renew.ensures.spare_capacity, c.self.invariant.for_slots);
}
