use Rattle.world_core_base.specs.Listing.{is_of}
use Rattle.world_core_base.proofs.ListingLaws.{none_of, relisted_anew}
use Rattle.world_core_base.proofs.slot_list.SlotList.relist.Goals as goal

pub returns-else-note-clause-relisted : goal.returns-else-note-clause-relisted
returns-else-note-clause-relisted c = relisted_anew (is_of c.args.group) c.args.states.now c.args.slot c.args.self.now c.list_anew.new.self (none_of c.args.group) c.list_anew.ensures.slots
