use Rattle.std.proofs.Common.{◌≡◌, ◌∙◌, rules, sym}
use Rattle.world_core_base.specs.Listing.{is_of}
use Rattle.world_core_base.proofs.ListingLaws.{listed_still, none_of}
use Rattle.world_core_base.proofs.slot_list.SlotList.relist_changed.Goals as goal

pub returns-else-is_of_at-was-clause-listed : goal.returns-else-is_of_at-was-clause-listed
returns-else-is_of_at-was-clause-listed c = λ before same was listed.
    let still : c.is_of_at.result ≡ c.args.was = search rules in
    listed_still (is_of c.args.group) before c.args.states.now c.args.slot c.args.was c.args.self.now (none_of c.args.group) same was (sym c.is_of_at.ensures.value ∙ still) listed
