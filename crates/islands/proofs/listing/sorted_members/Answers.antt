use Rattle.std.proofs.lemmas.List.Sorted.{IsNonDecreasingBy-from_sort}
use Rattle.islands.specs.Packed.{by_slot}
use Rattle.islands.proofs.ListingLemmas.{sorted_rises, sorted_all}
use Rattle.islands.proofs.listing.sorted_members.Goals as goal

pub returns-clause-ascending : goal.returns-clause-ascending
returns-clause-ascending c = sorted_rises (by_slot c.args.node_entries.now c.args.notes.now) c.args.part c.list_members.new.members.items c.sort_unstable.new.self.items c.list_members.ensures.members c.sort_unstable.ensures.permutation (IsNonDecreasingBy-from_sort (λ x. x) c.sort_unstable.new.self.items c.sort_unstable.ensures.sorted)

pub returns-clause-members : goal.returns-clause-members
returns-clause-members c = sorted_all (by_slot c.args.node_entries.now c.args.notes.now) c.args.part c.list_members.new.members.items c.sort_unstable.new.self.items c.list_members.ensures.members c.sort_unstable.ensures.permutation
