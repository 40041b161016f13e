use Rattle.std.proofs.Common.{eqb}
use Rattle.std.proofs.lemmas.List.Filters.{dedup_is}
use Rattle.std.proofs.lemmas.List.Kept.{AllPairs-from_increasing}
use Rattle.contacts.proofs.NearMarkedLaws.{sorted_extends, sorted_rises}
use Rattle.world_core_base.proofs.ListingLaws.{contains_in, in_contains}
use Rattle.world_core_base.proofs.slots.sort_once.Goals as goal

pub returns-clause-rising : goal.returns-clause-rising
returns-clause-rising c = AllPairs-from_increasing _ (sorted_rises _ _ c.sort_unstable.ensures.sorted (dedup_is eqb _ _ c.dedup.ensures.filtered))

pub returns-clause-all : goal.returns-clause-all
returns-clause-all c = λ slot h. contains_in slot _ (sorted_extends _ _ _ c.sort_unstable.ensures.permutation (dedup_is eqb _ _ c.dedup.ensures.filtered) slot (in_contains slot _ h))
