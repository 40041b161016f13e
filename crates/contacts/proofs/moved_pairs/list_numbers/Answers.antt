use Rattle.std.proofs.Common.{eqb}
use Rattle.std.proofs.lemmas.List.Filters.{dedup_is}
use Rattle.contacts.proofs.NearMarkedLaws.{all_more, sorted_extends, sorted_rises}
use Rattle.contacts.proofs.moved_pairs.list_numbers.Goals as goal

pub returns-clause-near : goal.returns-clause-near
returns-clause-near g c = all_more (g.S.ShapesById.proxies c.args.shapes.now) c.args.marked.now _ _ (sorted_extends _ _ _ c.sort_unstable.ensures.permutation (dedup_is eqb _ _ c.dedup.ensures.filtered)) c.in_ok-push_numbers_of_all.ensures.near

pub returns-clause-rising : goal.returns-clause-rising
returns-clause-rising g c = sorted_rises _ _ c.sort_unstable.ensures.sorted (dedup_is eqb _ _ c.dedup.ensures.filtered)
