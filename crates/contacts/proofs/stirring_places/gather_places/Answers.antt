use Rattle.std.proofs.Common.{eqb}
use Rattle.std.proofs.lemmas.List.Filters.{dedup_is}
use Rattle.contacts.proofs.FlaggedLaws.{once_same, once_up}
use Rattle.contacts.proofs.stirring_places.gather_places.Goals as goal

pub returns-clause-rising : goal.returns-clause-rising
returns-clause-rising c = once_up c.push_places.new.places.items c.sort_unstable.new.self.items c.dedup.new.self.items (record { moved = c.sort_unstable.ensures.permutation; line = c.sort_unstable.ensures.sorted; once = dedup_is eqb _ _ c.dedup.ensures.filtered })

pub returns-clause-listed : goal.returns-clause-listed
returns-clause-listed c = λ p. once_same c.push_places.new.places.items c.sort_unstable.new.self.items c.dedup.new.self.items p (record { moved = c.sort_unstable.ensures.permutation; line = c.sort_unstable.ensures.sorted; once = dedup_is eqb _ _ c.dedup.ensures.filtered }) (c.in_ok-push_places.ensures.pushed p)
