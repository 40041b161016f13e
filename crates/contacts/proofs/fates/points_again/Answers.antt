use Rattle.std.proofs.Common.{sym, ◌∙◌}
use Rattle.contacts.proofs.FateLemmas.{found_is_proxy}
use Rattle.contacts.proofs.fates.points_again.Goals as goal

pub contact_with-requires-clause-first : goal.contact_with-requires-clause-first
contact_with-requires-clause-first g c = found_is_proxy _ _ c.in-Some.p c.requires (sym c.shape.ensures ∙ c.in-Some.is)

pub contact_with-requires-clause-second : goal.contact_with-requires-clause-second
contact_with-requires-clause-second g c = found_is_proxy _ _ c.in-Some-shape.q c.requires (sym c.shape-2.ensures ∙ c.in-Some-shape.is)
