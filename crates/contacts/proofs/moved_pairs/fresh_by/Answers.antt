use Rattle.std.proofs.Common.{sym, ◌∙◌}
use Rattle.contacts.proofs.FateLemmas.{found_is_proxy}
use Rattle.contacts.proofs.moved_pairs.fresh_by.Goals as goal

pub fresh_of-requires-clause-first : goal.fresh_of-requires-clause-first
fresh_of-requires-clause-first g c = found_is_proxy _ _ c.in-Some.p c.requires.shapes (sym c.shape.ensures ∙ c.in-Some.is)

pub fresh_of-requires-clause-second : goal.fresh_of-requires-clause-second
fresh_of-requires-clause-second g c = found_is_proxy _ _ c.in-Some-shape.q c.requires.shapes (sym c.shape-2.ensures ∙ c.in-Some-shape.is)
