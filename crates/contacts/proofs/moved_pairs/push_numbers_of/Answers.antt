use Rattle.std.proofs.Common.{sym, ◌∙◌}
use Rattle.contacts.proofs.NearMarkedLaws.{has_numbers}
use Rattle.contacts.proofs.moved_pairs.push_numbers_of.Goals as goal

pub returns-clause-near : goal.returns-clause-near
returns-clause-near g c = has_numbers (g.S.ShapesById.proxies c.args.shapes.now) _ c.in-Some.p c.in_ok-slots.slots.items c.args.numbers.now.items _ c.requires (sym c.shape.ensures ∙ c.in-Some.is) c.in_ok-slots.ensures.complete (rw c.deref.ensures.value at c.in_ok-push_numbers_with.ensures.pushed)
