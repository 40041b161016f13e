use Rattle.std.proofs.Common.{ℕ, Some, sym, ap, ◌∙◌, ltb-true, ltb-false}
use Rattle.packed_sets.proofs.NumberLaws.{number_there, number_past}
use Rattle.packed_sets.proofs.spots.number_at.Goals as goal

pub returns-in-Some : goal.returns-in-Some
returns-in-Some g c = ap (λ (k : ℕ). Some k) c.number.ensures ∙ sym (number_there g.I.ItemId.number c.args.list.now c.args.place c.in-Some.id.now (ltb-true _ _ (sym c.in-Some.ensures.lookup.0)) c.in-Some.ensures.lookup.1)

pub returns-in-None : goal.returns-in-None
returns-in-None g c = sym (number_past g.I.ItemId.number c.args.list.now c.args.place (ltb-false _ _ (sym c.in-None.ensures.lookup.0)))
