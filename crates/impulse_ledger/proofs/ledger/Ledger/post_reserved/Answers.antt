use Rattle.std.proofs.Common.{◌≡◌, ◌++◌, ◌∷◌, [], arith, refl}
use Rattle.std.proofs.lemmas.Grind.{common_steps}
use Rattle.impulse_ledger.proofs.KeptLemmas.{IsKept-push}
use Rattle.impulse_ledger.proofs.ledger.Ledger.post_reserved.Goals as goal

pub invariant_of-self : goal.invariant_of-self
invariant_of-self c =
    let items : c.push.new.self.items ≡ c.self.inside.entries.items ++ c.args.entry ∷ [] = grind (arith, common_steps) in
    let fits = rw (← c.self.view_is) at c.requires.fits in
    rw (c.plus-self-inside.ensures, c.put.ensures, c.plus-of_cause.ensures, c.of.ensures, c.impulse-impulse.ensures)
    (IsKept-push _ _ c.args.entry c.self.inside.by_cause c.self.inside.all items refl c.self.invariant fits)
