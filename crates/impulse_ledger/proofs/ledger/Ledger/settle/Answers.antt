use Rattle.std.proofs.Common.{subst}
use Rattle.impulse_ledger.specs.Sums.{HaveSameTotals}
use Rattle.impulse_ledger.proofs.KeptLemmas.{settled_same, IsKept-settled}
use Rattle.impulse_ledger.proofs.ledger.Ledger.settle.Goals as goal

pub invariant_of-self : goal.invariant_of-self
invariant_of-self c =
    let same = settled_same _ c.clear.new.self.items c.self.inside.by_cause c.self.inside.all _ c.clear.ensures.items c.self.invariant in
    IsKept-settled _ _ c.self.inside.by_cause c.self.inside.all same c.self.invariant

pub returns-clause-totals : goal.returns-clause-totals
returns-clause-totals c = subst (HaveSameTotals _) c.self.view_is (settled_same _ c.clear.new.self.items c.self.inside.by_cause c.self.inside.all _ c.clear.ensures.items c.self.invariant)
