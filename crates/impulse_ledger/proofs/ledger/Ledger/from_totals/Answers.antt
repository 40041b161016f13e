use Rattle.impulse_ledger.proofs.GivenLaws.{kept_given}
use Rattle.impulse_ledger.proofs.ledger.Ledger.from_totals.Goals as goal

pub invariant_of-result : goal.invariant_of-result
invariant_of-result c = kept_given c.args.settled _ c.new.result.items _ c.requires c.new.ensures.items c.sum_over.ensures
