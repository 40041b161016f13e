use Rattle.world_rules.proofs.StepParts.{Fits-rest}
use Rattle.world_core.proofs.booking.book_step.Goals as goal

pub book-requires-clause-fits : goal.book-requires-clause-fits
book-requires-clause-fits c = Fits-rest c.args.ledger.now c.book_ticks.new.ledger _ c.args.call c.args.sums c.requires.roomy c.requires.small c.book_ticks.ensures.entries c.book_ticks.ensures.settled c.requires.rest.x c.requires.rest.y
