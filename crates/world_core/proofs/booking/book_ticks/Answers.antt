use Rattle.std.proofs.Common.{◌≡◌, ◌++◌, List, ap, ◌∙◌}
use Rattle.impulse_ledger.specs.declared.entry.Cause.TheVariants.{Gravity, Immovable}
use Rattle.impulse_ledger.specs.declared.entry.Entry.{Entry}
use Rattle.world_rules.specs.Apply.{booked}
use Rattle.world_rules.proofs.BookLemmas.{Fits-roomy, Fits-after, Fits-last}
use Rattle.world_core.proofs.booking.book_ticks.Goals as goal

pub book-requires-clause-fits : goal.book-requires-clause-fits
book-requires-clause-fits c = Fits-roomy _ _ c.requires.roomy c.requires.small.gravity.x c.requires.small.gravity.y

pub book-requires-2-clause-fits : goal.book-requires-2-clause-fits
book-requires-2-clause-fits c =
    Fits-after c.args.ledger.now c.book.new.ledger _ c.args.call Gravity c.args.sums.gravity.x c.args.sums.gravity.y c.requires.roomy c.book.ensures.entries c.book.ensures.settled
    c.requires.small.gravity.x c.requires.small.gravity.y c.requires.small.immovable.x c.requires.small.immovable.y

pub book-requires-3-clause-fits : goal.book-requires-3-clause-fits
book-requires-3-clause-fits c =
    let entries : c.book-2.new.ledger.entries ≡ (c.args.ledger.now.entries ++ booked c.args.call Gravity c.args.sums.gravity.x c.args.sums.gravity.y) ++ booked c.args.call Immovable c.args.sums.immovable.x c.args.sums.immovable.y = c.book-2.ensures.entries ∙ ap (λ (es : List Entry). es ++ booked c.args.call Immovable c.args.sums.immovable.x c.args.sums.immovable.y) c.book.ensures.entries in
    Fits-last c.args.ledger.now c.book-2.new.ledger _ c.args.call Gravity Immovable c.args.sums.gravity.x c.args.sums.gravity.y c.args.sums.immovable.x c.args.sums.immovable.y c.requires.roomy entries (c.book-2.ensures.settled ∙ c.book.ensures.settled)
    c.requires.small.gravity.x c.requires.small.gravity.y c.requires.small.immovable.x c.requires.small.immovable.y c.requires.small.clamp.x c.requires.small.clamp.y
