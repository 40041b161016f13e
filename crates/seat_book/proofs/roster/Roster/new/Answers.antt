use Rattle.std.proofs.Common.{[]}
use Rattle.seat_book.proofs.Moves.{begins}
use Rattle.seat_book.proofs.roster.Roster.new.Goals as goal

pub of_words-requires : goal.of_words-requires
of_words-requires g c = begins []
