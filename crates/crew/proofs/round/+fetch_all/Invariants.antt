use Rattle.std.proofs.Common.{length}
use Rattle.crew.proofs.round.+fetch_all.Given as goal

abbrev pub decreases-fetch_all : goal.decreases-fetch_all
decreases-fetch_all g l = length l.desks.now
