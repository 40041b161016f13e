use Rattle.std.proofs.Common.{length}
use Rattle.crew.proofs.round.+collect_all.Given as goal

abbrev pub decreases-collect_all : goal.decreases-collect_all
decreases-collect_all g l = length l.desks.now
