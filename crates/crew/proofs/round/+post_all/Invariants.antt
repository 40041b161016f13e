use Rattle.std.proofs.Common.{length}
use Rattle.crew.proofs.round.+post_all.Given as goal

abbrev pub decreases-post_all : goal.decreases-post_all
decreases-post_all g l = length l.desks.now
