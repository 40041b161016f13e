use Rattle.plain_world.proofs.FatLaws.{AreRenewed}
use Rattle.plain_world.proofs.fats.renew_all.Given as goal

abbrev pub invariant-loop-place : goal.invariant-loop-place
invariant-loop-place l = AreRenewed l.pose l.defs l.fn.boxes l.boxes l.any l.place
