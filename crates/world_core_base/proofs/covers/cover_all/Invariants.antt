use Rattle.world_core_base.proofs.CoverLaws.{AreCoveredBelow}
use Rattle.world_core_base.proofs.covers.cover_all.Given as goal

abbrev pub invariant-loop-slot : goal.invariant-loop-slot
invariant-loop-slot l = AreCoveredBelow l.bodies l.boxes l.slot
