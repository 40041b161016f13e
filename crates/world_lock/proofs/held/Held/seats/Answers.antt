use Rattle.world_lock.proofs.Holding.{tallies_are}
use Rattle.world_lock.proofs.held.Held.seats.Goals as goal

pub returns : goal.returns
returns g c = let n = tallies_are _ _ _ c.self.invariant in cc
