use Rattle.std.proofs.Common.{refl}
use Rattle.world_lock.specs.Histories.{standing}
use Rattle.world_lock.proofs.Holding.{closing}
use Rattle.world_lock.proofs.held.Held.close.Goals as goal

pub returns : goal.returns
returns g c =
    let s = standing c.self.inside.journalled c.self.inside.settled c.self.inside.tallies.items c.self.inside.settled_tallies.items c.self.inside.keeper in
    closing g.N.Named.seats g.N.Opened.opening s c.args.seats.items _ _ _ c.self.inside.journalled c.self.invariant refl refl c.into_parts-world.ensures.parts c.into_parts-world.ensures.headline c.meet_all.ensures.pasts
