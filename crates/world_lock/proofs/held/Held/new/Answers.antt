use Rattle.std.proofs.Common.{◌≤◌, ◌^◌, subst, ap}
use Rattle.world_rules.specs.World.{World}
use Rattle.world_lock.proofs.Holding.{held_new}
use Rattle.world_lock.proofs.held.Held.new.Goals as goal

pub invariant_of-result : goal.invariant_of-result
invariant_of-result g c =
    let few : c.args.journalled.world.plain.calls ≤ 2 ^ 40 = c.know_headline.ensures.sound.formed.calls in
    rw (c.requires.world, c.requires.tallies, c.requires.settled, c.requires.keeper) (held_new g.N.Named.seats g.N.Opened.opening (subst (λ (w : World). w.plain.calls ≤ 2 ^ 40) (ap (λ j. j.world) c.requires.world) few))
