use Rattle.std.proofs.Common.{◌<◌, ◌^◌, rules, tests}
use Rattle.fixed_geom.specs.Vectors.{IsWithin}
use Rattle.world_core.specs.contracts.world.WorldCore.{the_view}
use Rattle.world_core.proofs.Whole.{gravity_whole}
use Rattle.world_core.proofs.world.WorldCore.set_gravity.Goals as goal

pub invariant_of-self : goal.invariant_of-self
invariant_of-self c =
    let calls : c.self.inside.calls < 2 ^ 40 = rw (← c.self.view_is) at c.requires in
    let small : IsWithin (2 ^ 16) c.args.gravity = search (rules, tests) in
    record { whole = gravity_whole (the_view c.self.inside) c.args.gravity c.self.inside.activity.sets.acting c.self.invariant.whole calls small; known = c.self.invariant.known; standing = c.self.invariant.standing; contacts_standing = c.self.invariant.contacts_standing }
