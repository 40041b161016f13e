use Rattle.std.proofs.Common.{arith}
use Rattle.world_lock.proofs.Holding.{settled_are, tallies_are}
use Rattle.world_lock.proofs.held.Held.settle.Goals as goal

pub copy_from_slice-requires : goal.copy_from_slice-requires
copy_from_slice-requires g c =
    let a = tallies_are _ _ _ c.self.invariant in
    let b = settled_are _ _ _ c.self.invariant in
    omega (arith, a, b, c.deref.ensures.len)
