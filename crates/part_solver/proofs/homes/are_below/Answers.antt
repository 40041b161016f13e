use Rattle.std.proofs.Common.{arith, refl}
use Rattle.part_solver.proofs.HomeLaws.{below_all, below_step}
use Rattle.part_solver.proofs.homes.are_below.Goals as goal

pub loop-slot-preserved : goal.loop-slot-preserved
loop-slot-preserved c = record { below = below_step c.args.home.now c.loop-slot.slot c.args.parts _ _ (c.is_below.ensures c.if-not-is_below.false) c.loop-slot-test.true refl c.loop-slot.invariant.below }

pub returns : goal.returns
returns c = λ e. below_all c.args.home.now c.loop-slot.slot c.args.parts (omega (arith, c.loop-slot-test.false)) c.loop-slot.invariant.below
