use Rattle.world_core.proofs.QuietSteps.{busy_all}
use Rattle.world_core.proofs.sleep_test.are_busy.Goals as goal

pub returns : goal.returns
returns c = λ e. busy_all c.args.bodies.now c.args.awake.now c.loop-place.place c.requires c.loop-place-test.false c.loop-place.invariant
