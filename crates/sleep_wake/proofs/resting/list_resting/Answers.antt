use Rattle.std.proofs.Common.{arith}
use Rattle.sleep_wake.specs.Resting.{least_at, is_to_rest}
use Rattle.sleep_wake.proofs.ReleasingLaws.{all_listed}
use Rattle.sleep_wake.proofs.resting.list_resting.Goals as goal

pub returns : goal.returns
returns g c = λ answered. all_listed (is_to_rest (least_at c.args.leasts.now) c.args.islands.now.labels) c.args.colours.now.lists c.loop-colour.colour c.loop-colour.listed.items (omega (arith, c.loop-colour-test.false, c.know_colouring.ensures.count)) c.loop-colour.invariant
