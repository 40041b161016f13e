use Rattle.std.proofs.Common.{ap}
use Rattle.std.specs.Int.{w64}
use mir.Val.{of_z}
use Rattle.momenta.proofs.Laws64.{inverse_room}
use Rattle.momenta.proofs.accumulated_impulse.is_inverse_64.Goals as goal

pub returns-then-reciprocal-ne0-clause-small : goal.returns-then-reciprocal-ne0-clause-small
returns-then-reciprocal-ne0-clause-small c = λ h. inverse_room c.args.inverse c.args.reciprocal c.requires (λ e. c.if-reciprocal-ne0.true (ap (of_z w64) e))
