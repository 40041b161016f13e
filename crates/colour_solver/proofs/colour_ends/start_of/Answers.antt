use Rattle.std.proofs.Common.{arith}
use Rattle.colour_solver.specs.declared.colour_ends.ColourEnd.{ColourEnd}
use Rattle.colour_solver.proofs.KeptRowLaws.{start_back}
use Rattle.colour_solver.proofs.colour_ends.start_of.Goals as goal

pub returns-clause-joints : goal.returns-clause-joints
returns-clause-joints c =
    start_back (λ (e : ColourEnd). e.joints) c.args.ends.now c.args.colour (record { joints = 0; contacts = 0 }) (omega (arith, c.if-colour-eq0.false)) c.requires

pub returns-clause-contacts : goal.returns-clause-contacts
returns-clause-contacts c =
    start_back (λ (e : ColourEnd). e.contacts) c.args.ends.now c.args.colour (record { joints = 0; contacts = 0 }) (omega (arith, c.if-colour-eq0.false)) c.requires
