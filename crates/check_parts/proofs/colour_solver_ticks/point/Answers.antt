use Rattle.std.proofs.Common.{◌≡◌, Bool, true, false, cond, refl}
use Rattle.check_parts.proofs.colour_solver_ticks.point.Goals as goal

either : (t : Bool) → cond t false false ≡ false
either true = refl
either false = refl

pub returns-clause-stands : goal.returns-clause-stands
returns-clause-stands c = either c.args.movable
