use Rattle.std.proofs.Common.{rules}
use Rattle.dillmonth.proofs.targets.is_target.Goals as goal

pub returns-then-ticks-ge1-clause-target : goal.returns-then-ticks-ge1-clause-target
returns-then-ticks-ge1-clause-target c = λ t. record { place = search rules; facing = search rules; first = search rules; last = search rules }
