use Rattle.std.proofs.Common.{sym}
use Rattle.colour_solver.proofs.SumLaws.{no_change}
use Rattle.colour_solver.proofs.ticks.LimitChange.change_64.Goals as goal

pub returns-then-is_slow-clause-value : goal.returns-then-is_slow-clause-value
returns-then-is_slow-clause-value c = sym (c.is_slow.ensures.same c.if-is_slow.true)

pub returns-then-is_slow-clause-gives : goal.returns-then-is_slow-clause-gives
returns-then-is_slow-clause-gives c = record { mass = c.requires.fits.mass; motion = c.is_slow.ensures.motion c.if-is_slow.true; slow = c.is_slow.ensures.slow c.if-is_slow.true }

pub returns-then-is_slow-clause-near : goal.returns-then-is_slow-clause-near
returns-then-is_slow-clause-near c = no_change c.args.motion.p
