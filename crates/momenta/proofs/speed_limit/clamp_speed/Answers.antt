use Rattle.std.proofs.Common.{rules}
use Rattle.momenta.specs.Motions.{velocity, speed_clamped}
use Rattle.momenta.proofs.MotionLaws.{clamped_slow}
use Rattle.momenta.proofs.speed_limit.clamp_speed.Goals as goal

pub returns-clause-value : goal.returns-clause-value
unfolding speed_clamped
returns-clause-value c = search rules

pub returns-clause-slow : goal.returns-clause-slow
unfolding velocity
returns-clause-slow c = search rules

pub returns-clause-settled : goal.returns-clause-settled
returns-clause-settled c = clamped_slow c.args.mass _ (returns-clause-slow c)
