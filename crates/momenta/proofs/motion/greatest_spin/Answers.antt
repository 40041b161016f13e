use Rattle.std.proofs.Common.{pos, ◌≤ℤ◌, ◌<ℤ◌, arith}
use Rattle.std.proofs.lemmas.Int.{ints}
use Rattle.momenta.proofs.Spins.{greatest_down, greatest_up}
use Rattle.momenta.proofs.motion.greatest_spin.Goals as goal

pub returns-then-l-lt0-clause-value : goal.returns-then-l-lt0-clause-value
returns-then-l-lt0-clause-value c =
    let negative : c.args.l <ℤ pos 0 = grind (arith, ints) in
    greatest_down c.args.inertia c.args.l c.requires.positive c.requires.greater negative

pub returns-else-l-lt0-clause-value : goal.returns-else-l-lt0-clause-value
returns-else-l-lt0-clause-value c =
    let nonnegative : pos 0 ≤ℤ c.args.l = grind (arith, ints) in
    greatest_up c.args.inertia c.args.l c.requires.positive c.requires.greater nonnegative
