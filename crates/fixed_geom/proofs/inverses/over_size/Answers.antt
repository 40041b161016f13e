use Rattle.std.proofs.Common.{arith}
use Rattle.fixed_geom.proofs.QuotientLemmas.{inverse_guessed}
use Rattle.fixed_geom.proofs.inverses.over_size.Goals as goal

pub returns-then-sum-least-clause-value : goal.returns-then-sum-least-clause-value
returns-then-sum-least-clause-value c =
    inverse_guessed c.args.n c.args.d c.joined_guess_40-guess.result c.from.result c.from-2.result (omega (arith, c.requires.least)) (omega arith) (omega arith) (omega arith) (omega arith)
