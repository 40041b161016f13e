use Rattle.std.proofs.Common.{◌≡◌, ◌*◌, ◌^◌, arith}
use Rattle.fixed_geom.specs.Numbers.{nearest}
use Rattle.fixed_geom.proofs.QuotientLemmas.{inverse_guessed}
use Rattle.fixed_geom.proofs.inverses.quotient_40_of_sizes.Goals as goal

pub returns-then-sum-least-clause-value : goal.returns-then-sum-least-clause-value
returns-then-sum-least-clause-value c =
    let guessed : c.guess_40-guess.result ≡ nearest (c.args.n * 2 ^ 40) c.args.d = inverse_guessed c.args.n c.args.d c.guess_40-guess.result c.from.result c.from-2.result c.requires.positive (omega arith) (omega arith) (omega arith) (omega arith) in
    omega (arith, guessed)
