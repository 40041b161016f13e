use Rattle.std.proofs.Common.{◌*◌, refl, arith}
use Rattle.fixed_geom.proofs.QuotientLemmas.{nearest_guessed}
use Rattle.fixed_geom.proofs.shares_64.share_of_sizes_64.Goals as goal

pub returns-then-sum-least-clause-value : goal.returns-then-sum-least-clause-value
returns-then-sum-least-clause-value c =
    nearest_guessed c.args.n c.args.d c.guess_by_inverse-guess.result c.guess_by_inverse-guess.result (2 * c.args.d) c.requires.positive refl refl (omega arith) (omega arith)
