use Rattle.std.proofs.Common.{sym, arith}
use Rattle.std.proofs.lemmas.Int.{ints}
use Rattle.shapes.proofs.CoreLemmas.{share_low, share_high}
use Rattle.shapes.proofs.cores.fraction_64.Goals as goal

pub returns-then-part-le0-clause-value : goal.returns-then-part-le0-clause-value
returns-then-part-le0-clause-value c = sym (share_low c.args.part c.args.whole (omega (arith, ints, c.if-part-le0.true)) c.requires.positive)

pub returns-then-part-whole-clause-value : goal.returns-then-part-whole-clause-value
returns-then-part-whole-clause-value c = sym (share_high c.args.part c.args.whole (omega (arith, ints, c.if-part-whole.true)) c.requires.positive)
