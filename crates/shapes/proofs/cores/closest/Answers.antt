use Rattle.std.proofs.Common.{sym, ◌∙◌}
use Rattle.shapes.proofs.PointLemmas.{closest_point}
use Rattle.shapes.proofs.cores.closest.Goals as goal

pub returns-then-is_point-clause-value : goal.returns-then-is_point-clause-value
returns-then-is_point-clause-value c = sym (closest_point c.args.core.now c.args.e (sym c.is_point.ensures ∙ c.if-is_point.true))
