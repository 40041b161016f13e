use Rattle.std.proofs.Common.{◌∙◌, sym}
use Rattle.shapes.proofs.ShapeLemmas.{all_shape_defs}
use Rattle.shapes.proofs.limits.check.Goals as goal

pub returns-clause-allowed : goal.returns-clause-allowed
returns-clause-allowed c =
    all_shape_defs c.args.segments c.args.defs.now (sym c.are_forms_allowed.ensures ∙ c.if-not-are_forms_allowed.false) (sym c.are_in_range.ensures ∙ c.if-not-are_in_range.false)
