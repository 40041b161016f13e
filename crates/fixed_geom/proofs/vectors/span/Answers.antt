use Rattle.std.proofs.lemmas.Int.{to_z-of_z}
use Rattle.std.specs.Int.{w64}
use mir.Val.{SFits}
use Rattle.fixed_geom.proofs.VectorLemmas.{spanned}
use Rattle.fixed_geom.proofs.vectors.span.Goals as goal

pub returns-then-is_within : goal.returns-then-is_within
returns-then-is_within c =
    let fits : SFits w64 c.span_64.result = record { sfits = c.span_64.type_inv } in
    simp to_z-of_z (spanned c.args.d c.span_64.result c.span_64.ensures.value)

pub returns-else-is_within : goal.returns-else-is_within
returns-else-is_within c =
    let fits : SFits w64 c.span_128.result = record { sfits = c.span_128.type_inv } in
    simp to_z-of_z (spanned c.args.d c.span_128.result c.span_128.ensures.value)
