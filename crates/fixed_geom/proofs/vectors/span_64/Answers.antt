use Rattle.std.proofs.Common.{arith, ◌≡◌, ◌∙◌, pos}
use Rattle.std.proofs.lemmas.Int.{ints}
use Rattle.std.specs.Int.{w64}
use mir.Val.{to_z}
use Rattle.fixed_geom.proofs.VectorLemmas.{span_from}
use Rattle.fixed_geom.proofs.vectors.span_64.Goals as goal

pub returns : goal.returns
returns c =
    let whole : to_z w64 c.root_64.result ≡ pos c.root_64.result = omega (arith, ints, c.root_64.ensures.small) in
    record { value = whole ∙ span_from c.args.d c.square_64.result c.root_64.result c.square_64.ensures c.root_64.ensures.below c.root_64.ensures.above }
